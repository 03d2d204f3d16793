use Rattle.dns_answer.proofs.short.short_reply.Goals as goal

pub returns-in-Some-only_record : goal.returns-in-Some-only_record
returns-in-Some-only_record g c t fs are holds short = (rw c.in-Some-only_record.is at c.only_record.ensures) c.args.zones.now t fs are holds

pub returns-in-Some-2 : goal.returns-in-Some-2
returns-in-Some-2 g c t fs are holds short = (rw c.in-Some-2.is at c.in_ok-records.ensures) c.args.zones.now t fs are holds
