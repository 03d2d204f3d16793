use Rattle.std.proofs.Common.{◌∙◌}
use Rattle.std.specs.List.{find}
use Rattle.dns_zone.specs.Records.{alike}
use Rattle.dns_update.specs.ResourceRecord.{as_record}
use Rattle.dns_update.proofs.Found.{ok_at}
use Rattle.dns_update.proofs.owner_records.named.Goals as goal

pub returns : goal.returns
returns c =
    let xs = c.args.records.now in
    ok_at c.copy_of.result _ (find (alike (as_record c.args.item.now)) xs) c.copy_of.ensures
    (c.find_parts.ensures ∙ (λ i. find (alike (record { owner = (c.lend.ensures ∙ c.owner.ensures) i; rtype = c.rtype.ensures i; ttl = 0; rdata = c.rdata.ensures i })) xs))
