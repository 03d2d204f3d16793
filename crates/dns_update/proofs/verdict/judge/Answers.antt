use Rattle.std.proofs.Common.{sym, subst, ◌∙◌}
use Rattle.std.specs.List.{AllByRecursion}
use Rattle.dns_update.specs.ResourceRecord.{HasForm}
use Rattle.dns_update.proofs.Forms.{updates_formed}
use Rattle.dns_update.proofs.verdict.judge.Goals as goal

pub judge_items-requires-clause-form : goal.judge_items-requires-clause-form
judge_items-requires-clause-form g c =
    let m = c.args.message.now in
    subst (AllByRecursion HasForm) (sym (c.in_ok-items.ensures.all ∙ c.authorities.ensures)) (updates_formed m.octets m.message c.octets-reads.ensures.message)
