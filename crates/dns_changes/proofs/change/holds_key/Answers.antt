use Rattle.std.proofs.Common.{◌≡◌, true, List, sym, ap, subst, ◌∙◌}
use Rattle.dns_records.specs.Record.{Record}
use Rattle.dns_zone.specs.Records.{has, is_ordered, rrset}
use Rattle.dns_zone.proofs.Replaced.{rrset_ordered}
use Rattle.dns_changes.proofs.Steps.{tied_here, ok_has}
use Rattle.dns_changes.proofs.change.holds_key.Goals as goal

pub find_record-requires : goal.find_record-requires
find_record-requires g c =
    let xs = g.I.ZoneIndex.records c.args.set.now in
    subst (λ (rs : List Record). is_ordered rs ≡ true) (sym c.rrset-rrset.ensures) (rrset_ordered xs _ _ (g.met.I.ZoneIndex.ordered c.args.set.now))

pub returns : goal.returns
returns g c =
    let xs = g.I.ZoneIndex.records c.args.set.now in
    let r = c.args.wanted.now in
    c.is_ok.ensures.value ∙ ok_has r c.rrset-rrset.result.now c.find_record.result c.find_record.ensures.found c.find_record.ensures.absent
    ∙ ap (has r) (c.rrset-rrset.ensures ∙ (λ i. rrset xs ((c.lend.ensures ∙ c.owner.ensures) i) (c.rtype.ensures i))) ∙ tied_here r xs
