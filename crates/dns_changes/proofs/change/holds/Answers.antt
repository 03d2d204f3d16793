use Rattle.std.proofs.Common.{◌≡◌, true, List, sym, ap, subst, ◌∙◌}
use Rattle.dns_records.specs.Record.{Record}
use Rattle.dns_zone.specs.Records.{contains, is_ordered, rrset}
use Rattle.dns_zone.proofs.Replaced.{rrset_ordered}
use Rattle.dns_changes.proofs.Steps.{present_here}
use Rattle.dns_changes.proofs.change.holds.Goals as goal

pub is_among-requires : goal.is_among-requires
is_among-requires g c =
    let xs = g.I.ZoneIndex.records c.args.set.now in
    subst (λ (rs : List Record). is_ordered rs ≡ true) (sym c.rrset-rrset.ensures) (rrset_ordered xs _ _ (g.met.I.ZoneIndex.ordered c.args.set.now))

pub returns : goal.returns
returns g c =
    let xs = g.I.ZoneIndex.records c.args.set.now in
    let r = c.args.wanted.now in
    c.is_among.ensures ∙ ap (λ (rs : List Record). contains rs r) (c.rrset-rrset.ensures ∙ (λ i. rrset xs ((c.lend.ensures ∙ c.owner.ensures) i) (c.rtype.ensures i))) ∙ present_here r xs
