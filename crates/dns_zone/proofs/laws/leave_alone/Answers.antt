use Rattle.std.proofs.Common.{◌≡◌, true, List, sym, subst, ◌∙◌}
use Rattle.dns_records.specs.Record.{Record}
use Rattle.dns_zone.specs.Records.{is_ordered, are_of}
use Rattle.dns_zone.proofs.Replaced.{rrset_ordered, rrset_pass}
use Rattle.dns_zone.proofs.laws.leave_alone.Goals as goal

pub replace_at-requires-clause-order : goal.replace_at-requires-clause-order
replace_at-requires-clause-order g c =
    let set = c.args.index.now in
    let xs = g.I.ZoneIndex.records set in
    subst (λ (ys : List Record). is_ordered ys ≡ true) (sym (c.in_ok-kept.ensures.items_if_clones_equal (λ x y e. e) ∙ c.rrset.ensures)) (rrset_ordered xs c.args.name.now c.args.rtype (g.met.I.ZoneIndex.ordered set))

pub replace_at-requires-clause-owned : goal.replace_at-requires-clause-owned
replace_at-requires-clause-owned g c =
    let xs = g.I.ZoneIndex.records c.args.index.now in
    subst (λ (ys : List Record). are_of c.args.name.now ys ≡ true) (sym (c.in_ok-kept.ensures.items_if_clones_equal (λ x y e. e) ∙ c.rrset.ensures)) (rrset_pass c.args.name.now c.args.rtype xs)
