use Rattle.std.proofs.Common.{◌<◌, length, sym, ap, ◌∙◌, subst}
use Rattle.dns_zoneindex.specs.Entries.{flat}
use Rattle.dns_zoneindex.specs.Children.{items}
use Rattle.dns_zoneindex.proofs.Slots.{some_flat}
use Rattle.dns_zoneindex.proofs.node.Children.is_empty.Goals as goal

pub returns-in-Many : goal.returns-in-Many
returns-in-Many c =
    let g = c.behind-group in
    let is = g.view_is ∙ c.deref.ensures ∙ sym (ap items c.in-Many.is) in
    subst (λ x. 0 < length (flat x)) is (some_flat g.inside.slots.items g.invariant.0 g.invariant.1 g.invariant.2)
