use Rattle.std.proofs.Common.{◌≡◌, ◌-◌, suc, length, Some, sym, ap, ◌∙◌, arith}
use Rattle.std.specs.List.{slice_get}
use Rattle.dns_zoneindex.specs.Children.{items, last_of}
use Rattle.dns_zoneindex.proofs.Fronts.{last_joined}
use Rattle.dns_zoneindex.proofs.node.Children.+last.Goals as goal

pub returns-in_ok-last-in-Many : goal.returns-in_ok-last-in-Many
returns-in_ok-last-in-Many t c =
    let g = c.deref-in-Many in
    let slots = g.inside.slots.items in
    let s = c.in_ok-last-in-Many.field-0.now in
    let lent = c.deref-in-Many-2.ensures.value in
    let at : slice_get slots (length slots - 1) ≡ Some s =
    ap (λ xs. slice_get xs (length xs - 1)) (sym lent) ∙ sym c.in_ok-last-in-Many.ensures.value in
    let some : suc (length slots - 1) ≡ length slots = omega (arith, g.invariant.2) in
    c.last-in-Many.ensures
    ∙ ap last_of c.branch.view_is
    ∙ sym (last_joined slots (length slots - 1) s g.invariant.1 some at)
    ∙ ap last_of (g.view_is ∙ c.deref.ensures ∙ sym (ap items c.in-Many.is))
