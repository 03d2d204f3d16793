use Rattle.std.proofs.Common.{sym, ap, ◌∙◌, subst}
use Rattle.dns_zoneindex.specs.Children.{items, AreChildren}
use Rattle.dns_zoneindex.proofs.Results.{if_ok}
use Rattle.dns_zoneindex.proofs.Sides.{children_put}
use Rattle.dns_zoneindex.proofs.Slots.{at_place, put_in, full_in}
use Rattle.dns_zoneindex.proofs.node.Children.+put.Goals as goal

pub gathered-requires-clause-full : goal.gathered-requires-clause-full
gathered-requires-clause-full t c =
    let g = c.deref-in-Many in
    let slots = g.inside.slots.items in
    let label = c.label.ensures in
    let h = at_place c.args.node.label c.label.result.now slots c.deref-in-Many-2.result.now c.place_of-position.result c.index.result.now label c.deref-in-Many-2.ensures.value c.place_of-position.ensures c.index.ensures in
    full_in slots c.deref-in-Many-3.result.now c.in_ok-come-in-Many.come.items c.in_ok-replaced-in-Many.field-0.items c.place_of-position.result c.index.result.now h.1 g.invariant.1 c.in_ok-come-in-Many.ensures.full c.deref-in-Many-3.ensures.value c.in_ok-replaced-in-Many.ensures

pub gathered-requires-clause-kept : goal.gathered-requires-clause-kept
gathered-requires-clause-kept t c =
    let g = c.deref-in-Many in
    let slots = g.inside.slots.items in
    let node = c.args.node in
    let label = c.label.ensures in
    let h = at_place node.label c.label.result.now slots c.deref-in-Many-2.result.now c.place_of-position.result c.index.result.now label c.deref-in-Many-2.ensures.value c.place_of-position.ensures c.index.ensures in
    let is = g.view_is ∙ c.deref.ensures ∙ sym (ap items c.in-Many.is) in
    let put = put_in node (items c.args.self.now) slots c.deref-in-Many-3.result.now c.in_ok-come-in-Many.come.items c.in_ok-replaced-in-Many.field-0.items c.place_of-position.result c.index.result.now (items c.behind-slots.inside.children) is h c.behind-slots.view_is c.in_ok-come-in-Many.ensures.put c.deref-in-Many-3.ensures.value c.in_ok-replaced-in-Many.ensures in
    subst AreChildren (sym put) (children_put node (items c.args.self.now) c.requires.some (subst AreChildren is g.invariant.0))

pub returns-in_ok-replaced-in-Many-clause-put : goal.returns-in_ok-replaced-in-Many-clause-put
returns-in_ok-replaced-in-Many-clause-put t c =
    let g = c.deref-in-Many in
    let slots = g.inside.slots.items in
    let node = c.args.node in
    let label = c.label.ensures in
    let h = at_place node.label c.label.result.now slots c.deref-in-Many-2.result.now c.place_of-position.result c.index.result.now label c.deref-in-Many-2.ensures.value c.place_of-position.ensures c.index.ensures in
    let is = g.view_is ∙ c.deref.ensures ∙ sym (ap items c.in-Many.is) in
    let put = put_in node (items c.args.self.now) slots c.deref-in-Many-3.result.now c.in_ok-come-in-Many.come.items c.in_ok-replaced-in-Many.field-0.items c.place_of-position.result c.index.result.now (items c.behind-slots.inside.children) is h c.behind-slots.view_is c.in_ok-come-in-Many.ensures.put c.deref-in-Many-3.ensures.value c.in_ok-replaced-in-Many.ensures in
    if_ok c.gathered.result (λ made e. e ∙ put) c.gathered.ensures.made
