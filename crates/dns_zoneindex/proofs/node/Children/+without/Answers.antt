use Rattle.std.proofs.Common.{[], ◌∷◌, refl, sym, ap, ◌∙◌, subst}
use Rattle.std.proofs.lemmas.List.{append-nil}
use Rattle.dns_zoneindex.specs.Children.{items, joined, AreChildren}
use Rattle.dns_zoneindex.specs.Assoc.{without_child}
use Rattle.dns_zoneindex.proofs.Results.{if_ok}
use Rattle.dns_zoneindex.proofs.Sides.{children_without}
use Rattle.dns_zoneindex.proofs.Slots.{at_place, without_in, full_in, without_one, without_other}
use Rattle.dns_zoneindex.proofs.node.Children.+without.Goals as goal

pub returns-then-is_called-clause-taken : goal.returns-then-is_called-clause-taken
returns-then-is_called-clause-taken t c =
    let q = c.args.label.now in
    ap joined c.new-then-is_called.ensures.items
    ∙ sym (without_one q c.in-One.own (sym c.is_called.ensures ∙ c.if-is_called.true))
    ∙ ap (without_child q) (sym (ap items c.in-One.is))

pub returns-in_ok-share-in-One-clause-taken : goal.returns-in_ok-share-in-One-clause-taken
returns-in_ok-share-in-One-clause-taken t c =
    let q = c.args.label.now in
    let own = c.in-One.own in
    let left = sym (without_other q own (sym c.is_called.ensures ∙ c.if-is_called.false)) ∙ ap (without_child q) (sym (ap items c.in-One.is)) in
    let slot = c.one.ensures ∙ ap (λ n. n ∷ []) c.in_ok-share-in-One.ensures in
    if_ok c.one-in-One.result (λ slots e. ap joined e ∙ append-nil c.one.result ∙ slot ∙ left) c.one-in-One.ensures

pub gathered-requires-clause-full : goal.gathered-requires-clause-full
gathered-requires-clause-full t c =
    let g = c.deref-in-Many in
    let slots = g.inside.slots.items in
    let q = c.args.label.now in
    let h = at_place q q slots c.deref-in-Many-2.result.now c.place_of-position.result c.index.result.now refl c.deref-in-Many-2.ensures.value c.place_of-position.ensures c.index.ensures in
    full_in slots c.deref-in-Many-3.result.now c.in_ok-rest-in-Many.rest.items c.in_ok-replaced-in-Many.field-0.items c.place_of-position.result c.index.result.now h.1 g.invariant.1 c.in_ok-rest-in-Many.ensures.full c.deref-in-Many-3.ensures.value c.in_ok-replaced-in-Many.ensures

pub gathered-requires-clause-kept : goal.gathered-requires-clause-kept
gathered-requires-clause-kept t c =
    let g = c.deref-in-Many in
    let slots = g.inside.slots.items in
    let q = c.args.label.now in
    let h = at_place q q slots c.deref-in-Many-2.result.now c.place_of-position.result c.index.result.now refl c.deref-in-Many-2.ensures.value c.place_of-position.ensures c.index.ensures in
    let is = g.view_is ∙ c.deref.ensures ∙ sym (ap items c.in-Many.is) in
    let left = without_in q (items c.args.self.now) slots c.deref-in-Many-3.result.now c.in_ok-rest-in-Many.rest.items c.in_ok-replaced-in-Many.field-0.items c.place_of-position.result c.index.result.now (items c.behind-slots.inside.children) is h c.behind-slots.view_is c.in_ok-rest-in-Many.ensures.taken c.deref-in-Many-3.ensures.value c.in_ok-replaced-in-Many.ensures in
    subst AreChildren (sym left) (children_without q (items c.args.self.now) (subst AreChildren is g.invariant.0))

pub returns-in_ok-replaced-in-Many-clause-taken : goal.returns-in_ok-replaced-in-Many-clause-taken
returns-in_ok-replaced-in-Many-clause-taken t c =
    let g = c.deref-in-Many in
    let slots = g.inside.slots.items in
    let q = c.args.label.now in
    let h = at_place q q slots c.deref-in-Many-2.result.now c.place_of-position.result c.index.result.now refl c.deref-in-Many-2.ensures.value c.place_of-position.ensures c.index.ensures in
    let is = g.view_is ∙ c.deref.ensures ∙ sym (ap items c.in-Many.is) in
    let left = without_in q (items c.args.self.now) slots c.deref-in-Many-3.result.now c.in_ok-rest-in-Many.rest.items c.in_ok-replaced-in-Many.field-0.items c.place_of-position.result c.index.result.now (items c.behind-slots.inside.children) is h c.behind-slots.view_is c.in_ok-rest-in-Many.ensures.taken c.deref-in-Many-3.ensures.value c.in_ok-replaced-in-Many.ensures in
    if_ok c.gathered.result (λ made e. e ∙ left) c.gathered.ensures.made
