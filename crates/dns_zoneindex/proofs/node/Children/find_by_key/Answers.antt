use Rattle.std.proofs.Common.{sym, subst, ap, ◌∙◌}
use Rattle.dns_zoneindex.specs.Children.{items}
use Rattle.dns_zoneindex.specs.Assoc.{child_of}
use Rattle.dns_zoneindex.specs.Slots.{HasAlone}
use Rattle.dns_zoneindex.proofs.Fronts.{found_alone, found_in}
use Rattle.dns_zoneindex.proofs.Slots.{child_alone, child_one, child_other}
use Rattle.dns_zoneindex.proofs.node.Children.find_by_key.Goals as goal

pub returns-then-is_called : goal.returns-then-is_called
returns-then-is_called c =
    let q = c.args.label.now in
    let n = c.in-One.node in
    sym (child_one q n (sym c.is_called.ensures ∙ c.if-is_called.true)) ∙ ap (child_of q) (sym (ap items c.in-One.is)) ∙ c.down.invariant.0

pub returns-in-One : goal.returns-in-One
returns-in-One c =
    let q = c.args.label.now in
    let n = c.in-One.node in
    sym (child_other q n (sym c.is_called.ensures ∙ c.if-is_called.false)) ∙ ap (child_of q) (sym (ap items c.in-One.is)) ∙ c.down.invariant.0

pub down-preserved-in-Some : goal.down-preserved-in-Some
down-preserved-in-Some c =
    let q = c.args.label.now in
    let g = c.deref-in-Many in
    let i = g.inside in (
      ap (child_of q) c.behind-slots.view_is
          ∙ found_alone q i.count c.key_further-here_key.result i.skip c.in-Some.position i.keys i.whole i.slots.items c.deref-then-whole.result.now c.index.result.now c.deref-then-whole.ensures.value
          g.invariant c.if-whole.true c.key_further-here_key.ensures c.in-Some.ensures.there c.in-Some.ensures.position c.index.ensures
          ∙ ap (child_of q) (g.view_is ∙ c.deref.ensures ∙ sym (ap items c.in-Many.is))
          ∙ c.down.invariant.0,
      c.key_further-here_key.ensures,
    )

pub returns-then-is_called-2 : goal.returns-then-is_called-2
returns-then-is_called-2 c =
    let q = c.args.label.now in
    let g = c.deref-in-Many in
    let i = g.inside in
    let n = c.in-Some-only_tied.node.now in
    let alone : HasAlone i.slots.items n = subst (λ x. HasAlone x n) c.deref-then-whole-2.ensures.value c.in-Some-only_tied.ensures in
    sym (child_alone q i.slots.items n alone g.invariant.0 g.invariant.1 (sym c.is_called-in-Some-only_tied.ensures ∙ c.if-is_called-2.true))
    ∙ ap (child_of q) (g.view_is ∙ c.deref.ensures ∙ sym (ap items c.in-Many.is))
    ∙ c.down.invariant.0

pub down-preserved : goal.down-preserved
down-preserved c =
    let q = c.args.label.now in
    let g = c.deref-in-Many in
    let slots = g.inside.slots.items in
    let s = c.index-in-Many.result.now in (
      ap (child_of q) c.behind-slots-in-Many.view_is
          ∙ found_in q slots c.deref-in-Many-2.result.now c.place_to_find-position.result s c.deref-in-Many-2.ensures.value c.place_to_find-position.ensures c.index-in-Many.ensures
          ∙ ap (child_of q) (g.view_is ∙ c.deref.ensures ∙ sym (ap items c.in-Many.is))
          ∙ c.down.invariant.0,
      c.down.invariant.1,
    )
