use Rattle.std.proofs.Common.{[], ◌<◌, length, sym, ap, subst, ◌∙◌, arith}
use Rattle.std.proofs.lemmas.List.{append-nil}
use Rattle.dns_zoneindex.specs.Children.{items, joined, AllFull}
use Rattle.dns_zoneindex.specs.Entries.{flat}
use Rattle.dns_zoneindex.specs.Lent.{IsLent}
use Rattle.dns_zoneindex.specs.Owned.{path_records}
use Rattle.dns_zoneindex.specs.Size.{children_size}
use Rattle.dns_zoneindex.proofs.Lent.{lent_none, lent_there, records_flat, slot_smaller}
use Rattle.dns_zoneindex.proofs.node.Children.run_from.Goals as goal

pub returns-in-Run : goal.returns-in-Run
returns-in-Run c =
    let own = c.in-One.node.own in
    let is = sym (append-nil (path_records own)) ∙ sym (records_flat c.in-One.node []) ∙ ap (λ x. path_records (flat x)) (sym (ap items c.in-One.is)) in
    c.down.invariant c.in-Run.run'.now (subst (λ x. IsLent x c.down.left c.in-Run.run'.now) is c.in-Run.ensures)

pub down-preserved-in-Below : goal.down-preserved-in-Below
down-preserved-in-Below c = λ run h.
    let own = c.in-One.node.own in
    let is = sym (append-nil (path_records own)) ∙ sym (records_flat c.in-One.node []) ∙ ap (λ x. path_records (flat x)) (sym (ap items c.in-One.is)) in
    c.down.invariant run (subst (λ x. IsLent x c.down.left run) is (c.in-Below.ensures.1 run h))

pub down-smaller-in-Below : goal.down-smaller-in-Below
down-smaller-in-Below c = omega (arith, c.in-Below.ensures.0, ap (λ x. children_size (items x)) c.in-One.is)

pub down-preserved : goal.down-preserved
down-preserved c = λ run h.
    let g = c.deref-in-Many in
    let all = ap joined c.deref-in-Many-2.ensures.value ∙ g.view_is ∙ c.deref.ensures ∙ sym (ap items c.in-Many.is) in
    let lent = subst (λ x. IsLent (path_records (flat x)) c.in-Some.rest run) c.slot.view_is h in
    c.down.invariant run
    (subst (λ x. IsLent (path_records (flat x)) c.down.left run) all
    (lent_there c.deref-in-Many-2.result.now c.down.left c.in-Some.slot.now c.in-Some.rest run c.in-Some.ensures.found lent))

pub down-smaller : goal.down-smaller
down-smaller c =
    let g = c.deref-in-Many in
    let lent = c.deref-in-Many-2.result.now in
    let is = c.deref-in-Many-2.ensures.value in
    let all = ap joined is ∙ g.view_is ∙ c.deref.ensures ∙ sym (ap items c.in-Many.is) in
    let full : AllFull lent = subst AllFull (sym is) g.invariant.1 in
    let more : 1 < length lent = subst (λ x. 1 < length x) (sym is) g.invariant.2 in
    omega (
      arith,
      slot_smaller lent c.down.left c.in-Some.rest c.in-Some.slot.now c.in-Some.ensures.found full more,
      ap children_size c.slot.view_is,
      ap children_size all,
    )

pub returns-in-None : goal.returns-in-None
returns-in-None c =
    let g = c.deref-in-Many in
    let all = ap joined c.deref-in-Many-2.ensures.value ∙ g.view_is ∙ c.deref.ensures ∙ sym (ap items c.in-Many.is) in
    c.down.invariant [] (subst (λ x. IsLent (path_records (flat x)) c.down.left []) all (lent_none (flat (joined c.deref-in-Many-2.result.now)) c.down.left c.in-None.ensures.none))
