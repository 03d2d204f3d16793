use Rattle.std.proofs.Common.{◌≡◌, ◌+◌, ◌++◌, [], ◌∷◌, suc, length, take, drop, Some, refl, ap, ◌∙◌, arith}
use Rattle.std.specs.List.{slice_get}
use Rattle.std.proofs.Common.{take-add}
use Rattle.std.proofs.lemmas.Option.{slice_get_read}
use Rattle.dns_zoneindex.specs.Entries.{flat}
use Rattle.dns_zoneindex.specs.Children.{joined}
use Rattle.dns_zoneindex.proofs.Counts.{length-flat-append}
use Rattle.dns_zoneindex.proofs.Slots.{from, around, joined-append}
use Rattle.dns_zoneindex.proofs.run.slot_of.Goals as goal

pub returns-then-left-slot-clause-found : goal.returns-then-left-slot-clause-found
returns-then-left-slot-clause-found c =
    let slots = c.args.slots.now in
    let i = c.loop-slot.slot-index in
    let s = c.slot-item.result in
    let at : slice_get slots i ≡ Some s = slice_get_read slots (length slots) i s refl c.loop-slot-test.true c.slot-item.is in
    record {
      front = take i slots;
      back = drop (suc i) slots;
      whole = around slots i s at;
      before = c.loop-slot.invariant;
      within = omega (arith, c.if-left-slot.true, c.slot.invariant.0, ap (λ x. length (flat x)) c.slot.view_is);
    }

pub loop-slot-preserved : goal.loop-slot-preserved
loop-slot-preserved c =
    let slots = c.args.slots.now in
    let i = c.loop-slot.slot-index in
    let s = c.slot-item.result in
    let at : slice_get slots i ≡ Some s = slice_get_read slots (length slots) i s refl c.loop-slot-test.true c.slot-item.is in
    let more : joined (take (i + 1) slots) ≡ joined (take i slots) ++ (s ++ []) =
    ap joined (take-add i 1 slots ∙ ap (λ z. take i slots ++ take 1 z) (from slots i s at)) ∙ joined-append (take i slots) (s ∷ []) in
    omega (
      arith,
      c.loop-slot.invariant,
      c.if-left-slot.false,
      c.slot.invariant.0,
      ap (λ x. length (flat x)) c.slot.view_is,
      ap (λ x. length (flat x)) more,
      length-flat-append (joined (take i slots)) (s ++ []),
      length-flat-append s [],
    )
