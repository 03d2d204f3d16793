use Rattle.std.proofs.Common.{◌≡◌, ◌+◌, ◌-◌, ◌/◌, suc, length, drop, Some, refl, sym, ◌∙◌, subst, arith}
use Rattle.std.specs.List.{slice_get}
use Rattle.std.specs.declared.cmp.Ordering.TheVariants.{Less}
use Rattle.std.proofs.lemmas.Option.{slice_get_read}
use Rattle.dns_zoneindex.specs.Children.{label_cmp, joined, AllChildren}
use Rattle.dns_zoneindex.proofs.Slots.{behind_from, ahead_to}
use Rattle.dns_zoneindex.proofs.group.place_by_halves.Goals as goal

pub halves-preserved-then-is_behind : goal.halves-preserved-then-is_behind
halves-preserved-then-is_behind c =
    let slots = c.args.slots.now in
    let s = c.index-slots-middle.result in
    let middle = c.halves.position + (c.halves.end - c.halves.position) / 2 in
    let i = c.halves.invariant in
    let at : slice_get slots middle ≡ Some s = slice_get_read slots (length slots) middle s refl (omega (arith, i.1, c.halves-test.true)) c.index-slots-middle.is in
    (omega (arith, c.halves-test.true), omega (arith, i.1, c.halves-test.true), i.2, behind_from c.args.label.now slots middle s at c.requires.kept (sym c.is_behind.ensures ∙ c.if-is_behind.true))

pub halves-preserved : goal.halves-preserved
halves-preserved c =
    let slots = c.args.slots.now in
    let s = c.index-slots-middle.result in
    let middle = c.halves.position + (c.halves.end - c.halves.position) / 2 in
    let i = c.halves.invariant in
    let at : slice_get slots middle ≡ Some s = slice_get_read slots (length slots) middle s refl (omega (arith, i.1, c.halves-test.true)) c.index-slots-middle.is in
    (omega (arith, c.halves-test.true), i.1, ahead_to c.args.label.now slots middle s at c.requires.kept c.requires.full (sym c.is_behind.ensures ∙ c.if-is_behind.false), i.3)

pub returns : goal.returns
returns c =
    let i = c.halves.invariant in
    let end : c.halves.end ≡ suc c.halves.position = omega (arith, i.0, c.halves-test.false) in
    record {
      there = omega (arith, i.0, i.1);
      ahead = i.2;
      behind = subst (λ p. AllChildren (λ x. label_cmp c.args.label.now x.label ≡ Less) (joined (drop p c.args.slots.now))) end i.3;
    }
