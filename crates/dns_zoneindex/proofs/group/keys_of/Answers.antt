use Rattle.std.proofs.Common.{◌≡◌, ◌+◌, suc, length, take, refl, ◌∙◌, subst, arith}
use Rattle.std.specs.Prelude.{slice_set}
use Rattle.std.specs.List.{slice_get}
use Rattle.std.proofs.lemmas.Option.{slice_get_read}
use Rattle.std.proofs.lemmas.List.{length-set, take_all}
use Rattle.std.specs.Prelude.{Some}
use Rattle.dns_zoneindex.specs.Children.{AreKeys}
use Rattle.dns_zoneindex.proofs.Beside.{keys_here, keys_more}
use Rattle.dns_zoneindex.proofs.group.keys_of.Goals as goal

pub returns-in_default : goal.returns-in_default
returns-in_default c = keys_here c.args.skip c.keys.position c.keys.keys c.args.slots.now c.keys.invariant.1 (omega (arith, c.in_default.ensures.lookup.3))

pub keys-preserved : goal.keys-preserved
keys-preserved c =
    let slots = c.args.slots.now in
    let keys = c.keys.keys in
    let position = c.keys.position in
    let skip = c.args.skip in
    let key = c.key_after.result in
    let s = c.in-Some.slot.now in
    let lookup = c.in-Some.ensures.lookup in
    let i = c.keys.invariant in
    let at : slice_get slots position ≡ Some s = slice_get_read slots (length slots) position s refl lookup.3.0 lookup.1 in
    let next : suc position ≡ position + 1 = omega arith in (
      length-set keys position key ∙ i.0,
      subst (λ n. AreKeys skip (take n (slice_set keys position key)) slots) next
          (keys_more skip keys position key slots s i.1 (omega (arith, c.keys-test.true, i.0)) at c.key_after.ensures),
    )

pub returns : goal.returns
returns c =
    let i = c.keys.invariant in
    subst (λ keys. AreKeys c.args.skip keys c.args.slots.now) (take_all c.keys.position c.keys.keys (omega (arith, i.0, c.keys-test.false))) i.1
