use Rattle.std.proofs.Common.{◌≡◌, ◌⊎◌, inl, inr, get_or, sym, arith}
use Rattle.dns_zoneindex.proofs.Beside.{place_by_key}
use Rattle.dns_zoneindex.proofs.group.place_alone.Goals.{else-position-gt0-via-then-position-gt0+else-keys-position, else-position-gt0-via-else-position-gt0}
use Rattle.dns_zoneindex.proofs.group.place_alone.Goals as goal

pub returns-then-position-slots-clause-position : goal.returns-then-position-slots-clause-position
returns-then-position-slots-clause-position c = λ skip label keys full kept key begin.
    let p = c.last_up_to-position.result in
    let apart : (p ≡ 0) ⊎ (c.args.key ≡ get_or c.args.keys.now p 0 → ⊥) = elim c.else-position-gt0.branch [
      | else-position-gt0-via-then-position-gt0+else-keys-position w ↦ inr (λ e. w.if-keys-position.false (sym e))
      | else-position-gt0-via-else-position-gt0 w ↦ inl (omega (arith, w.if-position-gt0.false))
    ] in
    place_by_key skip label c.args.key c.args.keys.now c.args.slots.now p keys full kept key begin c.if-position-slots.true c.told-keys c.last_up_to-position.ensures apart c.else-position-eq-MOST.either
