use Rattle.std.proofs.Common.{◌≡◌, ◌≤◌, ◌-◌, ◌+◌, length, get_or, refl, arith}
use Rattle.std.proofs.lemmas.Result.{err_from_is_err_and}
use Rattle.dns_names.specs.Name.{wire}
use Rattle.dns_names.specs.Runs.{run_up}
use Rattle.dns_wire.specs.NameAt.{ends}
use Rattle.dns_wire.specs.Lengths.{IsMeasured}
use Rattle.dns_wire.specs.Refusals.{here, behind}
use Rattle.dns_wire.specs.declared.ReadError.TheVariants.{NameTooLong}
use Rattle.dns_wire.proofs.Names.{leaves_next}
use Rattle.dns_wire.proofs.Measures.{reaches_next, reaches_root, too_long, length_once, room_behind}
use Rattle.dns_wire.proofs.lengths.measured.Goals as goal
use Rattle.dns_wire.proofs.lengths.measured.Goals.{Then-known-gt0, In-Root, In-Pointer}

known : (c : Then-known-gt0) → IsMeasured c.args.message.now c.runs.run c.length_at-known.result
known c =
    let same : c.length_at-known.result ≡ get_or c.args.lengths.now c.runs.run 0 = c.length_at-known.ensures in
    rw same (c.requires.known c.runs.run (λ z. omega (arith, same, z, c.if-known-gt0.true)))

pub returns-then-room-size-clause-refused : goal.returns-then-room-size-clause-refused
returns-then-room-size-clause-refused c = λ name end h short.
    (let m = c.args.message.now in
    let left = c.runs.invariant.leaves name end h in
    let sized : length (wire name) ≡ c.runs.size + length (wire left.rest) = left.sized in
    let same : length (wire left.rest) ≡ c.length_at-known.result = length_once m c.runs.run c.length_at-known.result left.rest left.end (λ i. omega (arith, c.type_inv.message i)) (known (goal.at.returns-then-room-size-clause-refused c).Then-known-gt0) (omega (arith, c.length_at-known.ensures, c.type_inv.lengths c.runs.run)) left.stands (omega (arith, sized, short)) in
    omega (arith, sized, same, short))

pub returns-then-room-size-clause-cause : goal.returns-then-room-size-clause-cause
returns-then-room-size-clause-cause c =
    let k = known (goal.at.returns-then-room-size-clause-cause c).Then-known-gt0 in
    let sized : length (wire k.name) ≡ c.length_at-known.result = k.sized in
    c.runs.invariant.causes NameTooLong (too_long (c.args.room - c.runs.size) k.stands (omega (arith, sized)))

pub returns-in_err-stop-clause-cause : goal.returns-in_err-stop-clause-cause
returns-in_err-stop-clause-cause c =
    let p = err_from_is_err_and c.from_residual.result c.from_residual.ensures.1 in
    rw (p.1, p.2) (c.runs.invariant.causes c.in_err-stop.field-0.0 (here c.in_err-stop.ensures.cause))

root_up : (c : In-Root) → c.runs.run ≤ c.in-Root.stop
root_up c =
    let f = rw c.in-Root.is at c.in_ok-stop.ensures.found in
    run_up c.args.message.now c.runs.run f.0 c.in-Root.stop f.1

pub overflow_sub-result : goal.overflow_sub-result
overflow_sub-result c = root_up (goal.at.overflow_sub-result c).In-Root

pub returns-in-Root-clause-found : goal.returns-in-Root-clause-found
returns-in-Root-clause-found c =
    let m = c.args.message.now in
    let f = rw c.in-Root.is at c.in_ok-stop.ensures.found in
    let up : c.runs.run ≤ c.in-Root.stop = run_up m c.runs.run f.0 c.in-Root.stop f.1 in
    (reaches_root m c.args.first c.runs.run c.runs.size f.0 c.in-Root.stop f.1 (ends c.in-Root.stop f.1 f.2 refl) up c.runs.invariant.reaches, omega (arith, f.3, c.runs.invariant.small))

pub overflow_sub-size : goal.overflow_sub-size
overflow_sub-size c =
    let f = rw c.in-Pointer.is at c.in_ok-stop.ensures.found in
    run_up c.args.message.now c.runs.run f.0 c.in-Pointer.stop f.1

pub runs-preserved : goal.runs-preserved
runs-preserved c =
    let m = c.args.message.now in
    let f = rw c.in-Pointer.is at c.in_ok-stop.ensures.found in
    let up : c.runs.run ≤ c.in-Pointer.stop = run_up m c.runs.run f.0 c.in-Pointer.stop f.1 in
    record {
      inside = omega arith;
      small = omega arith;
      reaches = reaches_next m c.args.first c.runs.run c.runs.size f.0 c.in-Pointer.stop c.in-Pointer.target f.1 f.2 f.3 f.4 up c.runs.invariant.reaches;
      leaves = leaves_next m c.args.first c.runs.run c.runs.size f.0 c.in-Pointer.stop c.in-Pointer.target f.1 f.2 up c.runs.invariant.leaves;
      causes = λ e h. c.runs.invariant.causes e (behind f.0 c.in-Pointer.stop c.in-Pointer.target f.1 f.2 f.3 f.4 (room_behind m e c.in-Pointer.target c.args.room c.runs.size (c.in-Pointer.stop - c.runs.run) h));
    }
