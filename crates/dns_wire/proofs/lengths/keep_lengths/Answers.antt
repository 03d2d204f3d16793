use Rattle.std.proofs.Common.{◌≤◌, List, ℕ, sym, subst, arith}
use Rattle.dns_names.specs.Runs.{run_up}
use Rattle.dns_wire.specs.Lengths.{IsMeasured, AreLengths}
use Rattle.dns_wire.proofs.Measures.{kept, measured_behind}
use Rattle.dns_wire.proofs.lengths.keep_lengths.Goals as goal
use Rattle.dns_wire.proofs.lengths.keep_lengths.Goals.{then-run-lengths, else-run-lengths}

pub overflow_sub-left : goal.overflow_sub-left
overflow_sub-left c =
    let f = rw c.in-Ok-Pointer.field-0-is at c.in-Ok-Pointer.ensures.found in
    run_up c.args.message.now c.targets.run f.0 c.in-Ok-Pointer.stop f.1

pub overflow_sub-left-in-targets : goal.overflow_sub-left-in-targets
overflow_sub-left-in-targets c =
    let m = c.args.message.now in
    let f = rw c.in-Ok-Pointer.field-0-is at c.in-Ok-Pointer.ensures.found in
    let up : c.targets.run ≤ c.in-Ok-Pointer.stop = run_up m c.targets.run f.0 c.in-Ok-Pointer.stop f.1 in
    (measured_behind m c.targets.run c.targets.left f.0 c.in-Ok-Pointer.stop c.in-Ok-Pointer.target f.1 f.2 up c.targets.invariant.name).0

pub targets-preserved : goal.targets-preserved
targets-preserved c =
    let m = c.args.message.now in
    let f = rw c.in-Ok-Pointer.field-0-is at c.in-Ok-Pointer.ensures.found in
    let up : c.targets.run ≤ c.in-Ok-Pointer.stop = run_up m c.targets.run f.0 c.in-Ok-Pointer.stop f.1 in
    let short : c.targets.left ≤ 255 = c.targets.invariant.short in
    let inside : c.targets.run ≤ _ = c.targets.invariant.inside in
    record {
      inside = omega (arith, f.4, inside);
      short = omega (arith, short);
      name = (measured_behind m c.targets.run c.targets.left f.0 c.in-Ok-Pointer.stop c.in-Ok-Pointer.target f.1 f.2 up c.targets.invariant.name).1;
      known = elim c.if-run-lengths.branch [
        | then-run-lengths w ↦ subst (λ (xs : List ℕ). AreLengths m xs) (sym w.lengths-is) (kept (IsMeasured m) c.targets.lengths c.targets.run c.targets.left c.targets.invariant.known w.if-run-lengths.true c.targets.invariant.name)
        | else-run-lengths w ↦ subst (λ (xs : List ℕ). AreLengths m xs) (sym w.lengths-is) c.targets.invariant.known
      ];
    }
