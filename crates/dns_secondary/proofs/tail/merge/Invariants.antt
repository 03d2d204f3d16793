use Rattle.std.proofs.Common.{◌≡◌, ◌++◌, length}
use Rattle.std.specs.List.{flat_map}
use Rattle.dns_secondary.proofs.tail.merge.Given as goal

abbrev pub invariant-loop-run : goal.invariant-loop-run
invariant-loop-run l =
    flat_map (λ run. run) l.runs.items ++ l.merged.items
    ≡ flat_map (λ run. run) l.initial.runs.items ++ l.initial.merged.items

abbrev pub decreases-loop-run : goal.decreases-loop-run
decreases-loop-run l = length l.runs.items
