use Rattle.std.proofs.Common.{◌≡◌, ◌+◌, ◌-◌, length, take}
use Rattle.std.specs.Prelude.{min, ◌^◌}
use Rattle.std.specs.List.{flat_map}
use Rattle.dns_secondary.proofs.tail.Tail.count.Given as goal

abbrev pub invariant-runs : goal.invariant-runs
invariant-runs l = l.count ≡ min (length (flat_map (λ run. run) (take l.run-index l.run-items)) + l.initial.count) (2 ^ 64 - 1)
