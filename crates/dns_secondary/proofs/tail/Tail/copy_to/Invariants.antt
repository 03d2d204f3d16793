use Rattle.std.proofs.Common.{◌≡◌, ◌++◌, take}
use Rattle.std.specs.List.{flat_map}
use Rattle.dns_secondary.proofs.tail.Tail.copy_to.Given as goal

abbrev pub invariant-runs : goal.invariant-runs
invariant-runs l = l.out.items ≡ l.initial.out.items ++ flat_map (λ run. run) (take l.run-index l.run-items)
