use Rattle.std.proofs.Common.{◌≡◌, ◌≤◌, ◌+◌, ◌++◌, length, map}
use Rattle.std.specs.Prelude.{vec_capacity}
use Rattle.dns_primary.specs.Open.{device_of_pending}
use Rattle.dns_primary.proofs.open.take_back.Given as goal

abbrev pub invariant-loop-last : goal.invariant-loop-last
invariant-loop-last g l = record {
  items : map (λ b. device_of_pending b) l.pending.items ++ l.devices.items ≡ map (λ b. device_of_pending b) l.initial.pending.items ++ l.initial.devices.items;
  room : length l.pending.items + length l.devices.items ≤ vec_capacity l.devices;
}

abbrev pub decreases-loop-last : goal.decreases-loop-last
decreases-loop-last g l = length l.pending.items
