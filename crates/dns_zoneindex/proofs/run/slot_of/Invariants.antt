use Rattle.std.proofs.Common.{◌≡◌, ◌+◌, length, take}
use Rattle.dns_zoneindex.specs.Entries.{flat}
use Rattle.dns_zoneindex.specs.Children.{joined}
use Rattle.dns_zoneindex.proofs.run.slot_of.Given as goal

abbrev pub invariant-loop-slot : goal.invariant-loop-slot
invariant-loop-slot l = l.fn.position ≡ length (flat (joined (take l.slot-index l.slots))) + l.left
