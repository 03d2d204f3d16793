use Rattle.std.proofs.Common.{◌≡◌, ◌++◌, take}
use Rattle.dns_zoneindex.proofs.group.push_shared.Given as goal

abbrev pub invariant-loop-slot : goal.invariant-loop-slot
invariant-loop-slot l = l.made.items ≡ l.initial.made.items ++ take l.slot-index l.slots
