use Rattle.std.proofs.Common.{◌≡◌, take}
use Rattle.dns_update.specs.Listed.{listed}
use Rattle.dns_update.proofs.prerequisites.listed_set.Given as goal

abbrev pub invariant-loop-item : goal.invariant-loop-item
invariant-loop-item g l = g.L.ZoneIndex.records l.set ≡ listed (g.I.ZoneIndex.records l.index) (take l.item-index l.items)
