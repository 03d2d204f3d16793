use Rattle.std.proofs.Common.{◌≡◌, length}
use Rattle.dns_zoneindex.specs.Children.{joined, AreChildren, AllFull}
use Rattle.dns_zoneindex.proofs.group.in_levels.Given as goal

abbrev pub invariant-levels : goal.invariant-levels
invariant-levels l = (joined l.slots.items ≡ joined l.initial.slots.items) × AllFull l.slots.items × AreChildren (joined l.slots.items)

abbrev pub decreases-levels : goal.decreases-levels
decreases-levels l = length l.slots.items
