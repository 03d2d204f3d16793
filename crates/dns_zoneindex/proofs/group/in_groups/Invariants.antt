use Rattle.std.proofs.Common.{◌≡◌, ◌++◌, ◌+◌, ◌<◌, ◌≤◌, length, reverse}
use Rattle.dns_zoneindex.specs.Children.{joined, AreChildren, AllFull}
use Rattle.dns_zoneindex.proofs.group.in_groups.Given as goal

abbrev pub invariant-groups : goal.invariant-groups
invariant-groups l =
    (joined l.front.items ++ joined (reverse l.made.items) ≡ joined l.initial.front.items)
    × AllFull l.front.items × AreChildren (joined l.front.items) × AllFull (reverse l.made.items)
    × (1 < length l.front.items) × (length l.made.items + length l.front.items ≤ length l.initial.front.items)

abbrev pub decreases-groups : goal.decreases-groups
decreases-groups l = length l.front.items
