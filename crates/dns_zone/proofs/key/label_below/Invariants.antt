use Rattle.std.proofs.Common.{◌≡◌, true, [], ◌++◌, length, get_or, reverse}
use Rattle.dns_names.specs.Name.{Labels, IsUnder, under}
use Rattle.dns_zone.proofs.key.label_below.Given as goal

abbrev pub invariant-labels : goal.invariant-labels
invariant-labels l =
    (under l.name l.apex ≡ true → IsUnder l.rest l.apex)
    × (front : Labels) × (l.name ≡ front ++ l.rest) × (l.label ≡ get_or (reverse front) 0 [])

abbrev pub decreases-labels : goal.decreases-labels
decreases-labels l = length l.rest
