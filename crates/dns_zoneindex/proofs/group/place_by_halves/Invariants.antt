use Rattle.std.proofs.Common.{◌≡◌, ◌-◌, ◌<◌, ◌≤◌, length, take, drop}
use Rattle.std.specs.declared.cmp.Ordering.TheVariants.{Less, Greater}
use Rattle.dns_zoneindex.specs.Children.{label_cmp, joined, AllChildren}
use Rattle.dns_zoneindex.proofs.group.place_by_halves.Given as goal

abbrev pub invariant-halves : goal.invariant-halves
invariant-halves l =
    (l.position < l.end) × (l.end ≤ length l.slots)
    × AllChildren (λ c. label_cmp l.label c.label ≡ Greater) (joined (take l.position l.slots))
    × AllChildren (λ c. label_cmp l.label c.label ≡ Less) (joined (drop l.end l.slots))

abbrev pub decreases-halves : goal.decreases-halves
decreases-halves l = l.end - l.position
