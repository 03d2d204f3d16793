use Rattle.std.proofs.Common.{◌≡◌, ◌-◌, ◌≤◌, take}
use Rattle.dns_zoneindex.proofs.key.shared.Given as goal

abbrev pub invariant-steps : goal.invariant-steps
invariant-steps l = (take l.skip l.a ≡ take l.skip l.b) × (l.skip ≤ 63)

abbrev pub decreases-steps : goal.decreases-steps
decreases-steps l = 64 - l.skip
