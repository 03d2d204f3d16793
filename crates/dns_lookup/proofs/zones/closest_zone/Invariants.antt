use Rattle.std.proofs.Common.{◌≡◌, length}
use Rattle.dns_lookup.specs.Lookup.{zone_of}
use Rattle.dns_lookup.proofs.zones.closest_zone.Given as goal

abbrev pub invariant-ancestors : goal.invariant-ancestors
invariant-ancestors g l = zone_of l.zones l.here ≡ zone_of l.zones l.name

abbrev pub decreases-ancestors : goal.decreases-ancestors
decreases-ancestors g l = length l.here
