use Rattle.std.proofs.Common.{◌≡◌, map, take}
use Rattle.dns_zone.specs.Zone.{Zone}
use Rattle.dns_replay.proofs.setup.names_of.Given as goal

abbrev pub invariant-loop-zone : goal.invariant-loop-zone
invariant-loop-zone g l = l.names.items ≡ map (λ (z : Zone). z.apex) (take l.zone-index l.zones)
