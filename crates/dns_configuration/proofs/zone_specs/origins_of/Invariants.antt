use Rattle.std.proofs.Common.{◌≡◌, take}
use Rattle.dns_configuration.specs.Known.{origins_of}
use Rattle.dns_configuration.proofs.zone_specs.origins_of.Given as goal

abbrev pub invariant-loop-own : goal.invariant-loop-own
invariant-loop-own l = l.origins.items ≡ origins_of (take l.own-index l.zones)
