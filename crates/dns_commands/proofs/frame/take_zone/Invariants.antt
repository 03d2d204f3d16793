use Rattle.std.proofs.Common.{◌≡◌, None, take}
use Rattle.dns_configuration.specs.Named.{zone_configured}
use Rattle.dns_commands.proofs.frame.take_zone.Given as goal

abbrev pub invariant-loop-position : goal.invariant-loop-position
invariant-loop-position l = record {
  same : l.zones.items ≡ l.initial.zones.items;
  none : zone_configured l.name (take l.position l.zones.items) ≡ None;
}
