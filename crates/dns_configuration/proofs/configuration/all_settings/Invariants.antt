use Rattle.std.proofs.Common.{take}
use Rattle.std.specs.Prelude.{map}
use Rattle.toml.specs.View.{view}
use Rattle.dns_configuration.specs.Settings.{AreSettings}
use Rattle.dns_configuration.proofs.configuration.all_settings.Given as goal

abbrev pub invariant-zones : goal.invariant-zones
invariant-zones l = AreSettings (map view (take l.table-index l.tables)) l.zones.items
