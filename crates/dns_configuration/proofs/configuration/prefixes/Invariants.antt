use Rattle.std.proofs.Common.{take}
use Rattle.std.specs.Prelude.{map}
use Rattle.toml.specs.View.{view}
use Rattle.dns_configuration.specs.Settings.{ArePrefixes}
use Rattle.dns_configuration.proofs.configuration.prefixes.Given as goal

abbrev pub invariant-texts : goal.invariant-texts
invariant-texts l = ArePrefixes (map view (take l.value-index l.texts)) l.prefixes.items
