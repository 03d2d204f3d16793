use Rattle.std.proofs.Common.{take}
use Rattle.std.specs.Prelude.{map}
use Rattle.std.specs.List.{AllZip}
use Rattle.toml.specs.View.{view}
use Rattle.dns_configuration.specs.Settings.{HasAddress}
use Rattle.dns_configuration.proofs.listening.addresses.Given as goal

abbrev pub invariant-texts : goal.invariant-texts
invariant-texts l = AllZip HasAddress (map view (take l.value-index l.texts)) l.addresses.items
