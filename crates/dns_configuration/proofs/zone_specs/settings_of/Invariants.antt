use Rattle.std.proofs.Common.{take}
use Rattle.std.specs.List.{AllZip}
use Rattle.dns_configuration.specs.Known.{IsSettingOf}
use Rattle.dns_configuration.proofs.zone_specs.settings_of.Given as goal

abbrev pub invariant-loop-own : goal.invariant-loop-own
invariant-loop-own l = AllZip IsSettingOf (take l.own-index l.zones) l.known.items
