use Rattle.std.proofs.Common.{take}
use Rattle.std.specs.List.{AllZip}
use Rattle.dns_commands.specs.CheckConfiguration.{HasSectors}
use Rattle.dns_commands.proofs.commands.check_configuration.first_too_large.Given as goal

abbrev pub invariant-loop-index : goal.invariant-loop-index
invariant-loop-index g l = AllZip HasSectors (take l.index l.settings) (take l.index l.zones)
