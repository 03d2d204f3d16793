use Rattle.std.proofs.Common.{take}
use Rattle.std.specs.Prelude.{flat_map}
use Rattle.std.specs.Io.KnownBytes.{Appends}
use Rattle.dns_commands.specs.CheckConfiguration.{good_line}
use Rattle.dns_commands.proofs.commands.check_configuration.print_good_zones.Given as goal

abbrev pub invariant-loop-zone : goal.invariant-loop-zone
invariant-loop-zone g l =
    Appends (g.W.Write.contents l.initial.out) (g.W.Write.contents l.out) (flat_map good_line (take l.zone-index l.zones))
