use Rattle.std.proofs.Common.{take}
use Rattle.std.specs.Prelude.{flat_map}
use Rattle.std.specs.Io.KnownBytes.{Appends}
use Rattle.dns_commands.specs.Init.{formatted}
use Rattle.dns_commands.proofs.commands.init.print_all.Given as goal

abbrev pub invariant-loop-zone : goal.invariant-loop-zone
invariant-loop-zone g l =
    Appends (g.W.Write.contents l.initial.out) (g.W.Write.contents l.out) (flat_map formatted (take l.zone-index l.zones))
