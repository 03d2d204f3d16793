use Rattle.std.proofs.Common.{take}
use Rattle.std.specs.Io.KnownBytes.{Appends}
use Rattle.dns_commands.specs.Compare.{signed_lines}
use Rattle.dns_commands.proofs.commands.compare.print_records.Given as goal

abbrev pub invariant-loop-entry : goal.invariant-loop-entry
invariant-loop-entry g l = Appends (g.W.Write.contents l.initial.out) (g.W.Write.contents l.out) (signed_lines l.sign (take l.entry-index l.records))
