use Rattle.std.proofs.Common.{codes, take}
use Rattle.std.specs.Io.KnownBytes.{Appends}
use Rattle.dns_commands.specs.Compare.{signed_lines}
use Rattle.dns_commands.specs.Diff.{deleted_first}
use Rattle.dns_commands.proofs.commands.diff.print_first.Given as goal

abbrev pub invariant-loop-record : goal.invariant-loop-record
invariant-loop-record g l = Appends (g.W.Write.contents l.initial.out) (g.W.Write.contents l.out) (signed_lines (codes "update delete") (deleted_first l.apex (take l.record-index l.come)))
