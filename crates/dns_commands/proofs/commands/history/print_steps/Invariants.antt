use Rattle.std.proofs.Common.{◌≡◌, ◌+◌, take}
use Rattle.std.specs.Io.KnownBytes.{Appends}
use Rattle.dns_commands.specs.History.{steps_text}
use Rattle.dns_commands.proofs.commands.history.print_steps.Given as goal

abbrev pub invariant-loop-change : goal.invariant-loop-change
invariant-loop-change g l = record {
  number : l.version ≡ l.base + l.change-index;
  printed : Appends (g.W.Write.contents l.initial.out) (g.W.Write.contents l.out) (steps_text l.with_records l.base (take l.change-index l.changes));
}
