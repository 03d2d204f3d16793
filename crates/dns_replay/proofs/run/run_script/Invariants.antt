use Rattle.std.proofs.Common.{◌+◌, ◌≤◌, length}
use Rattle.std.specs.Option.{option_copied}
use Rattle.dns_replay.specs.Lines.{lines, lines_left, room}
use Rattle.dns_replay.proofs.Running.{AreRunUpTo}
use Rattle.dns_replay.proofs.run.run_script.Given as goal

abbrev pub invariant-lines : goal.invariant-lines
invariant-lines g l = record {
  count : l.number + room (option_copied l.rest) ≤ length l.fn.script + 2;
  run : AreRunUpTo g.D.ScriptDevice.left_by l.fn.world.origins.now l.fn.world.settings.now (lines l.fn.script) l.fn.primary l.number (lines_left (option_copied l.rest)) (g.W.Write.contents l.initial.out) (g.W.Write.contents l.out) l.running l.devices.items;
}

abbrev pub decreases-lines : goal.decreases-lines
decreases-lines g l = room (option_copied l.rest)
