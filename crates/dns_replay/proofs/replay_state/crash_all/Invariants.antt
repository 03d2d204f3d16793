use Rattle.std.proofs.Common.{◌≡◌, ◌≤◌, length, map, take, drop}
use Rattle.std.specs.Prelude.{vec_capacity}
use Rattle.dns_replay.specs.Commands.{said_zone_keep}
use Rattle.dns_replay.specs.Crashes.{AreLeftBy}
use Rattle.dns_replay.proofs.replay_state.crash_all.Given as goal

abbrev pub invariant-loop-index : goal.invariant-loop-index
invariant-loop-index g l = record {
  each : AreLeftBy g.D.Sectors g.D.ScriptDevice.left_by (map said_zone_keep l.keeps) 0 (take l.index l.fn.devices.items) l.left.items;
  rest : l.devices.items ≡ drop l.index l.fn.devices.items;
  all : l.count ≡ length l.fn.devices.items;
  room : l.count ≤ vec_capacity l.left;
  many : length l.left.items ≡ l.index;
}
