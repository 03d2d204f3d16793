use Rattle.std.proofs.Common.{take}
use Rattle.dns_versions.specs.Each.{Each2}
use Rattle.dns_replay.specs.Runs.{AreSame}
use Rattle.dns_replay.proofs.replay_state.settings_again.Given as goal

abbrev pub invariant-loop-one : goal.invariant-loop-one
invariant-loop-one l = Each2 AreSame (take l.one-index l.settings) l.again.items
