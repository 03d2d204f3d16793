use Rattle.std.proofs.Common.{take}
use Rattle.dns_versions.specs.Each.{Each3}
use Rattle.dns_replay.specs.Made.{IsMadeOf}
use Rattle.dns_replay.proofs.setup.make_all.Given as goal

abbrev pub invariant-loop-index : goal.invariant-loop-index
invariant-loop-index g l = Each3 (IsMadeOf g.D.Sectors) (take l.index l.zones) (take l.index l.settings) l.devices.items
