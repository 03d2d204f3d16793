use Rattle.std.proofs.Common.{map, take}
use Rattle.dns_configuration.specs.Calls.{HasCalled}
use Rattle.dns_commands.specs.Init.{removal}
use Rattle.dns_commands.proofs.commands.init.remove_all.Given as goal

abbrev pub invariant-loop-own : goal.invariant-loop-own
invariant-loop-own g l =
    HasCalled (g.F.NewDevices.calls l.initial.devices) (g.F.NewDevices.calls l.devices) (map removal (take l.own-index l.settings))
