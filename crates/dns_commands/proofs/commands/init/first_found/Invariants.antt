use Rattle.std.proofs.Common.{map, take}
use Rattle.dns_configuration.specs.Calls.{HasCalled}
use Rattle.dns_commands.specs.Init.{absent}
use Rattle.dns_commands.proofs.commands.init.first_found.Given as goal

abbrev pub invariant-loop-own : goal.invariant-loop-own
invariant-loop-own g l =
    HasCalled (g.F.NewDevices.calls l.initial.devices) (g.F.NewDevices.calls l.devices) (map absent (take l.own-index l.zones))
