use Rattle.std.proofs.Common.{take}
use Rattle.dns_configuration.specs.Calls.{Calls}
use Rattle.dns_commands.specs.Init.{AreMade}
use Rattle.dns_commands.proofs.commands.init.make_devices.Given as goal

abbrev pub invariant-loop-position : goal.invariant-loop-position
invariant-loop-position g l =
    Calls (g.F.NewDevices.calls l.initial.devices) (g.F.NewDevices.calls l.devices)
    (λ calls. AreMade g.D.Sectors calls (take l.position l.settings) (take l.position l.zones))
