use Rattle.std.proofs.Common.{◌≡◌, ◌++◌, drop}
use Rattle.dns_configuration.specs.Calls.{Calls}
use Rattle.dns_service.specs.Opening.{closings}
use Rattle.dns_service.proofs.opening.close_all.Given as goal

abbrev pub invariant-loop-own : goal.invariant-loop-own
invariant-loop-own g l =
    Calls (g.F.Devices.calls l.initial.devices) (g.F.Devices.calls l.devices)
    (λ done. done ++ closings l.open.items (drop l.own-index l.zones) ≡ closings l.initial.open.items l.zones)
