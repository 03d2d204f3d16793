use Rattle.std.proofs.Common.{◌≡◌, ◌++◌, drop, map}
use Rattle.dns_primary.specs.Open.{device_of_pending}
use Rattle.dns_configuration.specs.Calls.{Calls}
use Rattle.dns_service.specs.Opening.{closings}
use Rattle.dns_service.proofs.opening.close_stores.Given as goal

abbrev pub invariant-loop-own : goal.invariant-loop-own
invariant-loop-own g l =
    Calls (g.F.Devices.calls l.initial.devices) (g.F.Devices.calls l.devices)
    (λ done. done ++ closings (map (λ b. device_of_pending b) l.open.items) (drop l.own-index l.zones) ≡ closings (map (λ b. device_of_pending b) l.initial.open.items) l.zones)
