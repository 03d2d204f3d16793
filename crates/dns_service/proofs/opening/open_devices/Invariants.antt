use Rattle.std.proofs.Common.{◌≡◌, length}
use Rattle.dns_configuration.specs.Calls.{HasCalled}
use Rattle.dns_service.specs.Opening.{openings}
use Rattle.dns_service.proofs.opening.open_devices.Given as goal

abbrev pub invariant-loop-index : goal.invariant-loop-index
invariant-loop-index g l = record {
  many : length l.given.items ≡ l.index;
  called : HasCalled (g.F.Devices.calls l.initial.devices) (g.F.Devices.calls l.devices) (openings l.given.items l.zones);
}
