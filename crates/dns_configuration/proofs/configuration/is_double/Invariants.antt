use Rattle.std.proofs.Common.{◌≡◌, drop}
use Rattle.std.specs.List.{list_any}
use Rattle.dns_configuration.specs.Settings.{are_alike}
use Rattle.dns_configuration.proofs.configuration.is_double.Given as goal

abbrev pub invariant-zones : goal.invariant-zones
invariant-zones l = list_any (λ z. are_alike z l.zone) (drop l.other-index l.zones) ≡ list_any (λ z. are_alike z l.zone) l.zones
