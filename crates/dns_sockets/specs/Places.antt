-- The number by which a connection is watched.
use Rattle.std.specs.Prelude.{ℕ, Option}
use Rattle.dns_sockets.specs.declared.readiness.Place.{Place}

abbrev pub place_number : Place → Option ℕ
place_number slot = slot.number
