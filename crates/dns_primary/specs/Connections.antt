-- Connections that come and go.
use Rattle.std.specs.Prelude.{ℕ, None, not, ◌==◌, ◌∷◌, map, filter, if◌then◌else◌}
use Rattle.dns_primary.specs.declared.event.Peer.{Peer}
use Rattle.dns_primary.specs.declared.event.To.{To}
use Rattle.dns_primary.specs.declared.event.To.TheVariants as to
use Rattle.dns_primary.specs.Machine.{Waits, Machine}

-- How many connections there may be.
abbrev pub most_connections : ℕ
most_connections = 64

abbrev pub connected : ℕ → Peer → Machine → Machine
connected number peer m =
    record m { connections = record { number = number; peer = peer; transfer = None } ∷ m.connections }

-- What was to go to the connection with that number goes nowhere.
abbrev pub without_connection : ℕ → To → To
without_connection number (to.Address peer) = to.Address peer
without_connection number (to.Connection other) = if other == number then to.Nowhere else to.Connection other
without_connection number to.Nowhere = to.Nowhere

-- The connection is forgotten, and the transfer that is open on it. Its waiting replies keep their places
-- until the next flush.
abbrev pub closed : ℕ → Machine → Machine
closed number m = record m {
  waiting = map (λ (w : Waits). record w { to = without_connection number w.to }) m.waiting;
  connections = filter (λ c. not (c.number == number)) m.connections;
}
