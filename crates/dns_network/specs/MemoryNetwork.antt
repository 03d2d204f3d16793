-- What the calls of a network in memory do.
use Rattle.std.specs.Prelude.{◌≡◌, ◌⊎◌, ◌++◌, ℕ, List, [], ◌∷◌, map, Option, Some, None}
use Rattle.dns_primary.specs.declared.event.Peer.{Peer}
use Rattle.dns_primary.specs.declared.event.Effects.{Effects}
use Rattle.dns_primary.specs.Step.{Event}
use Rattle.dns_network.specs.declared.memory_stream.MemoryStream.{MemoryStream}
use Rattle.dns_network.specs.declared.memory_network.MemoryNetwork.{MemoryNetwork}
use Rattle.dns_network.specs.declared.memory_network.MemoryNotes.{MemoryNotes}
use Rattle.dns_network.specs.declared.network.Note.{Note}

-- The connections and the datagrams that came and were not asked for yet, and the datagrams that were sent.
abbrev pub connections_to : MemoryNetwork → List (MemoryStream × Peer)
connections_to network = network.streams.items

abbrev pub datagrams_to : MemoryNetwork → List (List ℕ × Peer)
datagrams_to network = map (λ d. (d.0.items, d.1)) network.datagrams.items

abbrev pub datagrams_from : MemoryNetwork → List (List ℕ × Peer)
datagrams_from network = map (λ d. (d.0.items, d.1)) network.sent.items

-- Nothing is sent by it.
abbrev pub SendsNothing : MemoryNetwork → MemoryNetwork → Type 0
SendsNothing old new = datagrams_from new ≡ datagrams_from old

-- The first connection is taken, or there is none.
abbrev pub Accepts : MemoryNetwork → Option (MemoryStream × Peer) → MemoryNetwork → Type 0
Accepts old None new = (connections_to old ≡ []) × SendsNothing old new
Accepts old (Some one) new = (connections_to old ≡ one ∷ connections_to new) × SendsNothing old new

-- Each stream can be watched.
abbrev pub Watches : MemoryNetwork → ℕ → MemoryStream → Option MemoryStream → MemoryNetwork → Type 0
Watches old number stream got new = (got ≡ Some stream) × (new ≡ old)

-- The first datagram is taken, as much of it as there is room for, or there is none.
abbrev pub Receives : MemoryNetwork → Option (List ℕ × Peer) → MemoryNetwork → Type 0
Receives old None new = (datagrams_to old ≡ []) × SendsNothing old new
Receives old (Some one) new =
    (rest : List ℕ) × (datagrams_to old ≡ (one.0 ++ rest, one.1) ∷ datagrams_to new) × SendsNothing old new

-- The datagram is sent after the others, or dropped.
abbrev pub SendsDatagram : MemoryNetwork → Peer → List ℕ → MemoryNetwork → Type 0
SendsDatagram old peer octets new =
    (datagrams_from new ≡ datagrams_from old ++ (octets, peer) ∷ [])
    ⊎ (datagrams_from new ≡ datagrams_from old)

-- A note is kept after the others, or dropped.
abbrev pub TakesNote : MemoryNotes → Note → MemoryNotes → Type 0
TakesNote old note new =
    (new.notes.items ≡ old.notes.items ++ note ∷ []) ⊎ (new.notes.items ≡ old.notes.items)

-- Nothing is kept of an event.
abbrev pub Observes : MemoryNotes → Event → Effects → MemoryNotes → Type 0
Observes old event effects new = new ≡ old
