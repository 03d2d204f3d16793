-- What passes the sockets of a server in its turns.
use Rattle.std.specs.Prelude.{◌≡◌, ◌++◌, ◌∷◌, [], ℕ, List}
use Rattle.std.specs.List.{AllZip, flat_map}
use Rattle.dns_zone.specs.declared.index.ZoneIndex as zone_index
use Rattle.dns_store.specs.declared.zone_store.ZoneStore as store
use Rattle.dns_primary.specs.declared.event.To.{To}
use Rattle.dns_primary.specs.declared.event.To.TheVariants as to
use Rattle.dns_primary.specs.Step as events
use Rattle.dns_network.specs.declared.network.Network as network
use Rattle.dns_network.specs.declared.network.Observer as notes
use Rattle.dns_network.specs.declared.stream.Stream as stream
use Rattle.dns_network.specs.Datagrams.{Datagram}
use Rattle.dns_network.specs.Delivery.{Served}
use Rattle.dns_network.specs.Turn.{TurnMoment, Asks, Moves, Connects, Refuses, Happens, Closes}
use Rattle.dns_network.specs.Turns.{AreTurns}
use Rattle.dns_sockets.specs.DatagramSockets.{AreInOrder, HaveCarried}
use Rattle.dns_sockets.specs.Sockets.{datagrams_of}
use Rattle.dns_sockets.specs.declared.sockets.Sockets.{Sockets}
use Rattle.dns_sockets.specs.declared.system.DatagramCalls.{Ghosts}

-- A reply to an address is a datagram to the peer there.
abbrev pub datagrams_of_reply : To → List ℕ → List Datagram
datagrams_of_reply (to.Address peer) reply = (reply, peer) ∷ []
datagrams_of_reply (to.Connection number) reply = []
datagrams_of_reply to.Nowhere reply = []

-- The datagram whose event it is.
abbrev pub datagrams_of_event : events.Event → List Datagram
datagrams_of_event (events.Datagram peer octets) = (octets, peer) ∷ []
datagrams_of_event (events.Connect peer) = []
datagrams_of_event (events.Arrives number message) = []
datagrams_of_event events.Flush = []
datagrams_of_event (events.Checkpoint index) = []
datagrams_of_event (events.Pump number) = []
datagrams_of_event (events.Closed number) = []

-- The replies to addresses that go out in a moment.
abbrev pub sent_in_moment : TurnMoment → List Datagram
sent_in_moment Asks = []
sent_in_moment (Moves number answer) = []
sent_in_moment (Connects peer effects) = []
sent_in_moment (Refuses peer) = []
sent_in_moment (Happens event effects goings) =
    flat_map (λ going. datagrams_of_reply going.to going.octets) goings
sent_in_moment (Closes number cause) = []

-- The datagram that the machine is told of in a moment.
abbrev pub told_in_moment : TurnMoment → List Datagram
told_in_moment Asks = []
told_in_moment (Moves number answer) = []
told_in_moment (Connects peer effects) = []
told_in_moment (Refuses peer) = []
told_in_moment (Happens event effects goings) = datagrams_of_event event
told_in_moment (Closes number cause) = []

-- In turns, in order: the replies to addresses that go out, and the datagrams that the machine is told of.
abbrev pub sent_in_turns : List (List TurnMoment) → List Datagram
sent_in_turns turns = flat_map (λ moments. flat_map sent_in_moment moments) turns

abbrev pub told_in_turns : List (List TurnMoment) → List Datagram
told_in_turns turns = flat_map (λ moments. flat_map told_in_moment moments) turns

-- A datagram is that which came, or its first octets: the rest was cut off where the buffer ends.
abbrev pub IsCutFrom : Datagram → Datagram → Type 0
IsCutFrom one came = (rest : List ℕ) × (came ≡ (one.0 ++ rest, one.1))

-- Whatever turns are made over sockets that are each on the address with its own index: the replies to
-- addresses that go out in them were given to the sockets, and the sockets handed over the datagrams that the
-- machine is told of in them.
abbrev pub TurnsCarry : {I D S C A L : Type 0} → zone_index.Ghosts I → store.Ghosts D → stream.Ghosts S
    → network.Ghosts (Sockets C A) S → notes.Ghosts L → Ghosts C → Type 0
TurnsCarry {I = I} {D = D} {S = S} {C = C} {A = A} {L = L} i d s n l c =
    (turns : List (List TurnMoment)) (old new : Served I D S (Sockets C A) L i d)
    → AreTurns s n l turns old new → AreInOrder (datagrams_of old.network)
    → (came : List Datagram) × AllZip IsCutFrom (told_in_turns turns) came
    × HaveCarried c (sent_in_turns turns) came (datagrams_of old.network) (datagrams_of new.network)
