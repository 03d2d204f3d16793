-- Transfers along runs of the machine: what opens one, and what goes out by it, whatever else happens
-- meanwhile.
use Rattle.std.specs.Prelude.{◌≡◌, ◌⊎◌, ℕ, Bool, true, List, [], ◌∷◌, Option, Some, None}
use Rattle.dns_wire.specs.Message.{Question, Message}
use Rattle.dns_request.specs.declared.request.Transport.TheVariants.{Tcp}
use Rattle.dns_answer.specs.Answer.{Transfer, handled}
use Rattle.dns_transfer.specs.Session.{Sending, SendsMessage, IsTransferOpened}
use Rattle.dns_primary.specs.declared.event.Peer.{Peer}
use Rattle.dns_primary.specs.declared.event.To.TheVariants.{Connection}
use Rattle.dns_primary.specs.declared.event.Noted.TheVariants.{OutOfMemory}
use Rattle.dns_primary.specs.Machine.{ZoneState, Machine, shown_zones, peer_at, sending_at}
use Rattle.dns_primary.specs.Flush.{Replied}
use Rattle.dns_primary.specs.Transfer.{open_still, transfer_version, zone_named}
use Rattle.dns_primary.specs.Step.{Event, Effects, Arrives, Pump, Closed, Step}
use Rattle.dns_primary.specs.Runs.{Moment, Took, Stopped, Configured}

-- A request that came on the connection opens a transfer of the version that is shown then, for a peer that
-- may have it.
pub record OpensOn (old : Machine) (number : ℕ) (event : Event) (s : Sending) : Type 0 where
  pub octets : List ℕ
  pub message : Message
  pub question : Question
  pub peer : Peer
  pub zone : ZoneState
  pub arrives : event ≡ Arrives number octets
  pub from : peer_at number old.connections ≡ Some peer
  pub asks : handled (shown_zones old) octets Tcp ≡ Transfer octets message question
  pub named : zone_named question.name old.zones ≡ Some zone
  pub allowed : zone.setting.may_transfer peer.address ≡ true
  pub opened : IsTransferOpened Tcp octets message question (transfer_version zone) s

-- If a transfer is open on the connection after an event, and none was before, the event opened it.
abbrev pub OpensByEvent : ℕ → List Bool → Machine → Event → Effects → Machine → Sending → Type 0
OpensByEvent number fails old event effects new s =
    sending_at number old.connections ≡ None
    → sending_at number new.connections ≡ Some s
    → Step fails old event effects new
    → OpensOn old number event s

-- What a pump of a transfer gives: the next message, of which the one that leaves no record ends it; or
-- nothing where memory is refused, and the transfer stays as it is.
abbrev pub GivesNext : ℕ → Sending → Effects → Option Sending → Type 0
GivesNext number s effects next =
    ((message : List ℕ) × (rest : Sending) × SendsMessage s message rest
    × (effects.sent ≡ Replied (Connection number) message ∷ []) × (next ≡ open_still rest.left rest))
    ⊎ (((effects.noted ≡ OutOfMemory) × (effects.sent ≡ []) × (next ≡ Some s))
    ⊎ ((s.left ≡ []) × (effects.sent ≡ []) × (next ≡ None)))

-- A pump of its connection gives its next message, the end of its connection ends it, and no other event
-- touches it.
pub record GoesOn (number : ℕ) (s : Sending) (event : Event) (effects : Effects)
    (next : Option Sending) : Type 0 where
  pub pumped : event ≡ Pump number → GivesNext number s effects next
  pub closed : event ≡ Closed number → next ≡ None
  pub others : (event ≡ Pump number → ⊥) → (event ≡ Closed number → ⊥) → next ≡ Some s

-- So it goes on from each moment to the next one, until it is at its end, or its connection, or the machine
-- stops.
abbrev pub Continues : ℕ → List Moment → Option Sending → Type 0
Continues number [] o = Unit {0}
Continues number (t ∷ rest) None = Unit {0}
Continues number (Took event fails effects new ∷ rest) (Some s) =
    GoesOn number s event effects (sending_at number new.connections)
    × Continues number rest (sending_at number new.connections)
Continues number (Stopped event tries new ∷ rest) (Some s) = sending_at number new.connections ≡ None
Continues number (Configured new ∷ rest) (Some s) = sending_at number new.connections ≡ None
