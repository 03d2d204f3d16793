-- What a reply with SERVFAIL comes of, where no memory is refused.
use Rattle.std.specs.Prelude.{◌≡◌, ◌⊎◌, ◌<◌, ℕ, Bool, true, false, List, length, slice_get}
use Rattle.std.specs.Prelude.{Option, Some, None}
use Rattle.std.specs.List.{AllByRecursion, Contains}
use Rattle.dns_records.specs.Record.{Record}
use Rattle.dns_wire.specs.Message.{header_of}
use Rattle.dns_wire.specs.Text.{Reply, text}
use Rattle.dns_request.specs.Codes.{rcode_servfail}
use Rattle.dns_request.specs.Request as request
use Rattle.dns_request.specs.Request.{request_of}
use Rattle.dns_request.specs.declared.request.Transport.{Transport}
use Rattle.dns_request.specs.declared.request.Transport.TheVariants.{Udp, Tcp}
use Rattle.dns_answer.specs.Answer.{answered, with_question}
use Rattle.dns_update.specs.Verdict.{Leaves, verdict}
use Rattle.dns_versions.specs.Held.{newest_zone}
use Rattle.dns_versions.specs.Staging.{has_room}
use Rattle.dns_primary.specs.declared.event.Peer.{Peer}
use Rattle.dns_primary.specs.declared.event.To.{To}
use Rattle.dns_primary.specs.declared.event.To.TheVariants as to
use Rattle.dns_primary.specs.Machine.{ZoneState, Waits, Machine, kept_of, shown_zones, peer_at}
use Rattle.dns_primary.specs.Flush.{Sent, Answered, Replied, is_closed_in}
use Rattle.dns_primary.specs.Update.{Asked, Admits, admission, room_lacked, zone_position}
use Rattle.dns_primary.specs.Transfer.{transport_of}
use Rattle.dns_primary.specs.Step.{Effects, IsUpdateBegun, Event, Datagram, Connect, Arrives, Flush}
use Rattle.dns_primary.specs.Step.{Checkpoint}
use Rattle.dns_primary.specs.Step.{Pump, Closed}

-- The response code of a reply (RFC 1035 4.1.1).
abbrev pub code_of : List ℕ → ℕ
code_of octets = (header_of octets).rcode

-- The update is for a zone that is closed.
pub record IsForClosed (m : Machine) (a : Asked) : Type 0 where
  pub index : ℕ
  pub zone : ZoneState
  pub named : zone_position a.zone.name m.zones ≡ Some index
  pub stands : slice_get m.zones index ≡ Some zone
  pub closed : zone.closed ≡ true

-- The update is accepted, and there is no room for the version that it leaves: it has too many records, its
-- snapshot or its entry takes more sectors than a bank has, or there is no number for it.
pub record LacksRoom (m : Machine) (a : Asked) : Type 0 where
  pub index : ℕ
  pub zone : ZoneState
  pub records : List Record
  pub admits : admission m.zones a ≡ Admits index zone
  pub leaves : verdict (newest_zone (kept_of zone)) a.message.answers a.message.authorities ≡ Leaves records
  pub room : has_room (kept_of zone) records ≡ false

-- A reply by TCP is over 65,535 octets (RFC 1035 4.2.2).
abbrev pub IsTooLong : Transport → Reply → Type 0
IsTooLong transport r = (transport ≡ Tcp) × (65535 < length (text r))

-- An update is answered after what comes first: then its zone is closed, or it still lacks room.
pub record UpdateCause (fails : List Bool) (m : Machine) (a : Asked) : Type 0 where
  pub first : Effects
  pub mid : Machine
  pub begun : IsUpdateBegun fails m (room_lacked m a) first mid
  pub cause : IsForClosed mid a ⊎ LacksRoom mid a

abbrev pub RequestCause : List Bool → Machine → To → Peer → List ℕ → Transport → request.Request → Type 0
RequestCause fails m to peer octets transport request.Ignored = ⊥
RequestCause fails m to peer octets transport (request.Refused rcode) = ⊥
RequestCause fails m to peer octets transport (request.NotServed message question rcode) =
    IsTooLong transport (with_question octets message question rcode)
RequestCause fails m to peer octets transport (request.Query message question) =
    IsTooLong transport (answered (shown_zones m) octets message question)
RequestCause fails m to peer octets transport (request.Update message question) =
    UpdateCause fails m (record { to = to; address = peer.address; message = message; zone = question })
RequestCause fails m to peer octets transport (request.Transfer message question) =
    (rcode : ℕ) × IsTooLong (transport_of to) (with_question octets message question rcode)

abbrev pub ArrivedCause : List Bool → Machine → ℕ → Option Peer → List ℕ → Type 0
ArrivedCause fails m number None octets = ⊥
ArrivedCause fails m number (Some peer) octets =
    RequestCause fails m (to.Connection number) peer octets Tcp (request_of octets Tcp)

-- What SERVFAIL to a request comes of: its update is for a closed zone or lacks room, or its reply is too
-- long. Nothing else is.
abbrev pub EventCause : List Bool → Machine → Event → Type 0
EventCause fails m (Datagram peer octets) =
    RequestCause fails m (to.Address peer) peer octets Udp (request_of octets Udp)
EventCause fails m (Arrives number octets) = ArrivedCause fails m number (peer_at number m.connections) octets
EventCause fails m (Connect peer) = ⊥
EventCause fails m Flush = ⊥
EventCause fails m (Checkpoint index) = ⊥
EventCause fails m (Pump number) = ⊥
EventCause fails m (Closed number) = ⊥

-- The zone at a position is closed in the event: its device failed.
abbrev pub ClosesZone : Machine → Machine → ℕ → Type 0
ClosesZone old new index =
    (is_closed_in (slice_get old.zones index) ≡ false) × (is_closed_in (slice_get new.zones index) ≡ true)

-- A reply that waited goes out with SERVFAIL if it waited with it, or if its zone is closed in the event; one
-- to a request, by the request.
abbrev pub HasCause : List Bool → Machine → Event → Machine → Sent → Type 0
HasCause fails old event new (Answered w rcode) =
    rcode ≡ rcode_servfail → (w.rcode ≡ rcode_servfail) ⊎ ClosesZone old new w.zone
HasCause fails old event new (Replied to octets) =
    code_of octets ≡ rcode_servfail → EventCause fails old event

-- The reply waited before, though it may have gone elsewhere.
pub record Waited (old : Machine) (w : Waits) : Type 0 where
  pub before : Waits
  pub there : Contains old.waiting before
  pub is : w ≡ record before { to = w.to }

-- A reply that waits with SERVFAIL waited before, or begins to by its request.
abbrev pub WaitsWithCause : List Bool → Machine → Event → Waits → Type 0
WaitsWithCause fails old event w = w.rcode ≡ rcode_servfail → Waited old w ⊎ EventCause fails old event

-- All replies that go out, and all that wait.
pub record HaveCauses (fails : List Bool) (old : Machine) (event : Event) (out : List Sent)
    (new : Machine) : Type 0 where
  pub sent : AllByRecursion (HasCause fails old event new) out
  pub waiting : AllByRecursion (WaitsWithCause fails old event) new.waiting
