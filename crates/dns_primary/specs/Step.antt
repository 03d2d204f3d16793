-- One event is one step of the machine.
use Rattle.std.specs.Prelude.{◌≡◌, ◌⊎◌, ◌<◌, ◌≤◌, ℕ, Bool, true, false, not, ◌&&◌, ◌||◌, nat_lt, List, []}
use Rattle.std.specs.Prelude.{◌∷◌, ◌++◌, length, slice_get, is_some, Option, Some, None, if◌then◌else◌}
use Rattle.dns_wire.specs.Message.{header_of}
use Rattle.dns_wire.specs.Text.{text}
use Rattle.dns_request.specs.Codes.{rcode_servfail}
use Rattle.dns_request.specs.declared.request.Transport.TheVariants.{Udp, Tcp}
use Rattle.dns_answer.specs.Answer.{Handled, NoReply, Replies, Update, Transfer, handled, bare_reply}
use Rattle.dns_versions.specs.Flush.{first_true}
use Rattle.dns_primary.specs.declared.event.Peer.{Peer}
use Rattle.dns_primary.specs.declared.event.To.{To}
use Rattle.dns_primary.specs.declared.event.To.TheVariants as to
use Rattle.dns_primary.specs.declared.event.Noted.{Noted}
use Rattle.dns_primary.specs.declared.event.Noted.TheVariants.{Nothing, OutOfMemory, Device}
use Rattle.dns_primary.specs.Machine.{ZoneState, Machine, shown_zones, peer_at, sending_at}
use Rattle.dns_primary.specs.Flush.{Sent, Replied, flushed, flush_sends}
use Rattle.dns_primary.specs.Update.{Asked, is_full, made_place, room_lacked, answer}
use Rattle.dns_primary.specs.Checkpoint.{IsCheckpoint, either_fails, first_to_fail}
use Rattle.dns_primary.specs.Transfer.{IsTransferred, IsPumped}
use Rattle.dns_primary.specs.Connections.{connected, closed, most_connections}

-- A datagram comes from a peer, a peer connects, a message comes on a connection, what waits is to be
-- flushed, the zone at a position is to get a later base, a transfer is to give its next message, a
-- connection is closed.
pub data Event : Type 0 where
  Datagram : Peer → List ℕ → Event
  Connect : Peer → Event
  Arrives : ℕ → List ℕ → Event
  Flush : Event
  Checkpoint : ℕ → Event
  Pump : ℕ → Event
  Closed : ℕ → Event

-- What goes out, the number of a connection that was made, and what is to be known of it besides.
pub record Effects : Type 0 where
  pub sent : List Sent
  pub accepted : Option ℕ
  pub noted : Noted

-- The first zone whose device failed.
abbrev pub noted_of : Option ℕ → Noted
noted_of None = Nothing
noted_of (Some index) = Device index

-- The event leads to this machine, and these go out; of the devices these failed.
pub record GivesEffects (effects : Effects) (new next : Machine)
    (out : List Sent) (fails : List Bool) : Type 0 where
  pub state : new ≡ next
  pub sent : effects.sent ≡ out
  pub accepted : effects.accepted ≡ None
  pub noted : effects.noted ≡ noted_of (first_true fails)

-- It is not determined which devices fail, but only where there is a flush does one.
abbrev pub AreFailures : Bool → Machine → List Bool → Type 0
AreFailures true m fails = length fails ≡ length m.zones
AreFailures false m fails = fails ≡ []

abbrev pub IsFlushed : List Bool → Machine → Effects → Machine → Type 0
IsFlushed fails old effects new =
    AreFailures true old fails × GivesEffects effects new (flushed fails old) (flush_sends fails old) fails

-- What goes out of a flush, and the first device that failed.
pub record TellsFlush (effects : Effects) (out : List Sent) (first : Option ℕ) : Type 0 where
  pub sent : effects.sent ≡ out
  pub accepted : effects.accepted ≡ None
  pub noted : effects.noted ≡ noted_of first

-- A checkpoint of a zone that isn't there does nothing.
abbrev pub IsCheckpointed : List Bool → Machine → ℕ → Option ZoneState → Effects → Machine → Type 0
IsCheckpointed fails old index None effects new = (fails ≡ []) × GivesEffects effects new old [] []
IsCheckpointed fails old index (Some z) effects new =
    (flushing : List Bool) × (moving : Bool) × (fails ≡ either_fails moving index flushing)
    × IsCheckpoint index 0 old flushing moving new
    × TellsFlush effects (flush_sends flushing old) (first_to_fail (first_true flushing) moving index)

-- What comes before an update is answered: where it lacks room, all zones are flushed, and the base of its
-- own is moved so that the room is left; else there is a flush where as many replies wait as may.
abbrev pub IsUpdateBegun : List Bool → Machine → Option (ℕ × ℕ) → Effects → Machine → Type 0
IsUpdateBegun fails old None effects mid =
    AreFailures (is_full old) old fails
    × GivesEffects effects mid (made_place fails old).0 (made_place fails old).1 fails
IsUpdateBegun fails old (Some lacked) effects mid =
    (flushing : List Bool) × (moving : Bool) × (fails ≡ either_fails moving lacked.0 flushing)
    × IsCheckpoint lacked.0 lacked.1 old flushing moving mid
    × TellsFlush effects (flush_sends flushing old) (first_to_fail (first_true flushing) moving lacked.0)

-- It is answered after that.
pub record IsUpdated (fails : List Bool) (old : Machine) (a : Asked) (effects : Effects)
    (new : Machine) : Type 0 where
  pub first : Effects
  pub mid : Machine
  pub begun : IsUpdateBegun fails old (room_lacked old a) first mid
  pub state : new ≡ (answer mid a).0
  pub sent : effects.sent ≡ first.sent ++ (answer mid a).1
  pub accepted : effects.accepted ≡ first.accepted
  pub noted : effects.noted ≡ first.noted

-- What is done with a request, by what becomes of its octets: a query is answered of what is shown.
abbrev pub IsRequestHandled : List Bool → Machine → To → Peer → Handled → Effects → Machine → Type 0
IsRequestHandled fails old to peer NoReply effects new = (fails ≡ []) × GivesEffects effects new old [] []
IsRequestHandled fails old to peer (Replies reply) effects new =
    (fails ≡ []) × GivesEffects effects new old (Replied to reply ∷ []) []
IsRequestHandled fails old to peer (Update message question) effects new =
    IsUpdated fails old
    (record { to = to; address = peer.address; message = message; zone = question }) effects new
IsRequestHandled fails old to peer (Transfer octets message question) effects new =
    (fails ≡ []) × IsTransferred old to peer octets message question effects.sent new
    × TellsFlush effects effects.sent None

-- A message on a connection that isn't there does nothing.
abbrev pub IsArrived : List Bool → Machine → ℕ → Option Peer → List ℕ → Effects → Machine → Type 0
IsArrived fails old number None octets effects new = (fails ≡ []) × GivesEffects effects new old [] []
IsArrived fails old number (Some peer) octets effects new =
    IsRequestHandled fails old (to.Connection number) peer (handled (shown_zones old) octets Tcp) effects new

-- A connection gets a number that no other has, below how many there may be.
pub record HasNumber (old : Machine) (peer : Peer) (effects : Effects) (new : Machine) : Type 0 where
  pub few : length old.connections < most_connections
  pub number : ℕ
  pub below : number < most_connections
  pub free : peer_at number old.connections ≡ None
  pub state : new ≡ connected number peer old
  pub reported : effects ≡ record { sent = []; accepted = Some number; noted = Nothing }

-- It does, or it gets none where there are as many as may be.
abbrev pub IsConnected : Machine → Peer → Effects → Machine → Type 0
IsConnected old peer effects new =
    HasNumber old peer effects new
    ⊎ ((most_connections ≤ length old.connections) × GivesEffects effects new old [] [])

-- What an event does where memory is not refused.
abbrev pub Goes : List Bool → Machine → Event → Effects → Machine → Type 0
Goes fails old (Datagram peer octets) effects new =
    IsRequestHandled fails old (to.Address peer) peer (handled (shown_zones old) octets Udp) effects new
Goes fails old (Connect peer) effects new = (fails ≡ []) × IsConnected old peer effects new
Goes fails old (Arrives number octets) effects new =
    IsArrived fails old number (peer_at number old.connections) octets effects new
Goes fails old Flush effects new = IsFlushed fails old effects new
Goes fails old (Checkpoint index) effects new =
    IsCheckpointed fails old index (slice_get old.zones index) effects new
Goes fails old (Pump number) effects new =
    (fails ≡ []) × IsPumped old number (sending_at number old.connections) effects.sent new
    × TellsFlush effects effects.sent None
Goes fails old (Closed number) effects new = (fails ≡ []) × GivesEffects effects new (closed number old) [] []

-- Octets that get a reply: a header, and no response (RFC 1035 4.1.1).
abbrev pub is_asking : List ℕ → Bool
is_asking octets = not (nat_lt (length octets) 12) && not (header_of octets).qr

-- A request that is refused memory gets SERVFAIL, a header alone.
abbrev pub failure : To → List ℕ → List Sent
failure to octets =
    if is_asking octets then Replied to (text (bare_reply (header_of octets) rcode_servfail)) ∷ [] else []

abbrev pub failure_on : ℕ → Option Peer → List ℕ → List Sent
failure_on number None octets = []
failure_on number (Some peer) octets = failure (to.Connection number) octets

abbrev pub failures : Machine → Event → List Sent
failures m (Datagram peer octets) = failure (to.Address peer) octets
failures m (Arrives number octets) = failure_on number (peer_at number m.connections) octets
failures m (Connect peer) = []
failures m Flush = []
failures m (Checkpoint index) = []
failures m (Pump number) = []
failures m (Closed number) = []

-- A flush takes no memory, nor does a connection that comes or ends.
abbrev pub takes_memory : Event → Bool
takes_memory (Datagram peer octets) = true
takes_memory (Connect peer) = false
takes_memory (Arrives number octets) = true
takes_memory Flush = false
takes_memory (Checkpoint index) = true
takes_memory (Pump number) = true
takes_memory (Closed number) = false

-- The checkpoint that comes first where an update lacks room: of which zone, and the room that it leaves.
abbrev pub request_lacks : Machine → To → Peer → Handled → Option (ℕ × ℕ)
request_lacks m to peer NoReply = None
request_lacks m to peer (Replies reply) = None
request_lacks m to peer (Update message question) =
    room_lacked m (record { to = to; address = peer.address; message = message; zone = question })
request_lacks m to peer (Transfer octets message question) = None

abbrev pub arrived_lacks : Machine → ℕ → Option Peer → List ℕ → Option (ℕ × ℕ)
arrived_lacks m number None octets = None
arrived_lacks m number (Some peer) octets =
    request_lacks m (to.Connection number) peer (handled (shown_zones m) octets Tcp)

abbrev pub checkpoint_first : Machine → Event → Option (ℕ × ℕ)
checkpoint_first m (Datagram peer octets) =
    request_lacks m (to.Address peer) peer (handled (shown_zones m) octets Udp)
checkpoint_first m (Arrives number octets) = arrived_lacks m number (peer_at number m.connections) octets
checkpoint_first m (Connect peer) = None
checkpoint_first m Flush = None
checkpoint_first m (Checkpoint index) = None
checkpoint_first m (Pump number) = None
checkpoint_first m (Closed number) = None

-- What came is an update.
abbrev pub is_update : Handled → Bool
is_update NoReply = false
is_update (Replies reply) = false
is_update (Update message question) = true
is_update (Transfer octets message question) = false

abbrev pub arrived_update : Machine → Option Peer → List ℕ → Bool
arrived_update m None octets = false
arrived_update m (Some peer) octets = is_update (handled (shown_zones m) octets Tcp)

-- An update that comes while as many wait as may flushes first, and so does one that lacks room, and the
-- checkpoint of a zone that is there.
abbrev pub flushes_first : Machine → Event → Bool
flushes_first m (Datagram peer octets) =
    is_update (handled (shown_zones m) octets Udp) && is_full m
    || is_some (checkpoint_first m (Datagram peer octets))
flushes_first m (Arrives number octets) =
    arrived_update m (peer_at number m.connections) octets && is_full m
    || is_some (checkpoint_first m (Arrives number octets))
flushes_first m (Connect peer) = false
flushes_first m Flush = false
flushes_first m (Checkpoint index) = is_some (slice_get m.zones index)
flushes_first m (Pump number) = false
flushes_first m (Closed number) = false

-- Of which zone the event moves the base, and the room that is to be left.
abbrev pub base_moved : Machine → Event → Option (ℕ × ℕ)
base_moved m (Datagram peer octets) = checkpoint_first m (Datagram peer octets)
base_moved m (Arrives number octets) = checkpoint_first m (Arrives number octets)
base_moved m (Connect peer) = None
base_moved m Flush = None
base_moved m (Checkpoint index) = Some (index, 0)
base_moved m (Pump number) = None
base_moved m (Closed number) = None

-- Memory was refused: the machine is as before, or as after the event's flush, or as after the flush and the
-- checkpoint that come first where an update lacks room.
pub record Lacks (fails : List Bool) (old : Machine) (event : Event) (effects : Effects)
    (new : Machine) : Type 0 where
  pub takes : takes_memory event ≡ true
  pub noted : effects.noted ≡ OutOfMemory
  pub accepted : effects.accepted ≡ None
  pub stays : ((fails ≡ []) × (new ≡ old) × (effects.sent ≡ failures old event))
      ⊎ (((flushes_first old event ≡ true) × AreFailures true old fails × (new ≡ flushed fails old)
      × (effects.sent ≡ flush_sends fails old ++ failures old event))
      ⊎ ((lacked : ℕ × ℕ) × (first : Effects) × (checkpoint_first old event ≡ Some lacked)
      × IsUpdateBegun fails old (Some lacked) first new × (effects.sent ≡ first.sent ++ failures old event)))

-- The step, where of the devices these fail.
abbrev pub Step : List Bool → Machine → Event → Effects → Machine → Type 0
Step fails old event effects new = Goes fails old event effects new ⊎ Lacks fails old event effects new
