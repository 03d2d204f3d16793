-- A transfer in a run of the machine: who asks for it, what it gives out, and what that comes to.
use Rattle.std.specs.Prelude.{◌≡◌, ◌⊎◌, ◌<◌, ◌^◌, ℕ, Bool, ◌==◌, List, [], ◌∷◌, ◌++◌, drop, length}
use Rattle.std.specs.Prelude.{Option, Some, None, if◌then◌else◌}
use Rattle.std.specs.List.{AllByRecursion, flat_map}
use Rattle.dns_names.specs.Name.{Labels, IsName}
use Rattle.dns_records.specs.Record.{IsRecord}
use Rattle.dns_zone.specs.Zone.{Zone, IsZone}
use Rattle.dns_changes.specs.Change.{Change}
use Rattle.dns_wire.specs.Message.{Message}
use Rattle.dns_wire.specs.Reads.{Reads}
use Rattle.dns_transfer.specs.Form.{advances}
use Rattle.dns_transfer.specs.Refusal.{client_serial, serial_asked}
use Rattle.dns_transfer.specs.Session.{Sending}
use Rattle.dns_request.specs.declared.request.Transport.TheVariants.{Tcp}
use Rattle.dns_secondary.specs.Receiving.{Receiving}
use Rattle.dns_secondary.specs.Request.{question_asked, request_octets}
use Rattle.dns_secondary.specs.State.{Begun}
use Rattle.dns_theorem.specs.Copies as copies
use Rattle.dns_theorem.specs.Copies.{FollowsInOrder}
use Rattle.dns_store.specs.Versions.{Opened, shown_of}
use Rattle.dns_versions.specs.Held.{shown_zone}
use Rattle.dns_primary.specs.declared.primary.ZoneSpec.{ZoneSpec}
use Rattle.dns_primary.specs.Machine.{ZoneState, Machine, kept_of, updates_of, versions_of, sending_at}
use Rattle.dns_primary.specs.Flush.{Sent, Answered, Replied}
use Rattle.dns_primary.specs.Transfer.{changes_along, zone_named}
use Rattle.dns_primary.specs.Step.{Event, Datagram, Arrives, Connect, Flush, Checkpoint, Pump, Closed}
use Rattle.dns_primary.specs.Step.{Effects}
use Rattle.dns_primary.specs.Fresh.{IsFresh, IsResumed}
use Rattle.dns_primary.specs.Runs.{Moment, Took, Stopped, Configured, Run, machine_at_end}

-- What comes in an event are octets.
abbrev pub CarriesOctets : Event → Type 0
CarriesOctets (Datagram peer octets) = AllByRecursion (λ octet. octet < 256) octets
CarriesOctets (Arrives number octets) = AllByRecursion (λ octet. octet < 256) octets
CarriesOctets (Connect peer) = Unit {0}
CarriesOctets Flush = Unit {0}
CarriesOctets (Checkpoint index) = Unit {0}
CarriesOctets (Pump number) = Unit {0}
CarriesOctets (Closed number) = Unit {0}

abbrev pub AreOctetsIn : Moment → Type 0
AreOctetsIn (Took event fails effects new) = CarriesOctets event
AreOctetsIn (Stopped event tries new) = CarriesOctets event
AreOctetsIn (Configured new) = Unit {0}

-- A valid zone, of records that a zone can have.
pub record IsSoundZone (z : Zone) : Type 0 where
  pub valid : IsZone z
  pub each : AllByRecursion IsRecord z.records

-- The changes from the version that is shown of a zone to the one that is shown of it later.
abbrev pub changes_to : ZoneState → ZoneState → List Change
changes_to z w = changes_along (shown_of (kept_of z)) (drop (length z.shown) (versions_of w.shown))

-- What is held of the zone with this apex: nothing, or the version that the machine showed of it earlier,
-- from which the serial goes less than 2^31 to the one that it shows now (RFC 1982 3.2).
abbrev pub IsHeldOf : Labels → Machine → Machine → Option Zone → Type 0
IsHeldOf apex earlier now None = Unit {0}
IsHeldOf apex earlier now (Some held) =
    (z w : ZoneState)
    × (zone_named apex earlier.zones ≡ Some z)
    × (zone_named apex now.zones ≡ Some w)
    × (held ≡ shown_zone (kept_of z))
    × (advances (changes_to z w) < 2 ^ 31)

-- One who asks the machine by TCP for a zone of which it showed earlier what is held.
pub record Asks (s : Receiving) (earlier now : Machine) : Type 0 where
  pub named : IsName s.apex
  pub number : s.id < 2 ^ 16
  pub by_tcp : s.transport ≡ Tcp
  pub begun : s.state ≡ Some Begun
  pub held : IsHeldOf s.apex earlier now s.held

-- Octets that are a message with the number of the request and with its question, and that tell the serial of
-- the version that is held, where changes of it are asked for. The name may come in any case, RD may be set,
-- and there may be additional records.
pub record IsRequestFor (s : Receiving) (octets : List ℕ) : Type 0 where
  pub octal : AllByRecursion (λ octet. octet < 256) octets
  pub message : Message
  pub reads : Reads octets message
  pub number : message.header.id ≡ s.id
  pub question : message.questions ≡ question_asked s.apex s.held ∷ []
  pub serial : serial_asked (question_asked s.apex s.held)
      (client_serial (question_asked s.apex s.held) message.authorities) ≡ copies.serial_held s.held

-- The octets of the request itself, or such ones.
abbrev pub AsksBy : Receiving → List ℕ → Type 0
AsksBy s octets = (octets ≡ request_octets s.apex s.held s.id) ⊎ IsRequestFor s octets

-- The request comes on a connection, on which no transfer was open, and opens one.
pub record OpensFor (s : Receiving) (number : ℕ) (old : Machine) (event : Event) (new : Machine)
    (sending : Sending) : Type 0 where
  pub octets : List ℕ
  pub asks : AsksBy s octets
  pub comes : event ≡ Arrives number octets
  pub none : sending_at number old.connections ≡ None
  pub opens : sending_at number new.connections ≡ Some sending

abbrev pub octets_sent : Sent → List (List ℕ)
octets_sent (Answered w rcode) = []
octets_sent (Replied to octets) = octets ∷ []

-- The messages that a pump of the connection gives out.
abbrev pub pumped : ℕ → Event → Effects → List (List ℕ)
pumped number (Pump other) effects = if other == number then flat_map octets_sent effects.sent else []
pumped number (Datagram peer octets) effects = []
pumped number (Arrives other octets) effects = []
pumped number (Connect peer) effects = []
pumped number Flush effects = []
pumped number (Checkpoint index) effects = []
pumped number (Closed other) effects = []

abbrev pub pumped_in : ℕ → List Moment → List (List ℕ)
pumped_in number [] = []
pumped_in number (Took event fails effects new ∷ rest) = pumped number event effects ++ pumped_in number rest
pumped_in number (Stopped event tries new ∷ rest) = pumped_in number rest
pumped_in number (Configured new ∷ rest) = pumped_in number rest

-- The transfer is open up to the last of these moments, and neither a stop nor the end of its connection
-- ends it.
abbrev pub IsGivenOut : ℕ → Option Sending → List Moment → Type 0
IsGivenOut number None run = run ≡ []
IsGivenOut number (Some s) [] = ⊥
IsGivenOut number (Some s) (Took event fails effects new ∷ rest) =
    (event ≡ Closed number → ⊥) × IsGivenOut number (sending_at number new.connections) rest
IsGivenOut number (Some s) (Stopped event tries new ∷ rest) = ⊥
IsGivenOut number (Some s) (Configured new ∷ rest) = ⊥

-- A machine of valid zones to which nothing has happened.
abbrev pub BeginsLoaded : Machine → Type 0
BeginsLoaded m =
    (zones : List Zone) × (settings : List ZoneSpec)
    × AllByRecursion IsSoundZone zones × IsFresh zones settings m

-- The update was read from octets.
abbrev pub WasRead : Message → Type 0
WasRead update =
    (octets : List ℕ) × AllByRecursion (λ octet. octet < 256) octets × Reads octets update

-- The zone was valid when it was loaded, and each update that it has since was read from octets.
pub record IsSoundState (z : ZoneState) : Type 0 where
  pub loaded : IsSoundZone (record { apex = z.setting.shape.apex; records = z.loaded })
  pub updates : AllByRecursion (λ u. WasRead u.update) (updates_of z)

-- A machine of stores that were there, as an earlier run left them, or `migrate`, to which nothing has
-- happened since.
abbrev pub BeginsResumed : Machine → Type 0
BeginsResumed m = (held : List Opened) × AllByRecursion IsSoundState m.zones × IsResumed held m

-- Whoever asks for a transfer in a run of a machine that begins so is fed what it gives out, in order: the
-- next message is not refused but for memory, and after the last, and after no other, the version is held
-- that was shown when the transfer was opened.
abbrev pub TransfersAreFollowed : (Machine → Type 0) → Type 0
TransfersAreFollowed Begins =
    (start : Machine) (earlier between later : List Moment) (event : Event) (fails : List Bool)
    (effects : Effects) (opened : Machine) (s : Receiving) (number : ℕ) (sending : Sending)
    (before : List (List ℕ)) (message : List ℕ) (rest : List (List ℕ)) (now : Receiving)
    → Begins start
    → Run start ((earlier ++ between) ++ Took event fails effects opened ∷ later)
    → AllByRecursion AreOctetsIn (earlier ++ between)
    → Asks s (machine_at_end start earlier) (machine_at_end start (earlier ++ between))
    → OpensFor s number (machine_at_end start (earlier ++ between)) event opened sending
    → IsGivenOut number (Some sending) later
    → pumped_in number later ≡ before ++ message ∷ rest
    → copies.AllTellMore s before now
    → (w : ZoneState)
    × (zone_named s.apex (machine_at_end start (earlier ++ between)).zones ≡ Some w)
    × FollowsInOrder now message rest (shown_of (kept_of w))
