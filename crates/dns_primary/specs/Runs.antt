-- Runs of the machine, and what holds of every one.
use Rattle.std.specs.Prelude.{◌≡◌, ◌≢◌, ◌⊎◌, ◌<◌, ◌≤◌, ◌+◌, ◌-◌, ◌^◌, ℕ, suc, Bool, true, false, List}
use Rattle.std.specs.Prelude.{[], ◌∷◌, ◌++◌}
use Rattle.std.specs.Prelude.{length, slice_get, Some}
use Rattle.std.specs.List.{AllByRecursion, Contains}
use Rattle.dns_records.specs.Record.{Record}
use Rattle.dns_names.specs.Name.{names_eq}
use Rattle.dns_layout.specs.Sector.{snapshot_sectors}
use Rattle.dns_wire.specs.Message.{Header, Question, Message}
use Rattle.dns_wire.specs.Text.{text}
use Rattle.dns_request.specs.Codes.{rcode_servfail}
use Rattle.dns_request.specs.declared.request.Transport.{Transport}
use Rattle.dns_request.specs.declared.request.Transport.TheVariants.{Udp, Tcp}
use Rattle.dns_answer.specs.Answer.{Update, bare_reply, handled}
use Rattle.dns_update.specs.Verdict.{Leaves, verdict}
use Rattle.dns_store.specs.Plain.{octets_of}
use Rattle.dns_store.specs.Versions.{Shape}
use Rattle.dns_store.specs.Room.{entry_between}
use Rattle.dns_versions.specs.Each.{Each2}
use Rattle.dns_primary.specs.declared.event.Peer.{Peer}
use Rattle.dns_primary.specs.Machine.{Made, ZoneState, Waits, Machine, updates_of, shown_zones}
use Rattle.dns_primary.specs.Machine.{peer_at}
use Rattle.dns_primary.specs.Flush.{Sent, Answered, Replied, is_closed_in}
use Rattle.dns_primary.specs.Step.{Event, Datagram, Arrives, Connect, Flush, Checkpoint, Pump, Closed}
use Rattle.dns_primary.specs.Step.{Effects, Step, arrived_update, is_update}
use Rattle.dns_primary.specs.Stop.{IsStopped, IsConfigured}

-- What happens in a run: a step, with the event, the devices that failed, what went out, and the machine
-- after it. Or a stop within an event, with how many recoveries were themselves stopped or refused, and the
-- machine that the one that succeeded led to. Or, after a stop, other settings, and the machine with these.
pub data Moment : Type 0 where
  Took : Event → List Bool → Effects → Machine → Moment
  Stopped : Event → ℕ → Machine → Moment
  Configured : Machine → Moment

abbrev pub machine_after : Moment → Machine
machine_after (Took event fails effects new) = new
machine_after (Stopped event tries new) = new
machine_after (Configured new) = new

-- What went out: nothing but in a step.
abbrev pub sent_in : Moment → List Sent
sent_in (Took event fails effects new) = effects.sent
sent_in (Stopped event tries new) = []
sent_in (Configured new) = []

-- An event is a step of the machine. A recovery that is stopped or refused leaves the choices that the stop
-- left, and counts as an opening.
abbrev pub Happens : Machine → Moment → Type 0
Happens m (Took event fails effects new) = Step fails m event effects new
Happens m (Stopped event tries new) = IsStopped tries m event new
Happens m (Configured new) = IsConfigured m new

-- Each of these happens to the machine that those before it left.
abbrev pub Run : Machine → List Moment → Type 0
Run m [] = Unit {0}
Run m (t ∷ rest) = Happens m t × Run (machine_after t) rest

abbrev pub machine_at_end : Machine → List Moment → Machine
machine_at_end m [] = m
machine_at_end m (t ∷ rest) = machine_at_end (machine_after t) rest

-- An update is accepted on the version with this number: judged on the records of that version it leaves its
-- own (RFC 2136 3), and there is room for those: they are at most 65,536, their snapshot and their entry fit
-- in the sectors that there are for them, and the number that they get has 64 bits.
pub record IsAccepted (s : Shape) (number : ℕ) (before : List Record) (m : Made) : Type 0 where
  pub judged : verdict (record { apex = s.apex; records = before }) m.update.answers
      m.update.authorities ≡ Leaves m.records
  pub few : length m.records ≤ 65536
  pub snapshot : snapshot_sectors (octets_of m.records) ≤ s.snapshot
  pub entry : entry_between before m.records ≤ s.journal
  pub numbered : number < 2 ^ 64 - 1

-- Each update was accepted on the version that the one before it left.
abbrev pub IsHistory : Shape → ℕ → List Record → List Made → Type 0
IsHistory s number before [] = Unit {0}
IsHistory s number before (m ∷ later) =
    IsAccepted s number before m × IsHistory s (suc number) m.records later

abbrev pub HasHistory : ZoneState → Type 0
HasHistory z = IsHistory z.setting.shape 0 z.loaded (updates_of z)

-- The event brings octets from a peer by a transport.
abbrev pub Carries : Machine → Event → Peer → Transport → List ℕ → Type 0
Carries m (Datagram from octets) peer transport came = (peer ≡ from) × (transport ≡ Udp) × (came ≡ octets)
Carries m (Arrives number octets) peer transport came =
    (peer_at number m.connections ≡ Some peer) × (transport ≡ Tcp) × (came ≡ octets)
Carries m (Connect from) peer transport came = ⊥
Carries m Flush peer transport came = ⊥
Carries m (Checkpoint index) peer transport came = ⊥
Carries m (Pump number) peer transport came = ⊥
Carries m (Closed number) peer transport came = ⊥

-- The event brings this update of the zone: its message names it, and came from an address from which it
-- might be updated by the settings that it had then.
pub record Brings (m : Machine) (event : Event) (z : ZoneState) (update : Message) : Type 0 where
  pub peer : Peer
  pub transport : Transport
  pub octets : List ℕ
  pub came : Carries m event peer transport octets
  pub question : Question
  pub asks : handled (shown_zones m) octets transport ≡ Update update question
  pub index : ℕ
  pub zone : ZoneState
  pub there : slice_get m.zones index ≡ Some zone
  pub shape : zone.setting.shape ≡ z.setting.shape
  pub named : names_eq zone.setting.shape.apex question.name ≡ true
  pub allowed : zone.setting.may_update peer.address ≡ true

abbrev pub BringsIn : Machine → Moment → ZoneState → Message → Type 0
BringsIn m (Took event fails effects new) z update = Brings m event z update
BringsIn m (Stopped event tries new) z update = ⊥
BringsIn m (Configured new) z update = ⊥

-- The update came in one of these moments.
abbrev pub CameIn : Machine → List Moment → ZoneState → Message → Type 0
CameIn m [] z update = ⊥
CameIn m (t ∷ rest) z update = BringsIn m t z update ⊎ CameIn (machine_after t) rest z update

-- Each update of the zone came in one of these moments.
abbrev pub AllCameIn : Machine → List Moment → ZoneState → Type 0
AllCameIn m run z = AllByRecursion (λ u. CameIn m run z u.update) (updates_of z)

-- Each update of the zone came in one of these moments, or was one of the zone before them.
abbrev pub AllCameSince : Machine → List Moment → ZoneState → ZoneState → Type 0
AllCameSince m run old new =
    AllByRecursion (λ u. Contains (updates_of old) u ⊎ CameIn m run new u.update) (updates_of new)

-- What was shown stays shown: the updates of the version shown before are the first of those of the version
-- shown after. The zone's name and the sizes of its store stay, and its other settings may change.
pub record Lasts (old new : ZoneState) : Type 0 where
  pub shape : new.setting.shape ≡ old.setting.shape
  pub loaded : new.loaded ≡ old.loaded
  pub more : List Made
  pub shown : new.shown ≡ old.shown ++ more

abbrev pub AllLast : List ZoneState → List ZoneState → Type 0
AllLast = Each2 Lasts

-- The updates up to an answered one, and itself where it was accepted, are the first of those of the version
-- shown.
pub record IsDurable (zones : List ZoneState) (w : Waits) : Type 0 where
  pub zone : ZoneState
  pub stands : slice_get zones w.zone ≡ Some zone
  pub more : List Made
  pub shown : zone.shown ≡ w.updates ++ more

-- An update that is answered NOERROR is durable.
abbrev pub IsTrueIn : List ZoneState → Sent → Type 0
IsTrueIn zones (Answered w rcode) = rcode ≡ 0 → IsDurable zones w
IsTrueIn zones (Replied to octets) = Unit {0}

-- What was shown after a moment, and what was answered in it, is true of these zones.
pub record StaysTrue (zones : List ZoneState) (t : Moment) : Type 0 where
  pub shown : AllLast (machine_after t).zones zones
  pub answered : AllByRecursion (IsTrueIn zones) (sent_in t)

-- What waited before an event goes out with the code that it waited with, or with SERVFAIL where its zone is
-- closed after the event; and with that where it was closed before.
abbrev pub IsReleasedFrom : Machine → Machine → Sent → Type 0
IsReleasedFrom old new (Answered w rcode) =
    Contains old.waiting w
    × ((rcode ≡ w.rcode) ⊎ ((rcode ≡ rcode_servfail) × (is_closed_in (slice_get new.zones w.zone) ≡ true)))
    × (is_closed_in (slice_get old.zones w.zone) ≡ true → rcode ≡ rcode_servfail)
IsReleasedFrom old new (Replied to octets) = Unit {0}

-- What came in the event is an update.
abbrev pub brings_update : Machine → Event → Bool
brings_update m (Datagram peer octets) = is_update (handled (shown_zones m) octets Udp)
brings_update m (Arrives number octets) = arrived_update m (peer_at number m.connections) octets
brings_update m (Connect peer) = false
brings_update m Flush = false
brings_update m (Checkpoint index) = false
brings_update m (Pump number) = false
brings_update m (Closed number) = false

-- What goes out at once is a header alone, with a code that isn't NOERROR.
abbrev pub IsNoAcknowledgement : Sent → Type 0
IsNoAcknowledgement (Answered w rcode) = Unit {0}
IsNoAcknowledgement (Replied to octets) =
    (header : Header) × (rcode : ℕ) × (rcode ≢ 0) × (octets ≡ text (bare_reply header rcode))

-- How often the stores were opened in these moments.
abbrev pub openings_in : List Moment → ℕ
openings_in [] = 0
openings_in (Took event fails effects new ∷ rest) = openings_in rest
openings_in (Stopped event tries new ∷ rest) = suc tries + openings_in rest
openings_in (Configured new ∷ rest) = openings_in rest

-- The store was opened at most so often more.
abbrev pub IsOpenedAtMost : ℕ → ZoneState → ZoneState → Type 0
IsOpenedAtMost times old new = new.openings ≤ old.openings + times

-- At the end of a run, however often the machine stopped in it, each zone is its loaded records after
-- accepted updates, each judged on what the ones before it left, for which there was room, and which came in
-- the run from an address that might update the zone then; the version that is shown is after the first of
-- them; among these are all that was shown and all that was answered NOERROR at any moment of the run. No
-- store says that it was opened more often than it was.
pub record Promise (start : Machine) (run : List Moment) : Type 0 where
  pub loaded : AllLast start.zones (machine_at_end start run).zones
  pub history : AllByRecursion HasHistory (machine_at_end start run).zones
  pub came : AllByRecursion (AllCameIn start run) (machine_at_end start run).zones
  pub openings : Each2 (IsOpenedAtMost (openings_in run)) start.zones (machine_at_end start run).zones
  pub moments : AllByRecursion (StaysTrue (machine_at_end start run).zones) run

-- The same of a run that begins with versions that were there: of its updates each was there or came in the
-- run.
pub record Continuation (start : Machine) (run : List Moment) : Type 0 where
  pub loaded : AllLast start.zones (machine_at_end start run).zones
  pub history : AllByRecursion HasHistory (machine_at_end start run).zones
  pub came : Each2 (AllCameSince start run) start.zones (machine_at_end start run).zones
  pub openings : Each2 (IsOpenedAtMost (openings_in run)) start.zones (machine_at_end start run).zones
  pub moments : AllByRecursion (StaysTrue (machine_at_end start run).zones) run
