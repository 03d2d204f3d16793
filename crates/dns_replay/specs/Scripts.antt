-- Scripts: what is printed of each line, and the machine that it leads to.
use Rattle.std.specs.Prelude.{◌≡◌, ◌⊎◌, ℕ, ◌+◌, zero, suc, Bool, List, [], ◌∷◌, ◌++◌, flat_map, length}
use Rattle.std.specs.Prelude.{slice_get, Option, Some, None, codes, decimal}
use Rattle.std.specs.declared.net.ip_addr.IpAddr.{IpAddr}
use Rattle.hex.specs.Hex.{encode_lower}
use Rattle.dns_names.specs.Name.{Labels}
use Rattle.dns_names.specs.Text.{printed_name}
use Rattle.dns_policy.specs.Printed.{printed_address}
use Rattle.dns_primary.specs.declared.event.Peer.{Peer}
use Rattle.dns_primary.specs.declared.event.To.{To}
use Rattle.dns_primary.specs.declared.event.To.TheVariants as to
use Rattle.dns_primary.specs.declared.event.Noted.{Noted}
use Rattle.dns_primary.specs.declared.event.Noted.TheVariants as noted
use Rattle.dns_records.specs.Record.{Record, serial_of}
use Rattle.dns_zone.specs.Zone.{soas}
use Rattle.dns_store.specs.declared.root.OpenError.{OpenError}
use Rattle.dns_store.specs.declared.root.OpenError.TheVariants as refused
use Rattle.dns_versions.specs.Held.{shown_zone}
use Rattle.dns_primary.specs.Machine.{Machine, ZoneState, kept_of}
use Rattle.dns_primary.specs.Flush.{all_out}
use Rattle.dns_primary.specs.Step.{Effects, Event, Step, Arrives, Closed}
use Rattle.dns_primary.specs.Step as machine
use Rattle.dns_primary.specs.Stop.{IsStopped}
use Rattle.dns_primary.specs.Runs.{Moment, Took, Stopped}
use Rattle.dns_replay.specs.Commands.{Command, SaysCommand}
use Rattle.dns_replay.specs.Commands as script
use Rattle.dns_replay.specs.Keeps.{ZoneKeep}
use Rattle.dns_replay.specs.declared.run.Ending.{Ending}
use Rattle.dns_replay.specs.declared.run.Ending.TheVariants.{Done, Syntax, Refused}

-- A peer has no port in a script.
abbrev pub peer_of : IpAddr → Peer
peer_of address = record { address = address; port = 0; local = 0 }

-- What a command says: nothing; an event; that a write or a sync is to fail; that a crash comes which keeps
-- these of the writes that are pending, all stores are opened anew, and that a write or a sync of the opening
-- may be the last.
pub data Commanded : Type 0 where
  Nothing : Commanded
  Happens : Event → Commanded
  Plans : Commanded
  Crashes : List ZoneKeep → Commanded
  Reopens : List ZoneKeep → Commanded

abbrev pub commanded_by : Command → Commanded
commanded_by script.Nothing = Nothing
commanded_by (script.Datagram address octets) = Happens (machine.Datagram (peer_of address) octets)
commanded_by (script.Connect address) = Happens (machine.Connect (peer_of address))
commanded_by (script.Message number octets) = Happens (Arrives number octets)
commanded_by (script.Pump number) = Happens (machine.Pump number)
commanded_by (script.Close number) = Happens (Closed number)
commanded_by script.Flush = Happens machine.Flush
commanded_by (script.Checkpoint index) = Happens (machine.Checkpoint index)
commanded_by (script.Fail n) = Plans
commanded_by (script.Stop n) = Plans
commanded_by (script.Crash keeps) = Crashes keeps
commanded_by (script.Reopen n keeps) = Reopens keeps

-- A reply: where it goes, and its octets.
abbrev pub printed_to : To → List ℕ
printed_to (to.Address peer) = codes "udp " ++ printed_address peer.address
printed_to (to.Connection number) = codes "tcp " ++ decimal number
printed_to to.Nowhere = []

abbrev pub printed_reply : To × List ℕ → List ℕ
printed_reply reply = printed_to reply.0 ++ codes " " ++ encode_lower reply.1 ++ 10 ∷ []

-- The number of a new connection, where one was asked for.
abbrev pub printed_number : Option ℕ → List ℕ
printed_number None = codes "conn none" ++ 10 ∷ []
printed_number (Some number) = codes "conn " ++ decimal number ++ 10 ∷ []

abbrev pub printed_connection : Event → Option ℕ → List ℕ
printed_connection (machine.Connect peer) accepted = printed_number accepted
printed_connection (machine.Datagram peer octets) accepted = []
printed_connection (Arrives number octets) accepted = []
printed_connection machine.Flush accepted = []
printed_connection (machine.Checkpoint index) accepted = []
printed_connection (machine.Pump number) accepted = []
printed_connection (Closed number) accepted = []

-- The zone whose device failed first.
abbrev pub printed_origin : Option Labels → List ℕ
printed_origin None = []
printed_origin (Some origin) = codes "device " ++ printed_name origin ++ 10 ∷ []

abbrev pub printed_noted : List Labels → Noted → List ℕ
printed_noted origins noted.Nothing = []
printed_noted origins noted.OutOfMemory = []
printed_noted origins (noted.Device index) = printed_origin (slice_get origins index)

-- The effects of an event: its replies in order, then the number of its connection, then the device.
abbrev pub printed_effects : List Labels → Event → Effects → List ℕ
printed_effects origins event effects =
    flat_map printed_reply (all_out effects.sent)
    ++ printed_connection event effects.accepted
    ++ printed_noted origins effects.noted

-- A command in which a stop fell, and each after it until a crash.
abbrev pub printed_stop : List ℕ
printed_stop = codes "stopped" ++ 10 ∷ []

-- The serial of the first of these SOA records.
abbrev pub first_serial : List Record → ℕ
first_serial [] = 0
first_serial (soa ∷ rest) = serial_of soa

-- The number of the version that is shown of a zone, the loaded one having 0, and its serial.
abbrev pub shown_version : Option ZoneState → Option (ℕ × ℕ)
shown_version None = None
shown_version (Some z) = Some (length z.shown, first_serial (soas (shown_zone (kept_of z)).records))

abbrev pub recovered_line : Labels → ℕ → ℕ → List ℕ
recovered_line origin number serial =
    codes "recovered " ++ printed_name origin ++ codes " version " ++ decimal number ++ codes " serial "
    ++ decimal serial ++ 10 ∷ []

-- A zone after a crash.
abbrev pub recovered_version : Labels → Option (ℕ × ℕ) → List ℕ
recovered_version origin None = []
recovered_version origin (Some version) = recovered_line origin version.0 version.1

abbrev pub recovered_zone : Option Labels → Option ZoneState → List ℕ
recovered_zone None z = []
recovered_zone (Some origin) z = recovered_version origin (shown_version z)

-- So many zones, in order.
abbrev pub recovered_zones : List Labels → List ZoneState → ℕ → List ℕ
recovered_zones origins zones zero = []
recovered_zones origins zones (suc n) =
    recovered_zones origins zones n ++ recovered_zone (slice_get origins n) (slice_get zones n)

-- A store that is refused, and why.
abbrev pub refusal_word : OpenError → List ℕ
refusal_word refused.Device = codes "Device"
refusal_word refused.Blank = codes "Blank"
refusal_word (refused.Damaged sector) = codes "Damaged(" ++ decimal sector ++ codes ")"
refusal_word refused.Geometry = codes "Geometry"
refusal_word refused.OutOfMemory = codes "OutOfMemory"

abbrev pub refused_line : Labels → OpenError → List ℕ
refused_line origin error =
    codes "refused " ++ printed_name origin ++ codes " " ++ refusal_word error ++ 10 ∷ []

abbrev pub printed_refusal : Option Labels → OpenError → List ℕ
printed_refusal None error = []
printed_refusal (Some origin) error = refused_line origin error

-- The state of a script: a machine takes events; or one stopped within an event, and its devices alone are
-- left, after so many tries to open them again.
pub data Standing : Type 0 where
  Takes : Machine → Standing
  Stands : Machine → Event → ℕ → Standing

-- The machine that a crash comes to, and the event that it comes in. Between two events it is as in a flush
-- that has not begun.
abbrev pub machine_of : Standing → Machine
machine_of (Takes m) = m
machine_of (Stands m event tries) = m

abbrev pub event_in : Standing → Event
event_in (Takes m) = machine.Flush
event_in (Stands m event tries) = event

abbrev pub tries_in : Standing → ℕ
tries_in (Takes m) = 0
tries_in (Stands m event tries) = tries

-- What happens to the machine meanwhile, what is printed, and the state of the script then.
pub record Led : Type 0 where
  pub moments : List Moment
  pub text : List ℕ
  pub standing : Standing

abbrev pub idle : Standing → Led
idle s = record { moments = []; text = []; standing = s }

abbrev pub halted : Machine → Event → ℕ → Led
halted m event tries = record { moments = []; text = printed_stop; standing = Stands m event tries }

-- An event is a step of the machine, or a stop fell within it.
abbrev pub EventLeads : List Labels → Standing → Event → Led → Type 0
EventLeads origins (Takes m) event led =
    ((fails : List Bool) × (effects : Effects) × (next : Machine) × Step fails m event effects next
    × (led ≡ record {
      moments = Took event fails effects next ∷ [];
      text = printed_effects origins event effects;
      standing = Takes next;
    }))
    ⊎ (led ≡ halted m event 0)
EventLeads origins (Stands m stopped tries) event led = led ≡ halted m stopped tries

-- What a crash that keeps these of the pending writes leads to from the state of a script: a machine, whose
-- zones are what is left on their devices; or, where a stop falls in the opening, devices alone.
abbrev pub Crash : Type 1
Crash = Standing → List ZoneKeep → Option Machine → Type 0

-- A crash, and the stores are opened again: the machine stopped, and recovered.
abbrev pub CrashLeads : List Labels → Crash → Standing → List ZoneKeep → Led → Type 0
CrashLeads origins crash s keeps led =
    (next : Machine) × IsStopped (tries_in s) (machine_of s) (event_in s) next × crash s keeps (Some next)
    × (led ≡ record {
      moments = Stopped (event_in s) (tries_in s) next ∷ [];
      text = recovered_zones origins next.zones (length origins);
      standing = Takes next;
    })

-- A plan is made for the devices of a machine that takes events.
abbrev pub PlanLeads : Standing → Led → Type 0
PlanLeads (Takes m) led = led ≡ idle (Takes m)
PlanLeads (Stands m event tries) led = led ≡ halted m event tries

abbrev pub LeadsByCommand : List Labels → Crash → Standing → Commanded → Led → Type 0
LeadsByCommand origins crash s Nothing led = led ≡ idle s
LeadsByCommand origins crash s (Happens event) led = EventLeads origins s event led
LeadsByCommand origins crash s Plans led = PlanLeads s led
LeadsByCommand origins crash s (Crashes keeps) led = CrashLeads origins crash s keeps led
LeadsByCommand origins crash s (Reopens keeps) led =
    CrashLeads origins crash s keeps led
    ⊎ (crash s keeps None × (led ≡ halted (machine_of s) (event_in s) (suc (tries_in s))))

-- What a command may end: a store is refused after a crash.
abbrev pub MayRefuse : Commanded → Type 0
MayRefuse (Crashes keeps) = Unit {0}
MayRefuse (Reopens keeps) = Unit {0}
MayRefuse _ = ⊥

-- A line that is a command leads on.
pub record LineLeads (origins : List Labels) (crash : Crash) (s : Standing) (line : List ℕ)
    (led : Led) : Type 0 where
  pub command : Command
  pub says : SaysCommand origins line command
  pub leads : LeadsByCommand origins crash s (commanded_by command) led

-- ... or ends the run.
pub record LineRefuses (origins : List Labels) (line text : List ℕ) : Type 0 where
  pub command : Command
  pub says : SaysCommand origins line command
  pub crashes : MayRefuse (commanded_by command)
  pub index : ℕ
  pub error : OpenError
  pub printed : text ≡ printed_refusal (slice_get origins index) error

abbrev pub IsNoCommand : List Labels → List ℕ → Type 0
IsNoCommand origins line = (c : Command) → ¬ (SaysCommand origins line c)

-- What lines lead to, the first of which has that number, and how the run ends: where all are commands, at
-- the first that is none, or at one after which a store is refused.
abbrev pub Runs : List Labels → Crash → Standing → ℕ → List (List ℕ) → Led → Ending → Type 0
Runs origins crash s number [] led ending = (led ≡ idle s) × (ending ≡ Done)
Runs origins crash s number (line ∷ rest) led ending =
    ((first more : Led) × LineLeads origins crash s line first
    × Runs origins crash first.standing (number + 1) rest more ending
    × (led ≡ record {
      moments = first.moments ++ more.moments;
      text = first.text ++ more.text;
      standing = more.standing;
    }))
    ⊎ (IsNoCommand origins line × (led ≡ idle s) × (ending ≡ Syntax number))
    ⊎ ((text : List ℕ) × LineRefuses origins line text × (led ≡ record (idle s) { text = text })
    × (ending ≡ Refused))
