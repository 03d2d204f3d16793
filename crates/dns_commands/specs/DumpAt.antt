-- The version of a zone with a serial, and how a run ends that prints it.
use Rattle.std.specs.Prelude.{◌≡◌, ◌⊎◌, ◌≤◌, ◌<◌, ℕ, Bool, List, ◌++◌, length, take, drop, Option, Some}
use Rattle.std.specs.Prelude.{None, Result, Ok, Err, MatchResult, codes, decimal, if◌then◌else◌}
use Rattle.std.specs.String.{string_bytes}
use Rattle.std.specs.Io.KnownBytes.{Appends, Keeps}
use Rattle.dns_records.specs.Record.{Record}
use Rattle.dns_zone.specs.Zone.{Zone, soas}
use Rattle.dns_changes.specs.declared.ChangeError.{ChangeError}
use Rattle.dns_changes.specs.declared.ChangeError.TheVariants as changes
use Rattle.dns_changes.specs.Change.{Change}
use Rattle.dns_changes.specs.Version.{serial_in}
use Rattle.dns_masterfile.specs.Printed.{printed_zone}
use Rattle.dns_sectors.specs.declared.device.Sectors.{Ghosts}
use Rattle.dns_store.specs.Versions.{Opened, Versions, newest_after}
use Rattle.dns_transfer.specs.Form.{Incremental, form_of}
use Rattle.dns_configuration.specs.declared.configuration.ZoneSettings.{ZoneSettings}
use Rattle.dns_configuration.specs.declared.files.File.{File}
use Rattle.dns_configuration.specs.Faults.{line}
use Rattle.dns_devices.specs.declared.device_faults.DeviceFault.{DeviceFault}
use Rattle.dns_devices.specs.declared.device_faults.DeviceFault.TheVariants.{OutOfMemory}
use Rattle.dns_devices.specs.DeviceFaults.{device_text, status_of}
use Rattle.dns_devices.specs.DeviceCalls.{DeviceCall}
use Rattle.dns_devices.specs.Stores.{IsNotShown}
use Rattle.dns_commands.specs.Frame.{Ended, EndsForNamed}
use Rattle.dns_commands.specs.History.{IsSeenAs, changes_after, version_in}

-- The newest version has another serial, and an IXFR from this one is answered by these changes (RFC 1995 4).
pub record IsIncremental (newest : List Record) (changes : List Change) (serial : ℕ) (left : List Change)
    : Type 0 where
  pub other : serial_in (soas newest) ≡ serial → ⊥
  pub form : form_of (serial_in (soas newest)) changes (Some serial) ≡ Incremental left

-- No journalled version has the serial: an IXFR from it is answered by no changes.
pub record HasNoVersion (newest : List Record) (changes : List Change) (serial : ℕ) : Type 0 where
  pub other : serial_in (soas newest) ≡ serial → ⊥
  pub form : (left : List Change) → form_of (serial_in (soas newest)) changes (Some serial) ≡ Incremental left
      → ⊥

-- The newest of the versions after a base.
abbrev pub newest_from : Zone → Versions → Zone
newest_from base vs = record { apex = base.apex; records = newest_after base.records vs }

-- Changes were made of a set, and it has become the newest of these versions; or memory was refused.
abbrev pub AreAllApplied : List Record → List Record → Versions → Result (Unit {0}) ChangeError → Type 0
AreAllApplied before after vs result =
    MatchResult result (λ _. after ≡ newest_after before vs) (λ e. e ≡ changes.OutOfMemory)

-- They lead from a base to this zone; or memory was refused,
abbrev pub IsZoneAfter : Zone → Versions → Result Zone ChangeError → Type 0
IsZoneAfter base vs result =
    MatchResult result (λ z. (z.apex ≡ base.apex) × (z.records ≡ newest_after base.records vs))
    (λ e. e ≡ changes.OutOfMemory)

-- which is a fault of no device.
abbrev pub IsMadeAfter : Zone → Versions → Result (Option Zone) DeviceFault → Type 0
IsMadeAfter base vs result =
    MatchResult result (λ z. z ≡ Some (newest_from base vs)) (λ e. e ≡ OutOfMemory)

-- Of the versions from a base on, to which these changes lead: the newest one, if it has the serial; or the
-- one from which an IXFR is answered by the last of the changes; or none. If there is no answer, memory was
-- refused.
abbrev pub IsChosenFrom : Zone → List Change → Zone → Versions → ℕ → Result (Option Zone) DeviceFault → Type 0
IsChosenFrom base changes newest vs serial (Ok (Some zone)) =
    ((zone ≡ newest) × (serial_in (soas newest.records) ≡ serial))
    ⊎ ((n : ℕ) × (n < length changes) × IsIncremental newest.records changes serial (drop n changes)
    × (zone ≡ newest_from base (take n vs)))
IsChosenFrom base changes newest vs serial (Ok None) = HasNoVersion newest.records changes serial
IsChosenFrom base changes newest vs serial (Err fault) = fault ≡ OutOfMemory

-- The zone is the version with that number and that serial of what a store opens as: it is the newest one, or
-- an IXFR from it is answered by the changes after it.
pub record IsVersionWith (own : ZoneSettings) (serial : ℕ) (o : Opened) (zone : Zone) (n : ℕ) : Type 0 where
  pub since_base : o.base ≤ n
  pub so_far : n ≤ length o.versions
  pub zone_is : zone ≡ record { apex = own.origin; records = version_in o n }
  pub serial_is : serial_in (soas zone.records) ≡ serial
  pub sent : (n ≡ length o.versions)
      ⊎ IsIncremental (newest_after o.loaded o.versions) (changes_after o o.base) serial (changes_after o n)

-- What the answer for a serial is, of what a store opens as: the version, or none. If there is no answer,
-- memory was refused.
abbrev pub IsAnswerFor : ZoneSettings → ℕ → Result (Option Zone) DeviceFault → Opened → Type 0
IsAnswerFor own serial (Ok (Some zone)) o = (n : ℕ) × IsVersionWith own serial o zone n
IsAnswerFor own serial (Ok None) o =
    HasNoVersion (newest_after o.loaded o.versions) (changes_after o o.base) serial
IsAnswerFor own serial (Err fault) o = fault ≡ OutOfMemory

-- The device of the zone was looked into, with this answer.
abbrev pub IsPicked : {D : Type 0} → Ghosts D → List (DeviceCall D) → ZoneSettings → ℕ
    → Result (Option Zone) DeviceFault → Type 0
IsPicked g calls own serial result = IsSeenAs g calls own (IsAnswerFor own serial result)

abbrev pub HasAnswer : {D : Type 0} → Ghosts D → List (DeviceCall D) → ZoneSettings → ℕ → Option Zone
    → Type 0
HasAnswer g calls own serial zone = IsPicked g calls own serial (Ok zone)

-- Why there is none: the device shows no version; or memory was refused, or the device does not keep what was
-- written.
abbrev pub HasNoAnswer : {D : Type 0} → Ghosts D → List (DeviceCall D) → ZoneSettings → ℕ → DeviceFault
    → Type 0
HasNoAnswer g calls own serial fault =
    IsNotShown g calls own fault ⊎ ((status_of fault ≡ 3) × IsPicked g calls own serial (Err fault))

-- The device of the zone was looked into, with an answer or without one.
abbrev pub IsPickTried : {D : Type 0} → Ghosts D → List (DeviceCall D) → ℕ → ZoneSettings → Type 0
IsPickTried g calls serial own =
    ((result : Result (Option Zone) DeviceFault) × IsPicked g calls own serial result)
    ⊎ ((fault : DeviceFault) × IsNotShown g calls own fault)

-- What is reported if no version has the serial, and in a second line, if it is wanted, what can be done.
abbrev pub unfound_text : ℕ → Bool → List ℕ
unfound_text serial explain =
    decimal serial ++ (if explain
    then codes ": NoVersion\n" ++ decimal serial
    ++ codes ": no journalled version has that serial; history lists them"
    else codes ": NoVersion")

-- Why a device shows no version with a serial, and the text that says so.
abbrev pub IsNotPicked : {D : Type 0} → Ghosts D → List (DeviceCall D) → ZoneSettings → ℕ → Bool → List ℕ
    → Type 0
IsNotPicked g calls own serial explain text =
    ((fault : DeviceFault) × IsNotShown g calls own fault × (status_of fault ≡ 1)
    × (text ≡ device_text (string_bytes own.device) fault explain))
    ⊎ (HasAnswer g calls own serial None × (text ≡ unfound_text serial explain))

-- How the showing of a device ends as it was at a serial: that version is printed, or why there is none is
-- reported. With status 3 the device can't be had, a writer failed or memory was refused. The calls are the
-- same however it ends.
pub record PickingEnds {D : Type 0} (g : Ghosts D) (serial : ℕ) (own : ZoneSettings)
    (e : Ended (DeviceCall D))
    : Type 0 where
  pub done : e.status ≡ 0
      → (zone : Zone) × HasAnswer g e.calls own serial (Some zone)
      × Appends e.out e.out_after (printed_zone zone.records) × Keeps e.err e.err_after
  pub refused : e.status ≡ 1
      → (text : List ℕ) × IsNotPicked g e.calls own serial e.explain text
      × Appends e.err e.err_after (line text) × Keeps e.out e.out_after
  pub others : e.status ≤ 1 ⊎ (e.status ≡ 3)
  pub called : IsPickTried g e.calls serial own

-- How a run of `dump --serial` ends. However it ends, nothing was done but to look into the device of the
-- zone that is named, if one was named.
abbrev pub DumpAtEnds : {D : Type 0} → Ghosts D → File → List ℕ → ℕ → Ended (DeviceCall D) → Type 0
DumpAtEnds g config origin serial e = EndsForNamed config origin (PickingEnds g serial) e
