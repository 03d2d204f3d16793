-- The difference of two journalled versions of a zone, and how a run ends that prints it.
use Rattle.std.specs.Prelude.{◌≡◌, ◌⊎◌, ◌≤◌, ℕ, Bool, not, ◌&&◌, ◌==◌, List, [], ◌++◌, filter}
use Rattle.std.specs.Prelude.{Option, Some, None, Result, Ok, Err, codes, if◌then◌else◌}
use Rattle.std.specs.String.{string_bytes}
use Rattle.std.specs.Io.KnownBytes.{Appends, Keeps}
use Rattle.dns_names.specs.Name.{Labels, names_eq}
use Rattle.dns_names.specs.Text.{printed_name}
use Rattle.dns_records.specs.Record.{Record}
use Rattle.dns_records.specs.Types.{type_ns}
use Rattle.dns_zone.specs.Records.{has}
use Rattle.dns_zone.specs.Zone.{Zone}
use Rattle.dns_changes.specs.Change.{Change, IsChange}
use Rattle.dns_sectors.specs.declared.device.Sectors.{Ghosts}
use Rattle.dns_store.specs.Versions.{Opened, Versions, newest_after}
use Rattle.dns_configuration.specs.declared.configuration.ZoneSettings.{ZoneSettings}
use Rattle.dns_configuration.specs.declared.files.File.{File}
use Rattle.dns_configuration.specs.Faults.{line}
use Rattle.dns_devices.specs.declared.device_faults.DeviceFault.{DeviceFault}
use Rattle.dns_devices.specs.declared.device_faults.DeviceFault.TheVariants.{OutOfMemory}
use Rattle.dns_devices.specs.DeviceFaults.{device_text, status_of}
use Rattle.dns_devices.specs.DeviceCalls.{DeviceCall}
use Rattle.dns_devices.specs.Stores.{IsNotShown}
use Rattle.dns_commands.specs.Compare.{change_lines, signed_lines}
use Rattle.dns_commands.specs.DumpAt.{IsAnswerFor, IsChosenFrom, unfound_text}
use Rattle.dns_commands.specs.Frame.{Ended, EndsForNamed}
use Rattle.dns_commands.specs.History.{IsSeenAs}

-- The change from one version to another, of which there is one; or none, exactly if they have the same
-- records.
abbrev pub IsChangeOf : List Record → List Record → Option Change → Type 0
IsChangeOf before after None = after ≡ before
IsChangeOf before after (Some change) = (after ≡ before → ⊥) × IsChange before after change

-- An answer is the change, or the serial that no version has. If there is no answer, memory was refused.
abbrev pub Answer : Type 0
Answer = Result (Result (Option Change) ℕ) DeviceFault

-- It was found between two versions, or memory was refused.
abbrev pub IsBetweenThese : List Record → List Record → Answer → Type 0
IsBetweenThese before after (Ok (Ok change)) = IsChangeOf before after change
IsBetweenThese before after (Ok (Err serial)) = ⊥
IsBetweenThese before after (Err fault) = fault ≡ OutOfMemory

-- The version that a difference leads to: the one with that serial, or the newest one. Looking for a serial
-- is answered as A says.
abbrev pub IsEnd : (ℕ → Result (Option Zone) DeviceFault → Type 0) → Zone → Option ℕ → Zone → Type 0
IsEnd A newest (Some serial) zone = A serial (Ok (Some zone))
IsEnd A newest None zone = zone ≡ newest

-- The two versions of a difference, and the change from the one to the other.
pub record IsBetween (A : ℕ → Result (Option Zone) DeviceFault → Type 0) (newest : Zone) (from : ℕ)
    (to : Option ℕ) (change : Option Change) : Type 0 where
  pub before : Zone
  pub after : Zone
  pub begins : A from (Ok (Some before))
  pub ends : IsEnd A newest to after
  pub change_is : IsChangeOf before.records after.records change

-- No version has the serial, which is the one that the difference begins at, or else the one that it ends at.
abbrev pub IsMissing : (ℕ → Result (Option Zone) DeviceFault → Type 0) → ℕ → Option ℕ → ℕ → Type 0
IsMissing A from to serial =
    ((serial ≡ from) × A from (Ok None))
    ⊎ ((before : Zone) × A from (Ok (Some before)) × (to ≡ Some serial) × A serial (Ok None))

-- The difference of two versions: the change, or the serial that no version has. If there is neither, memory
-- was refused.
abbrev pub IsDiffAnswer : (ℕ → Result (Option Zone) DeviceFault → Type 0) → Zone → ℕ → Option ℕ → Answer
    → Type 0
IsDiffAnswer A newest from to (Ok (Ok change)) = IsBetween A newest from to change
IsDiffAnswer A newest from to (Ok (Err serial)) = IsMissing A from to serial
IsDiffAnswer A newest from to (Err fault) = fault ≡ OutOfMemory

-- ... of the versions from a base on, to which these changes lead.
abbrev pub IsDifferenceFrom : Zone → List Change → Zone → Versions → ℕ → Option ℕ → Answer → Type 0
IsDifferenceFrom base changes newest vs from to result =
    IsDiffAnswer (λ serial r. IsChosenFrom base changes newest vs serial r) newest from to result

-- ... of the versions of what a store opens as.
abbrev pub IsDifferenceIn : ZoneSettings → ℕ → Option ℕ → Answer → Opened → Type 0
IsDifferenceIn own from to result o =
    IsDiffAnswer (λ serial r. IsAnswerFor own serial r o)
    (record { apex = own.origin; records = newest_after o.loaded o.versions }) from to result

-- The change from one version to another one of them, or to the newest.
abbrev pub IsDifferenceTo : Zone → List Change → Zone → Versions → Zone → Option ℕ → Answer → Type 0
IsDifferenceTo base changes newest vs before to (Ok (Ok change)) =
    (after : Zone) × IsEnd (λ serial r. IsChosenFrom base changes newest vs serial r) newest to after
    × IsChangeOf before.records after.records change
IsDifferenceTo base changes newest vs before to (Ok (Err serial)) =
    (to ≡ Some serial) × IsChosenFrom base changes newest vs serial (Ok None)
IsDifferenceTo base changes newest vs before to (Err fault) = fault ≡ OutOfMemory

-- The device of the zone was looked into, with this answer.
abbrev pub IsDiffed : {D : Type 0} → Ghosts D → List (DeviceCall D) → ZoneSettings → ℕ → Option ℕ → Answer
    → Type 0
IsDiffed g calls own from to result = IsSeenAs g calls own (IsDifferenceIn own from to result)

-- ... with this change, or without a version that has the serial.
abbrev pub HasDiff : {D : Type 0} → Ghosts D → List (DeviceCall D) → ZoneSettings → ℕ → Option ℕ
    → Result (Option Change) ℕ → Type 0
HasDiff g calls own from to found = IsDiffed g calls own from to (Ok found)

-- Why there is no answer: the device shows no version; or memory was refused, or the device does not keep
-- what was written.
abbrev pub HasNoDiff : {D : Type 0} → Ghosts D → List (DeviceCall D) → ZoneSettings → ℕ → Option ℕ
    → DeviceFault → Type 0
HasNoDiff g calls own from to fault =
    IsNotShown g calls own fault ⊎ ((status_of fault ≡ 3) × IsDiffed g calls own from to (Err fault))

-- The device of the zone was looked into, with an answer or without one.
abbrev pub IsDiffTried : {D : Type 0} → Ghosts D → List (DeviceCall D) → ℕ → Option ℕ → ZoneSettings
    → Type 0
IsDiffTried g calls from to own =
    ((result : Answer) × IsDiffed g calls own from to result)
    ⊎ ((fault : DeviceFault) × IsNotShown g calls own fault)

-- The record is an NS of the apex. Of these an update deletes no last one (RFC 2136 3.4.2.4).
abbrev pub is_apex_ns : Labels → Record → Bool
is_apex_ns apex r = names_eq r.owner apex && r.rtype == type_ns

-- To undo a change an update deletes what came and adds what went, in this order: the NS of the apex are
-- deleted last, and of them none that was added, so that one whose TTL alone changed stays.
abbrev pub deleted_first : Labels → List Record → List Record
deleted_first apex come = filter (λ r. not (is_apex_ns apex r)) come

abbrev pub deleted_last : Labels → List Record → List Record → List Record
deleted_last apex gone come = filter (λ r. is_apex_ns apex r && not (has r gone)) come

-- The lines of nsupdate that undo a change, its SOA aside.
abbrev pub undo_text : Labels → Change → List ℕ
undo_text apex change =
    line (codes "zone " ++ printed_name apex)
    ++ signed_lines (codes "update delete") (deleted_first apex change.added)
    ++ signed_lines (codes "update add") change.removed
    ++ signed_lines (codes "update delete") (deleted_last apex change.removed change.added)
    ++ line (codes "send")

-- What is printed: what goes, and then what comes, each with its SOA first, or that nothing does; or, if that
-- is wanted, the lines that undo it.
abbrev pub diff_text : Bool → ZoneSettings → Option Change → List ℕ
diff_text as_update own None = if as_update then [] else line (printed_name own.origin ++ codes " unchanged")
diff_text as_update own (Some change) = if as_update then undo_text own.origin change else change_lines change

-- Why a device shows no difference, and the text that says so.
abbrev pub IsNotDiffed : {D : Type 0} → Ghosts D → List (DeviceCall D) → ZoneSettings → ℕ → Option ℕ → Bool
    → List ℕ → Type 0
IsNotDiffed g calls own from to explain text =
    ((fault : DeviceFault) × IsNotShown g calls own fault × (status_of fault ≡ 1)
    × (text ≡ device_text (string_bytes own.device) fault explain))
    ⊎ ((serial : ℕ) × HasDiff g calls own from to (Err serial) × (text ≡ unfound_text serial explain))

-- How the comparison of two versions of a device ends: the change is printed, or why there is none is
-- reported. With status 3 the device can't be had, a writer failed or memory was refused. The calls are the
-- same however it ends.
pub record DiffingEnds {D : Type 0} (g : Ghosts D) (from : ℕ) (to : Option ℕ) (as_update : Bool)
    (own : ZoneSettings) (e : Ended (DeviceCall D))
    : Type 0 where
  pub done : e.status ≡ 0
      → (change : Option Change) × HasDiff g e.calls own from to (Ok change)
      × Appends e.out e.out_after (diff_text as_update own change) × Keeps e.err e.err_after
  pub refused : e.status ≡ 1
      → (text : List ℕ) × IsNotDiffed g e.calls own from to e.explain text
      × Appends e.err e.err_after (line text) × Keeps e.out e.out_after
  pub others : e.status ≤ 1 ⊎ (e.status ≡ 3)
  pub called : IsDiffTried g e.calls from to own

-- How a run of `diff` ends. However it ends, nothing was done but to look into the device of the zone that is
-- named, if one was named.
abbrev pub DiffEnds : {D : Type 0} → Ghosts D → File → List ℕ → ℕ → Option ℕ → Bool → Ended (DeviceCall D)
    → Type 0
DiffEnds g config origin from to as_update e =
    EndsForNamed config origin (DiffingEnds g from to as_update) e
