-- What loading a zone's master file would change.
use Rattle.std.specs.Prelude.{◌≡◌, ◌⊎◌, ◌≤◌, ℕ, Bool, true, false, List, [], ◌∷◌, ◌++◌, flat_map, Option}
use Rattle.std.specs.Prelude.{Some, None}
use Rattle.std.specs.Prelude.{Result, Ok, Err, codes}
use Rattle.std.specs.String.{string_bytes}
use Rattle.std.specs.Io.KnownBytes.{Appends, Keeps}
use Rattle.dns_names.specs.Text.{printed_name}
use Rattle.dns_records.specs.Record.{Record}
use Rattle.dns_zone.specs.Zone.{Zone}
use Rattle.dns_changes.specs.Change.{Change}
use Rattle.dns_masterfile.specs.Printed.{printed_record}
use Rattle.dns_sectors.specs.Device.{Content, LeavesOnly}
use Rattle.dns_sectors.specs.declared.device.Sectors.{Ghosts}
use Rattle.dns_store.specs.Opening.{IsInRange, MayOpen, OpensAsPossible}
use Rattle.dns_store.specs.Opens.{fresh, opens}
use Rattle.dns_store.specs.Versions.{Kept, Opened, newest_after, opened_again}
use Rattle.dns_versions.specs.Staging.{has_room}
use Rattle.dns_configuration.specs.declared.configuration.ZoneSettings.{ZoneSettings}
use Rattle.dns_configuration.specs.declared.files.File.{File}
use Rattle.dns_configuration.specs.declared.files.Fault.{Fault}
use Rattle.dns_configuration.specs.Faults.{fault_text, line}
use Rattle.dns_configuration.specs.Files.{IsLoadedFrom, loaded_by}
use Rattle.dns_devices.specs.declared.device_faults.DeviceFault.{DeviceFault}
use Rattle.dns_devices.specs.declared.device_faults.DeviceFault.TheVariants.{NoRoom}
use Rattle.dns_devices.specs.DeviceFaults.{device_text, status_of}
use Rattle.dns_devices.specs.DeviceCalls.{DeviceCall}
use Rattle.dns_devices.specs.Stores.{IsNotShown, IsOpenedAndClosed, LeavesKept, own_shape}
use Rattle.dns_commands.specs.Frame.{Ended, EndsForNamed}
use Rattle.dns_commands.specs.Load.{IsChangeTo}
use Rattle.dns_commands.specs.LoadRun.{path_blamed}

-- A line for each record, as in a master file, after a sign and a blank.
abbrev pub signed_lines : List ℕ → List Record → List ℕ
signed_lines sign records = flat_map (λ r. sign ++ 32 ∷ printed_record r) records

-- What goes, and then what comes, each with its SOA first.
abbrev pub change_lines : Change → List ℕ
change_lines change =
    signed_lines (codes "-") (change.old_soa ∷ change.removed)
    ++ signed_lines (codes "+") (change.new_soa ∷ change.added)

-- ... or that the records are those of the newest version.
abbrev pub difference_text : ZoneSettings → Option Change → List ℕ
difference_text own None = line (printed_name own.origin ++ codes " already")
difference_text own (Some change) = change_lines change

-- The change from a version to the records of the file, or that there is one which has no room.
abbrev pub IsChangeWithin : List Record → List Record → Result (Option Change) DeviceFault → Type 0
IsChangeWithin before records (Err NoRoom) = (change : Change) × IsChangeTo before records (Ok (Some change))
IsChangeWithin before records result = IsChangeTo before records result

-- A change is one that has room after these versions, and `NoRoom` one that has none.
abbrev pub IsWithinRoom : Kept → List Record → Result (Option Change) DeviceFault → Type 0
IsWithinRoom k records (Ok (Some change)) = has_room k records ≡ true
IsWithinRoom k records (Err NoRoom) = has_room k records ≡ false
IsWithinRoom k records _ = Unit {0}

-- The records were compared, with this result, with the newest version of what a crash might have left of the
-- device that was opened at the path, whichever versions there were before the base; and the device was
-- closed with the same versions, opened once more. A crash at any moment between leaves what opens as one
-- might have left it before.
pub record IsCompared {D : Type 0} (g : Ghosts D) (calls : List (DeviceCall D)) (own : ZoneSettings)
    (records : List Record) (result : Result (Option Change) DeviceFault) : Type 0 where
  pub device : D
  pub after : D
  pub came : IsOpenedAndClosed calls own device after
  pub newest : Zone
  pub apex : newest.apex ≡ own.origin
  pub change_is : IsChangeWithin newest.records records result
  pub compared : g.is_honest device
      → IsInRange own.snapshot_sectors own.journal_sectors
      → MayOpen g (own_shape own) device
      → (c : Content) × g.may_leave device c
      × ((o : Opened) → opens (own_shape own) o c
      → (newest ≡ record { apex = own.origin; records = newest_after o.loaded o.versions })
      × IsWithinRoom (fresh (own_shape own) o) records result
      × LeavesKept g after (fresh (own_shape own) (opened_again o)))
  pub any_moment : g.is_honest device
      → IsInRange own.snapshot_sectors own.journal_sectors
      → LeavesOnly g.moment g.left_since device after (OpensAsPossible g (own_shape own) device)

-- The change from the newest version that the device keeps to these records.
abbrev pub IsDifference : {D : Type 0} → Ghosts D → List (DeviceCall D) → ZoneSettings → List Record
    → Option Change → Type 0
IsDifference g calls own records change = IsCompared g calls own records (Ok change)

-- Why there is none: the device shows no zone, or the change is refused.
abbrev pub HasNoDifference : {D : Type 0} → Ghosts D → List (DeviceCall D) → ZoneSettings → List Record
    → DeviceFault → Type 0
HasNoDifference g calls own records fault =
    IsNotShown g calls own fault ⊎ IsCompared g calls own records (Err fault)

-- The records were compared with what the device keeps, or it shows no version.
abbrev pub IsComparisonTried : {D : Type 0} → Ghosts D → List (DeviceCall D) → ZoneSettings → List Record
    → Type 0
IsComparisonTried g calls own records =
    ((result : Result (Option Change) DeviceFault) × IsCompared g calls own records result)
    ⊎ ((fault : DeviceFault) × IsNotShown g calls own fault)

-- The calls of a comparison: none, or those of one with the records of the zone's master file.
abbrev pub IsFileTried : {D : Type 0} → Ghosts D → List (DeviceCall D) → List File → ZoneSettings → Type 0
IsFileTried g calls files own =
    (calls ≡ []) ⊎ ((zone : Zone) × IsLoadedFrom files own zone × IsComparisonTried g calls own zone.records)

-- The zone's master file holds these records, and this is the change to them.
pub record IsFileCompared {D : Type 0} (g : Ghosts D) (calls : List (DeviceCall D)) (own : ZoneSettings)
    (files : List File) (change : Option Change) : Type 0 where
  pub zone : Zone
  pub read : IsLoadedFrom files own zone
  pub differs : IsDifference g calls own zone.records change

-- Why a zone's master file was not compared, and the text that says so.
abbrev pub IsFileNotCompared : {D : Type 0} → Ghosts D → List (DeviceCall D) → ZoneSettings → List File → Bool
    → List ℕ → Type 0
IsFileNotCompared g calls own files explain text =
    ((fault : Fault) × (loaded_by files own ≡ Err fault) × (text ≡ fault_text (string_bytes own.file) fault))
    ⊎ ((zone : Zone) × (fault : DeviceFault) × IsLoadedFrom files own zone
    × HasNoDifference g calls own zone.records fault × (status_of fault ≡ 1)
    × (text ≡ device_text (path_blamed own fault) fault explain))

-- How the comparison of a zone's master file ends. With status 3 the device can't be had, a writer failed or
-- memory was refused.
pub record ComparingEnds {D : Type 0} (g : Ghosts D) (files : List File) (own : ZoneSettings)
    (e : Ended (DeviceCall D))
    : Type 0 where
  pub done : e.status ≡ 0
      → (change : Option Change) × IsFileCompared g e.calls own files change
      × Appends e.out e.out_after (difference_text own change) × Keeps e.err e.err_after
  pub refused : e.status ≡ 1
      → (text : List ℕ) × IsFileNotCompared g e.calls own files e.explain text
      × Appends e.err e.err_after (line text) × Keeps e.out e.out_after
  pub others : e.status ≤ 1 ⊎ (e.status ≡ 3)
  pub called : IsFileTried g e.calls files own

-- How a run of `load --dry-run` ends. However it ends, nothing was done but to look into the device of the
-- zone that is named.
abbrev pub ComparisonEnds : {D : Type 0} → Ghosts D → File → List File → List ℕ → Ended (DeviceCall D)
    → Type 0
ComparisonEnds g config files origin e = EndsForNamed config origin (ComparingEnds g files) e
