-- How the records of a zone's master file become the next version of its store.
use Rattle.std.specs.Prelude.{◌≡◌, ◌⊎◌, ◌≤◌, ◌<◌, ◌+◌, ◌-◌, ℕ, true, false, List, [], length, Option}
use Rattle.std.specs.Prelude.{Some, None, Result, Ok, Err}
use Rattle.dns_records.specs.Record.{Record}
use Rattle.dns_zone.specs.Zone.{Zone, soas}
use Rattle.dns_serial.specs.Serial.{greater}
use Rattle.dns_changes.specs.Change.{Change, IsChange, only_in}
use Rattle.dns_changes.specs.Version.{serial_in}
use Rattle.dns_sectors.specs.Device.{Content, LeavesOnly}
use Rattle.dns_sectors.specs.declared.device.Sectors.{Ghosts}
use Rattle.dns_journal.specs.Reads.{HasRisen}
use Rattle.dns_store.specs.declared.zone_store.ZoneStore as store
use Rattle.dns_store.specs.Checkpoint.{IsKeptNumber}
use Rattle.dns_store.specs.Opening.{IsInRange, MayOpen, OpensAsPossible}
use Rattle.dns_store.specs.Opens.{fresh, opens}
use Rattle.dns_store.specs.Room.{entry_between, sectors_left}
use Rattle.dns_store.specs.Versions.{Kept, Opened, OpensAsLeft, Shape, made_durable, moved_to, newest_of}
use Rattle.dns_store.specs.Versions.{opened_again, staged_with}
use Rattle.dns_versions.specs.declared.zone_versions.ZoneVersions.{ZoneVersions}
use Rattle.dns_versions.specs.Held.{shown_zone}
use Rattle.dns_versions.specs.Staging.{HasPlanRoom, Plan, has_room}
use Rattle.dns_configuration.specs.declared.configuration.ZoneSettings.{ZoneSettings}
use Rattle.dns_devices.specs.declared.device_faults.DeviceFault.{DeviceFault}
use Rattle.dns_devices.specs.declared.device_faults.DeviceFault.TheVariants.{Device, NoRoom, OutOfMemory}
use Rattle.dns_devices.specs.declared.device_faults.DeviceFault.TheVariants.{SerialNotRaised}
use Rattle.dns_commands.specs.declared.next_version.Loaded.{Loaded}
use Rattle.dns_commands.specs.declared.next_version.Loaded.TheVariants.{Already, Next}
use Rattle.dns_devices.specs.DeviceCalls.{DeviceCall}
use Rattle.dns_devices.specs.Stores.{IsNotShown, IsOpenedAndClosed, LeavesKept, own_shape}

-- The serial of the file's records is greater than that of the version before (RFC 1982 3.2).
abbrev pub IsSerialRaised : List Record → List Record → Type 0
IsSerialRaised before records = greater (serial_in (soas records)) (serial_in (soas before)) ≡ true

abbrev pub IsSerialNotRaised : List Record → List Record → Type 0
IsSerialNotRaised before records = greater (serial_in (soas records)) (serial_in (soas before)) ≡ false

-- The change from a version to the records of the file: none exactly where it has these records, and else one
-- to a greater serial.
abbrev pub IsChangeTo : List Record → List Record → Result (Option Change) DeviceFault → Type 0
IsChangeTo before records (Ok None) = records ≡ before
IsChangeTo before records (Ok (Some change)) =
    (records ≡ before → ⊥) × IsSerialRaised before records × IsChange before records change
IsChangeTo before records (Err SerialNotRaised) =
    (records ≡ before → ⊥) × IsSerialNotRaised before records
IsChangeTo before records (Err OutOfMemory) = Unit {0}
IsChangeTo before records (Err _) = ⊥

-- No version is staged, and the device has not failed.
pub record IsAtRest (k : Kept) : Type 0 where
  pub none_staged : k.staged ≡ []
  pub not_closed : k.closed ≡ false

-- The versions of a store of these sizes, of which nothing is staged, and the newest one.
pub record IsLoadable (own : ZoneSettings) (newest : Zone) (k : Kept) : Type 0 where
  pub shape_is : k.shape ≡ own_shape own
  pub rests : IsAtRest k
  pub newest_is : newest ≡ shown_zone k

-- There is a plan for the version of these records if it has room after the newest one.
abbrev pub IsPlanTold : Kept → List Record → Result Plan DeviceFault → Type 0
IsPlanTold k records (Ok p) = HasPlanRoom k p
IsPlanTold k records (Err NoRoom) = has_room k records ≡ false
IsPlanTold k records (Err OutOfMemory) = Unit {0}
IsPlanTold k records (Err _) = ⊥

-- The base from which so many sectors are left of the journal: it stays where they are, and else is the
-- version shown less the newest changes that the zone keeps and that leave them.
abbrev pub IsBaseFor : ℕ → ℕ → Kept → ℕ → Type 0
IsBaseFor keep room k base =
    ((room ≤ sectors_left k) × (base ≡ k.base))
    ⊎ ((sectors_left k < room) × ((n : ℕ) × IsKeptNumber k keep room n × (base ≡ length k.shown - n)))

-- ... so that the entry of the version of these records has them.
abbrev pub IsBaseForRecords : ℕ → List Record → Kept → ℕ → Type 0
IsBaseForRecords keep records k base = IsBaseFor keep (entry_between (newest_of k) records) k base

-- A crash leaves the versions, from their base or from that one.
abbrev pub OpensAsMoved : (Shape → Opened → Content → Type 0) → ℕ → ℕ → Kept → Content → Type 0
OpensAsMoved opens keep room k c =
    OpensAsLeft opens k c
    ⊎ ((base : ℕ) × IsBaseFor keep room k base × OpensAsLeft opens (moved_to base k) c)

-- The sectors are left from the base that was moved for them; without memory nothing is moved, and else the
-- device failed. How often it has failed is known before and after.
abbrev pub IsRoomMade : (Kept → Type 0) → ℕ → ℕ → ℕ → ℕ → Kept → Result (Unit {0}) DeviceFault → Type 0
IsRoomMade keeps before after keep room k (Ok done) =
    (base : ℕ) × IsBaseFor keep room k base × keeps (moved_to base k)
    × (room ≤ sectors_left (moved_to base k))
IsRoomMade keeps before after keep room k (Err OutOfMemory) = keeps k
IsRoomMade keeps before after keep room k (Err Device) = HasRisen before after
IsRoomMade keeps before after keep room k (Err _) = ⊥

-- The version of these records is the newest and durable, and this is its number; without memory nothing is
-- staged, and else the device failed.
abbrev pub IsStored : (Kept → Type 0) → ℕ → ℕ → List Record → Kept → Result ℕ DeviceFault → Type 0
IsStored keeps before after records k (Ok version) =
    keeps (made_durable (staged_with records k)) × (version ≡ length k.shown + 1)
IsStored keeps before after records k (Err OutOfMemory) = keeps k
IsStored keeps before after records k (Err Device) = HasRisen before after
IsStored keeps before after records k (Err _) = ⊥

-- The versions from that base, and the next one, of these records.
abbrev pub with_next : ℕ → List Record → Kept → Kept
with_next base records k = made_durable (staged_with records (moved_to base k))

-- The records are kept as the next version, which is another one with a greater serial and has room. Its
-- number, its serial, and how many records came and how many went, SOAs aside, are these.
pub record IsNextKept (keeps : Kept → Type 0) (keep : ℕ) (records : List Record) (k : Kept)
    (version serial added removed : ℕ) : Type 0 where
  pub base : ℕ
  pub base_is : IsBaseForRecords keep records k base
  pub kept : keeps (with_next base records k)
  pub other : records ≡ newest_of k → ⊥
  pub raised : IsSerialRaised (newest_of k) records
  pub room : has_room k records ≡ true
  pub version_is : version ≡ length k.shown + 1
  pub serial_is : serial ≡ serial_in (soas records)
  pub added_is : added ≡ length (only_in records (newest_of k))
  pub removed_is : removed ≡ length (only_in (newest_of k) records)

-- What becomes of the versions: they are kept, with the next one, or as they were where the newest has these
-- records or they are refused. Without memory their base may have been moved. Else the device failed.
abbrev pub IsLoadedInto : (Kept → Type 0) → ℕ → ℕ → ℕ → List Record → Kept → Result Loaded DeviceFault
    → Type 0
IsLoadedInto keeps before after keep records k (Ok Already) = (records ≡ newest_of k) × keeps k
IsLoadedInto keeps before after keep records k (Ok (Next version serial added removed)) =
    IsNextKept keeps keep records k version serial added removed
IsLoadedInto keeps before after keep records k (Err SerialNotRaised) =
    (records ≡ newest_of k → ⊥) × IsSerialNotRaised (newest_of k) records × keeps k
IsLoadedInto keeps before after keep records k (Err NoRoom) =
    (records ≡ newest_of k → ⊥) × IsSerialRaised (newest_of k) records × (has_room k records ≡ false)
    × keeps k
IsLoadedInto keeps before after keep records k (Err OutOfMemory) =
    keeps k ⊎ ((base : ℕ) × IsBaseForRecords keep records k base × keeps (moved_to base k))
IsLoadedInto keeps before after keep records k (Err Device) = HasRisen before after
IsLoadedInto keeps before after keep records k (Err _) = ⊥

-- A crash leaves the versions as they were; or, if the records have a greater serial and room, from the base
-- for the next one, and perhaps with it.
abbrev pub OpensAsLoading : (Shape → Opened → Content → Type 0) → ℕ → List Record → Kept → Content → Type 0
OpensAsLoading opens keep records k c =
    OpensAsLeft opens k c
    ⊎ ((base : ℕ) × IsBaseForRecords keep records k base × IsSerialRaised (newest_of k) records
    × (has_room k records ≡ true)
    × OpensAsLeft opens (staged_with records (moved_to base k)) c)

-- As many sectors are left of the journal as the entry of a plan takes.
abbrev pub HasSectorsLeft : Kept → Plan → Type 0
HasSectorsLeft k p = entry_between (newest_of k) p.version.records ≤ sectors_left k

module _ {S : Type 0} (s : store.Ghosts S) where
  -- A store makes room in its journal for the entry of the version of these records,
  abbrev pub MakesRoom : S → S → ℕ → List Record → Kept → Result (Unit {0}) DeviceFault → Type 0
  MakesRoom old new keep records k result =
      IsRoomMade (s.keeps new) (s.failed old) (s.failed new) keep (entry_between (newest_of k) records) k
      result

  -- and this is what a crash meanwhile leaves.
  abbrev pub LeavesMakingRoom : S → S → ℕ → List Record → Kept → Type 0
  LeavesMakingRoom old new keep records k =
      LeavesOnly s.moment s.left_since old new
      (OpensAsMoved s.opens keep (entry_between (newest_of k) records) k)

  -- The version of a plan becomes the newest of a zone, and durable,
  abbrev pub StoresPlan : {I : Type 0} → ZoneVersions I S → ZoneVersions I S → Plan → Kept
      → Result ℕ DeviceFault → Type 0
  StoresPlan old new p k result =
      IsStored (s.keeps new.store) (s.failed old.store) (s.failed new.store) p.version.records k result

  -- and this is what a crash meanwhile leaves.
  abbrev pub LeavesStoringPlan : {I : Type 0} → ZoneVersions I S → ZoneVersions I S → Plan → Kept → Type 0
  LeavesStoringPlan old new p k =
      LeavesOnly s.moment s.left_since old.store new.store
      (OpensAsLeft s.opens (staged_with p.version.records k))

  -- A store loads these records as its next version,
  abbrev pub LoadsRecords : S → S → ℕ → List Record → Kept → Result Loaded DeviceFault → Type 0
  LoadsRecords old new keep records k result =
      IsLoadedInto (s.keeps new) (s.failed old) (s.failed new) keep records k result

  -- and this is what a crash meanwhile leaves.
  abbrev pub LeavesLoadingRecords : S → S → ℕ → List Record → Kept → Type 0
  LeavesLoadingRecords old new keep records k =
      LeavesOnly s.moment s.left_since old new (OpensAsLoading s.opens keep records k)

-- A crash leaves what opens as a content does that one might have left of the device before, opened as often
-- or once more; or these versions, opened once more, as loading the records leaves them.
abbrev pub LoadsAsPossible : {D : Type 0} → Ghosts D → ZoneSettings → List Record → D → Opened → Content
    → Type 0
LoadsAsPossible g own records device o c =
    OpensAsPossible g (own_shape own) device c
    ⊎ OpensAsLoading opens own.keep records (fresh (own_shape own) (opened_again o)) c

-- A device that opened as these versions is after it, by this result, one that opens as they are with the
-- records loaded; and a crash at any moment left what was possible before, or that.
pub record IsLoadedOn {D : Type 0} (g : Ghosts D) (own : ZoneSettings) (records : List Record)
    (device after : D) (result : Result Loaded DeviceFault) (o : Opened) : Type 0 where
  pub becomes : IsLoadedInto (LeavesKept g after) (g.failed device) (g.failed after) own.keep records
      (fresh (own_shape own) (opened_again o)) result
  pub any_moment : LeavesOnly g.moment g.left_since device after (LoadsAsPossible g own records device o)

-- The device that was opened at the path was one that a crash might have left as some content, the records
-- were loaded into what that opens as, with this result, whichever versions there were before its base, and
-- it was closed.
pub record IsLoading {D : Type 0} (g : Ghosts D) (calls : List (DeviceCall D)) (own : ZoneSettings)
    (records : List Record) (result : Result Loaded DeviceFault) : Type 0 where
  pub device : D
  pub after : D
  pub came : IsOpenedAndClosed calls own device after
  pub loaded : g.is_honest device
      → IsInRange own.snapshot_sectors own.journal_sectors
      → MayOpen g (own_shape own) device
      → (d : Content) × g.may_leave device d
      × ((o : Opened) → opens (own_shape own) o d → IsLoadedOn g own records device after result o)

-- They were loaded, with this answer.
abbrev pub IsLoadedAs : {D : Type 0} → Ghosts D → List (DeviceCall D) → ZoneSettings → List Record → Loaded
    → Type 0
IsLoadedAs g calls own records answer = IsLoading g calls own records (Ok answer)

-- Why they were not: the device was not had, its store was not opened, or they were refused.
abbrev pub IsNotLoaded : {D : Type 0} → Ghosts D → List (DeviceCall D) → ZoneSettings → List Record
    → DeviceFault → Type 0
IsNotLoaded g calls own records fault =
    IsNotShown g calls own fault ⊎ IsLoading g calls own records (Err fault)

-- They were, or they were not.
abbrev pub IsLoadTried : {D : Type 0} → Ghosts D → List (DeviceCall D) → ZoneSettings → List Record → Type 0
IsLoadTried g calls own records =
    ((result : Result Loaded DeviceFault) × IsLoading g calls own records result)
    ⊎ ((fault : DeviceFault) × IsNotShown g calls own fault)
