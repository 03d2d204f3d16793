-- What the device of a configured zone keeps, and why it is not opened.
use Rattle.std.specs.Prelude.{◌≡◌, ◌⊎◌, ◌↔◌, ℕ, List, [], ◌∷◌, Ok, Err}
use Rattle.std.specs.String.{string_bytes}
use Rattle.dns_zone.specs.Zone.{Zone}
use Rattle.dns_sectors.specs.Device.{Content, LeavesOnly}
use Rattle.dns_sectors.specs.declared.device.Sectors.{Ghosts}
use Rattle.dns_sectors.specs.declared.file_device.OpenDeviceError.{OpenDeviceError}
use Rattle.dns_layout.specs.Sector.{sector_at}
use Rattle.dns_journal.specs.Reads.{HasRisen, OnlyReads}
use Rattle.dns_store.specs.declared.root.OpenError.{OpenError}
use Rattle.dns_store.specs.declared.root.OpenError.TheVariants as told
use Rattle.dns_store.specs.Damage.{NamesAltered, NamesSector, NamesWrong}
use Rattle.dns_store.specs.Opening.{AnswersAs, IsInRange, IsNotReopened, MayOpen, OpensAsPossible}
use Rattle.dns_store.specs.Opening.{StopsPossible, TakesPossible, store_device}
use Rattle.dns_store.specs.Opens.{fresh, opens, sizes_of}
use Rattle.dns_store.specs.Root.{OpenRefusal}
use Rattle.dns_store.specs.Versions.{Kept, Opened, OpensAsLeft, Shape, newest_after, opened_again}
use Rattle.dns_store.specs.declared.kept_store.KeptStore.{KeptStore}
use Rattle.dns_primary.specs.Open.{IsIntactAs, OfAltered, OfSpoilt}
use Rattle.dns_configuration.specs.declared.configuration.ZoneSettings.{ZoneSettings}
use Rattle.dns_configuration.specs.declared.files.File.{File}
use Rattle.dns_configuration.specs.Named.{IsNamed}
use Rattle.dns_devices.specs.declared.device_faults.DeviceFault.{DeviceFault}
use Rattle.dns_devices.specs.DeviceCalls as call
use Rattle.dns_devices.specs.DeviceCalls.{DeviceCall}
use Rattle.dns_devices.specs.DeviceFaults.{IsFaultOf, fault_of_device}

-- None was had for the zone's path, for this.
abbrev pub IsDeviceNotGiven : {D : Type 0} → List (DeviceCall D) → ZoneSettings → DeviceFault → Type 0
IsDeviceNotGiven calls own fault =
    (e : OpenDeviceError) × (calls ≡ call.Opened (string_bytes own.device) (Err e) ∷ [])
    × (fault ≡ fault_of_device e)

-- The device at the zone's path was opened, and closed as this.
abbrev pub IsOpenedAndClosed : {D : Type 0} → List (DeviceCall D) → ZoneSettings → D → D → Type 0
IsOpenedAndClosed calls own device after =
    let path = string_bytes own.device in
    calls ≡ call.Opened path (Ok device) ∷ call.Closed path after ∷ []

-- Each crash from now on leaves these versions.
abbrev pub LeavesKept : {D : Type 0} → Ghosts D → D → Kept → Type 0
LeavesKept g device k = (c : Content) → g.may_leave device c → OpensAsLeft opens k c

abbrev pub own_shape : ZoneSettings → Shape
own_shape own = record { apex = own.origin; snapshot = own.snapshot_sectors; journal = own.journal_sectors }

-- The store of the device that was opened at the path is this one, with its newest version: it keeps what a
-- crash might have left of the device, opened once more, whichever versions there were before the base. A
-- crash at any moment of it leaves what opens as one might have left it before. The device was intact, and
-- where some of its sectors were altered, the answer is that for the device before. The device is as honest
-- as it was.
pub record IsStoreOpened {D I : Type 0} {g : Ghosts D} (calls : List (DeviceCall D)) (own : ZoneSettings)
    (store : KeptStore D I g) (newest : Zone) : Type 0 where
  pub device : D
  pub came : calls ≡ call.Opened (string_bytes own.device) (Ok device) ∷ []
  pub apex : newest.apex ≡ own.origin
  pub intact : IsIntactAs g (own_shape own) device
  pub altered : OfAltered g (own_shape own) device (λ c o. AnswersAs (own_shape own) o store newest)
  pub taken : g.is_honest device
      → IsInRange own.snapshot_sectors own.journal_sectors
      → MayOpen g (own_shape own) device
      → TakesPossible (own_shape own) device store newest
  pub any_moment : g.is_honest device
      → IsInRange own.snapshot_sectors own.journal_sectors
      → LeavesOnly g.moment g.left_since device (store_device store)
      (OpensAsPossible g (own_shape own) device)
  pub honest : g.is_honest (store_device store) ↔ g.is_honest device
  pub quiet : g.failed (store_device store) ≡ g.failed device

-- The zone is the newest version of what a crash might have left of the device that was opened at the path,
-- whichever versions there were before the base; and the device was closed with the same versions, opened
-- once more. A crash at any moment between leaves what opens as one might have left it before. The device was
-- intact, and where some of its sectors were altered, the zone is the newest version of the device before.
pub record IsDumped {D : Type 0} (g : Ghosts D) (calls : List (DeviceCall D)) (own : ZoneSettings)
    (zone : Zone) : Type 0 where
  pub device : D
  pub after : D
  pub came : IsOpenedAndClosed calls own device after
  pub apex : zone.apex ≡ own.origin
  pub intact : IsIntactAs g (own_shape own) device
  pub altered : OfAltered g (own_shape own) device (λ c o.
      zone ≡ record { apex = own.origin; records = newest_after o.loaded o.versions })
  pub newest : g.is_honest device
      → IsInRange own.snapshot_sectors own.journal_sectors
      → MayOpen g (own_shape own) device
      → (c : Content) × g.may_leave device c
      × ((o : Opened) → opens (own_shape own) o c
      → (zone ≡ record { apex = own.origin; records = newest_after o.loaded o.versions })
      × LeavesKept g after (fresh (own_shape own) (opened_again o)))
  pub any_moment : g.is_honest device
      → IsInRange own.snapshot_sectors own.journal_sectors
      → LeavesOnly g.moment g.left_since device after (OpensAsPossible g (own_shape own) device)

-- Why the device shows none: if each crash leaves a store that opens, the device failed, memory was refused,
-- it was opened too often, or a sector in use was altered, and is named; else the reason is in what is stored
-- on it. A sector that is neither zeros nor its own is named where reading reaches it, and where some were
-- altered, one of them. It was only read, unless it failed, and closed; and a crash at any moment leaves what
-- opens as one might have left it before.
pub record CannotBeOpened {D : Type 0} (g : Ghosts D) (calls : List (DeviceCall D)) (own : ZoneSettings)
    (fault : DeviceFault) : Type 0 where
  pub device : D
  pub back : D
  pub after : D
  pub came : IsOpenedAndClosed calls own device after
  pub error : OpenError
  pub read_only : (error ≡ told.Device) ⊎ OnlyReads g device back
  pub asked : OnlyReads g back after
  pub named : IsFaultOf g error back after fault
  pub failed : error ≡ told.Device → HasRisen (g.failed device) (g.failed back)
  pub stopped : g.is_honest device
      → IsInRange own.snapshot_sectors own.journal_sectors
      → MayOpen g (own_shape own) device
      → StopsPossible g (own_shape own) device error
  pub refused : g.is_honest device
      → OpenRefusal (sizes_of (own_shape own)) (g.count device) (sector_at (g.seen device) 0) error
  pub damaged : g.is_honest device → NamesWrong (own_shape own) (g.seen device) error
  pub not_own : OfSpoilt g (own_shape own) device (λ position. NamesSector position error)
  pub altered : OfAltered g (own_shape own) device
      (λ c o. IsNotReopened o.openings error ⊎ NamesAltered c (g.seen device) error)
  pub any_moment : g.is_honest device
      → IsInRange own.snapshot_sectors own.journal_sectors
      → LeavesOnly g.moment g.left_since device back (OpensAsPossible g (own_shape own) device)

-- ... or none was had.
abbrev pub IsNotShown : {D : Type 0} → Ghosts D → List (DeviceCall D) → ZoneSettings → DeviceFault → Type 0
IsNotShown g calls own fault = IsDeviceNotGiven calls own fault ⊎ CannotBeOpened g calls own fault

-- The device of the zone was looked into, and showed a version or none.
abbrev pub IsLookedInto : {D : Type 0} → Ghosts D → List (DeviceCall D) → ZoneSettings → Type 0
IsLookedInto g calls own =
    ((zone : Zone) × IsDumped g calls own zone) ⊎ ((fault : DeviceFault) × IsNotShown g calls own fault)

-- No call was made, or those of the zone that is named.
abbrev pub AreCallsOf : {D : Type 0} → File → List ℕ → (ZoneSettings → Type 0) → List (DeviceCall D) → Type 0
AreCallsOf config origin P calls =
    (calls ≡ []) ⊎ ((own : ZoneSettings) × IsNamed config origin own × P own)
