-- How the devices of zones are migrated to sector format 2, and how a run that migrates them ends.
use Rattle.std.specs.Prelude.{◌≡◌, ◌⊎◌, ◌↔◌, ◌≤◌, ◌<◌, ℕ, Bool, List, [], ◌∷◌, ◌++◌, take}
use Rattle.std.specs.Prelude.{Ok, Err, codes, decimal}
use Rattle.std.specs.Option.{option_copied}
use Rattle.std.specs.String.{string_bytes}
use Rattle.std.specs.Io.KnownBytes.{Appends, Keeps}
use Rattle.dns_names.specs.Text.{printed_name}
use Rattle.dns_sectors.specs.Device.{LeavesOnly}
use Rattle.dns_sectors.specs.declared.device.Sectors.{Ghosts}
use Rattle.dns_layout.specs.Sector.{root_tag, sector_at, tag}
use Rattle.dns_layout.specs.declared.format.Format.TheVariants.{One}
use Rattle.dns_journal.specs.Reads.{HasRisen, OnlyReads}
use Rattle.dns_store.specs.declared.migrating.MigrateError.{MigrateError}
use Rattle.dns_store.specs.declared.migrating.MigrateError.TheVariants as told
use Rattle.dns_store.specs.declared.migrating.Migration.{Migration}
use Rattle.dns_store.specs.declared.migrating.Migration.TheVariants.{Already, Migrated}
use Rattle.dns_store.specs.Plain.{sectors_of_snapshot}
use Rattle.dns_store.specs.Migrating.{MayMigrate, MigrateRefusal, StopsMigrating, MigratesAsPossible}
use Rattle.dns_store.specs.Migrating.{TakesMigrated, old_opens}
use Rattle.dns_store.specs.Opening.{HasRootIn, IsInRange}
use Rattle.dns_store.specs.Opens.{sizes_of}
use Rattle.dns_store.specs.Versions.{Opened, newest_after}
use Rattle.dns_configuration.specs.declared.configuration.ZoneSettings.{ZoneSettings}
use Rattle.dns_configuration.specs.declared.configuration.Configuration.{Configuration}
use Rattle.dns_configuration.specs.declared.files.File.{File}
use Rattle.dns_configuration.specs.declared.files.Fault.{Fault}
use Rattle.dns_configuration.specs.Faults.{fault_text, line}
use Rattle.dns_configuration.specs.Files.{HoldsConfiguration}
use Rattle.dns_devices.specs.declared.device_faults.DeviceFault.{DeviceFault}
use Rattle.dns_devices.specs.DeviceFaults.{device_text, fault_of_migrate, status_of}
use Rattle.dns_devices.specs.DeviceCalls.{DeviceCall}
use Rattle.dns_commands.specs.Frame.{Ended}
use Rattle.dns_devices.specs.Stores.{IsDeviceNotGiven, IsOpenedAndClosed, own_shape}

-- A crash at any moment of it leaves what `migrate` and then `open` open as a crash might have left the
-- device before.
abbrev pub StaysMigratable : {D : Type 0} → Ghosts D → ZoneSettings → D → D → Type 0
StaysMigratable g own device after =
    g.is_honest device → IsInRange own.snapshot_sectors own.journal_sectors
    → LeavesOnly g.moment g.left_since device after (MigratesAsPossible g (own_shape own) device)

-- The device that was opened at the path was migrated and closed, with this answer: from then on each crash
-- leaves what `open` alone opens, as a crash might have left the device before, and the answer is of that. It
-- was opened once more; its first sector was a root of format 1 of that zone and these sizes, and its newest
-- version has room. One that is answered as of format 2 already was only read, and each that has such a root
-- is answered so. No call on the device failed.
pub record IsMigratedAs {D : Type 0} (g : Ghosts D) (calls : List (DeviceCall D)) (own : ZoneSettings)
    (answer : Migration) : Type 0 where
  pub device : D
  pub after : D
  pub came : IsOpenedAndClosed calls own device after
  pub honest : g.is_honest after ↔ g.is_honest device
  pub takes : g.is_honest device
      → IsInRange own.snapshot_sectors own.journal_sectors
      → MayMigrate g (own_shape own) device
      → TakesMigrated g (own_shape own) device after answer
  pub any_moment : StaysMigratable g own device after
  pub fits : g.is_honest device
      → (o : Opened) → old_opens (own_shape own) o (g.seen device)
      → IsInRange own.snapshot_sectors own.journal_sectors
      → own.snapshot_sectors < sectors_of_snapshot (newest_after o.loaded o.versions) → ⊥
  pub root : g.is_honest device → (answer ≡ Already → ⊥)
      → HasRootIn One (sizes_of (own_shape own)) (g.count device) (sector_at (g.seen device) 0)
  pub already : g.is_honest device → answer ≡ Already → tag (sector_at (g.seen device) 0) ≡ root_tag
  pub old : g.is_honest device → 0 < g.count device → tag (sector_at (g.seen device) 0) ≡ root_tag
      → answer ≡ Already
  pub read_only : answer ≡ Already → OnlyReads g device after
  pub quiet : g.failed after ≡ g.failed device
  pub count : g.count after ≡ g.count device

-- Why the device was not migrated: where each crash leaves a store with room in format 2, the device failed,
-- memory was refused, or it was opened too often; else the reason is in what is stored on it, and `Damaged`
-- names the sector that is wrong by the rules of format 1. It was only read, unless it failed; and only read
-- if its newest version takes more sectors than a snapshot has. One with a root of format 2 is refused for
-- its failure alone. (No sector of format 1 has a digest: of those that reading finds right none can be told
-- from one that was altered.)
pub record IsMigrationRefused {D : Type 0} (g : Ghosts D) (calls : List (DeviceCall D)) (own : ZoneSettings)
    (fault : DeviceFault) : Type 0 where
  pub device : D
  pub after : D
  pub came : IsOpenedAndClosed calls own device after
  pub honest : g.is_honest after ↔ g.is_honest device
  pub error : MigrateError
  pub named : fault ≡ fault_of_migrate error
  pub stopped : g.is_honest device
      → IsInRange own.snapshot_sectors own.journal_sectors
      → MayMigrate g (own_shape own) device
      → StopsMigrating g (own_shape own) device error
  pub refused : g.is_honest device → MigrateRefusal (own_shape own) (g.count device) (g.seen device) error
  pub too_large : g.is_honest device
      → (o : Opened) → old_opens (own_shape own) o (g.seen device)
      → IsInRange own.snapshot_sectors own.journal_sectors
      → error ≡ told.ZoneTooLarge
      → own.snapshot_sectors < sectors_of_snapshot (newest_after o.loaded o.versions)
  pub no_room : g.is_honest device
      → (o : Opened) → old_opens (own_shape own) o (g.seen device)
      → IsInRange own.snapshot_sectors own.journal_sectors
      → own.snapshot_sectors < sectors_of_snapshot (newest_after o.loaded o.versions)
      → OnlyReads g device after
  pub any_moment : StaysMigratable g own device after
  pub old : g.is_honest device → 0 < g.count device → tag (sector_at (g.seen device) 0) ≡ root_tag
      → error ≡ told.Device
  pub read_only : (error ≡ told.Device) ⊎ OnlyReads g device after
  pub failed : error ≡ told.Device → HasRisen (g.failed device) (g.failed after)
  pub grows : g.failed device ≤ g.failed after
  pub count : g.count after ≡ g.count device

-- ... or none was had.
abbrev pub IsNotMigrated : {D : Type 0} → Ghosts D → List (DeviceCall D) → ZoneSettings → DeviceFault → Type 0
IsNotMigrated g calls own fault = IsDeviceNotGiven calls own fault ⊎ IsMigrationRefused g calls own fault

-- What is printed of a zone: the number and the serial of the newest version that its device keeps; or that
-- it was of format 2.
abbrev pub migrated_text : List ℕ → Migration → List ℕ
migrated_text origin (Migrated version serial) =
    codes "migrated " ++ origin ++ codes " version " ++ decimal version ++ codes " serial " ++ decimal serial
migrated_text origin Already = origin ++ codes " already"

abbrev pub migrated : ZoneSettings → Migration → List ℕ
migrated own answer = line (migrated_text (printed_name own.origin) answer)

-- The devices of zones were migrated, one after another, and this was printed of them.
abbrev pub AreMigrated : {D : Type 0} → Ghosts D → List (DeviceCall D) → List ZoneSettings → List ℕ → Type 0
AreMigrated g calls [] printed = (printed ≡ []) × (calls ≡ [])
AreMigrated {D} g calls (own ∷ settings) printed =
    (answer : Migration) × (rest : List ℕ) × (printed ≡ migrated own answer ++ rest)
    × (first : List (DeviceCall D)) × (others : List (DeviceCall D)) × (calls ≡ first ++ others)
    × IsMigratedAs g first own answer × AreMigrated g others settings rest

-- The devices of the first zones were migrated, and that of the next one was not, for this: its path, and
-- what was printed of those before it. Of the later ones none was opened.
abbrev pub MigratingStopsAt : {D : Type 0} → Ghosts D → List (DeviceCall D) → List ZoneSettings → List ℕ
    → DeviceFault → List ℕ → Type 0
MigratingStopsAt g calls [] path fault printed = ⊥
MigratingStopsAt {D} g calls (own ∷ settings) path fault printed =
    ((path ≡ string_bytes own.device) × IsNotMigrated g calls own fault × (printed ≡ []))
    ⊎ ((answer : Migration) × (rest : List ℕ) × (printed ≡ migrated own answer ++ rest)
    × (first : List (DeviceCall D)) × (others : List (DeviceCall D)) × (calls ≡ first ++ others)
    × IsMigratedAs g first own answer × MigratingStopsAt g others settings path fault rest)

-- The devices of the first zones were migrated, and at most one more was tried.
abbrev pub IsMigrationTried : {D : Type 0} → Ghosts D → List (DeviceCall D) → List ZoneSettings → Type 0
IsMigrationTried g calls settings =
    ((n : ℕ) × (printed : List ℕ) × AreMigrated g calls (take n settings) printed)
    ⊎ ((path : List ℕ) × (fault : DeviceFault) × (printed : List ℕ)
    × MigratingStopsAt g calls settings path fault printed)

-- How the migrating of all devices ends. With status 3 a device can't be had, a writer failed or memory was
-- refused.
pub record MigratingEnds {D : Type 0} (g : Ghosts D) (settings : List ZoneSettings) (e : Ended (DeviceCall D))
    : Type 0 where
  pub done : e.status ≡ 0
      → (printed : List ℕ) × AreMigrated g e.calls settings printed × Appends e.out e.out_after printed
      × Keeps e.err e.err_after
  pub refused : e.status ≡ 1
      → (path : List ℕ) × (fault : DeviceFault) × (printed : List ℕ)
      × MigratingStopsAt g e.calls settings path fault printed
      × (status_of fault ≡ 1) × Appends e.out e.out_after printed
      × Appends e.err e.err_after (line (device_text path fault e.explain))
  pub others : e.status ≤ 1 ⊎ (e.status ≡ 3)
  pub called : IsMigrationTried g e.calls settings

-- How a run of `migrate` is refused: the fault of the configuration is reported, and nothing was printed or
-- migrated; or else devices were migrated, up to one that was not.
abbrev pub IsMigrateRefused : {D : Type 0} → Ghosts D → List (DeviceCall D) → File → List ℕ → List ℕ → Bool
    → Type 0
IsMigrateRefused g calls config printed text explain =
    ((fault : Fault) × HoldsConfiguration (option_copied config.octets) (Err fault) × (printed ≡ [])
    × (text ≡ fault_text config.path.now fault))
    ⊎ ((c : Configuration) × HoldsConfiguration (option_copied config.octets) (Ok c)
    × (path : List ℕ) × (fault : DeviceFault) × (text ≡ device_text path fault explain)
    × (status_of fault ≡ 1) × MigratingStopsAt g calls c.zones.items path fault printed)

-- How a run of `migrate` ends. With status 3 a device can't be had, a writer failed or memory was refused.
-- However it ends, nothing was done but to migrate the devices of zones in their order, each closed before
-- the next one is opened.
pub record MigrateEnds {D : Type 0} (g : Ghosts D) (config : File) (e : Ended (DeviceCall D)) : Type 0 where
  pub done : e.status ≡ 0
      → (c : Configuration) × HoldsConfiguration (option_copied config.octets) (Ok c)
      × ((printed : List ℕ) × AreMigrated g e.calls c.zones.items printed × Appends e.out e.out_after printed
      × Keeps e.err e.err_after)
  pub refused : e.status ≡ 1
      → (printed : List ℕ) × (text : List ℕ) × IsMigrateRefused g e.calls config printed text e.explain
      × Appends e.out e.out_after printed × Appends e.err e.err_after (line text)
  pub others : e.status ≤ 1 ⊎ (e.status ≡ 3)
  pub called : (e.calls ≡ [])
      ⊎ ((c : Configuration) × HoldsConfiguration (option_copied config.octets) (Ok c)
      × IsMigrationTried g e.calls c.zones.items)
