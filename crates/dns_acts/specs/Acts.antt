-- What the commands leave of a zone's store, as an act of a life.
use Rattle.std.specs.Prelude.{◌≡◌, ◌⊎◌, ℕ, List, [], Result, Ok, Err}
use Rattle.dns_records.specs.Record.{Record}
use Rattle.dns_zone.specs.Zone.{IsZone}
use Rattle.dns_sectors.specs.Device.{Content}
use Rattle.dns_sectors.specs.declared.device.Sectors.{Ghosts}
use Rattle.dns_store.specs.Versions.{Opened, opened_again}
use Rattle.dns_store.specs.Opens.{fresh, opens}
use Rattle.dns_store.specs.Opening.{OpensAsPossible}
use Rattle.dns_store.specs.Migrating.{IsMigrated, MigratesAsPossible, TakesMigrated, old_opens}
use Rattle.dns_store.specs.Migrating.{opens_migrated}
use Rattle.dns_store.specs.declared.migrating.Migration.{Migration}
use Rattle.dns_primary.specs.Machine.{ZoneState}
use Rattle.dns_configuration.specs.declared.configuration.ZoneSettings.{ZoneSettings}
use Rattle.dns_devices.specs.declared.device_faults.DeviceFault.{DeviceFault}
use Rattle.dns_devices.specs.declared.device_faults.DeviceFault.TheVariants.{NoRoom, OutOfMemory}
use Rattle.dns_devices.specs.declared.device_faults.DeviceFault.TheVariants.{SerialNotRaised}
use Rattle.dns_devices.specs.Stores.{LeavesKept, own_shape}
use Rattle.dns_commands.specs.declared.next_version.Loaded.{Loaded}
use Rattle.dns_commands.specs.declared.next_version.Loaded.TheVariants.{Already, Next}
use Rattle.dns_commands.specs.Load.{IsLoadedOn, OpensAsLoading}
use Rattle.dns_theorem.specs.Lives.{HasLoaded, IsReopenedAs, IsOpenedWith}

-- The content is a store's of these settings that opens as these versions, and the zone is as it is opened
-- then.
pub record IsStoredAs (own : ZoneSettings) (z : ZoneState) (o : Opened) (c : Content) : Type 0 where
  pub shape : z.setting.shape ≡ own_shape own
  pub holds : opens (own_shape own) o c
  pub opened : IsReopenedAs z o

-- The content is of format 1, `migrate` makes these versions of it, with the base that is chosen, and the
-- zone is as a store is opened that holds what it holds.
pub record IsStoredOld (own : ZoneSettings) (z : ZoneState) (o : Opened) (c : Content) : Type 0 where
  pub shape : z.setting.shape ≡ own_shape own
  pub before : Opened
  pub holds : old_opens (own_shape own) before c
  pub becomes : IsMigrated (own_shape own) before o
  pub opened : IsReopenedAs z before

-- The content is such a store, in one of the formats, and in format 2 with no sector altered.
abbrev pub IsStoredEither : ZoneSettings → ZoneState → Opened → Content → Type 0
IsStoredEither own z o c = (IsStoredAs own z o c × (o.altered ≡ [])) ⊎ IsStoredOld own z o c

-- By these rules the content opens as some versions, and the zone that is opened of them has become so.
abbrev pub OpensAsZone : (Opened → Content → Type 0) → (ZoneState → Type 0) → Content → Type 0
OpensAsZone rules becomes c =
    (o : Opened) × rules o c × (w : ZoneState) × becomes w × IsReopenedAs w o

-- Each crash from now on leaves what opens as a zone that has become so.
abbrev pub LeavesZone : {D : Type 0} → Ghosts D → D → ZoneSettings → (ZoneState → Type 0) → Type 0
LeavesZone g device own becomes =
    (c : Content) → g.may_leave device c → OpensAsZone (opens (own_shape own)) becomes c

-- After a load of a valid zone of that name that is answered with the next version, its records are loaded
-- into the zone.
abbrev pub LeavesLoaded : {D : Type 0} → Ghosts D → ZoneSettings → ZoneState → Opened → Type 0
LeavesLoaded {D} g own z o =
    (records : List Record) (device after : D) (version serial added removed : ℕ)
    → IsZone (record { apex = own.origin; records = records })
    → IsLoadedOn g own records device after (Ok (Next version serial added removed)) o
    → LeavesZone g after own (HasLoaded records z)

-- At any moment of a load of a valid zone of that name, however it is cut off, its records are loaded into
-- the zone, or this is opened with the same versions.
abbrev pub LeavesLoading : ZoneSettings → ZoneState → Opened → Type 0
LeavesLoading own z o =
    (records : List Record) (c : Content)
    → IsZone (record { apex = own.origin; records = records })
    → OpensAsLoading opens own.keep records (fresh (own_shape own) (opened_again o)) c
    → OpensAsZone (opens (own_shape own)) (λ w. HasLoaded records z w ⊎ IsOpenedWith [] z w) c

-- The load made no version: the newest one has these records, they were refused, or memory was refused.
abbrev pub IsUnloaded : Result Loaded DeviceFault → Type 0
IsUnloaded (Ok Already) = Unit {0}
IsUnloaded (Ok (Next version serial added removed)) = ⊥
IsUnloaded (Err SerialNotRaised) = Unit {0}
IsUnloaded (Err NoRoom) = Unit {0}
IsUnloaded (Err OutOfMemory) = Unit {0}
IsUnloaded (Err _) = ⊥

-- After a load that made none, the zone is opened with the same versions.
abbrev pub LeavesUnloaded : {D : Type 0} → Ghosts D → ZoneSettings → ZoneState → Opened → Type 0
LeavesUnloaded {D} g own z o =
    (records : List Record) (device after : D) (result : Result Loaded DeviceFault) → IsUnloaded result
    → IsLoadedOn g own records device after result o → LeavesZone g after own (IsOpenedWith [] z)

-- So it is after a dump, which leaves the versions as they were, opened once more.
abbrev pub LeavesDumped : {D : Type 0} → Ghosts D → ZoneSettings → ZoneState → Opened → Type 0
LeavesDumped {D} g own z o =
    (after : D) → LeavesKept g after (fresh (own_shape own) (opened_again o))
    → LeavesZone g after own (IsOpenedWith [] z)

-- So it is of what opens as a content does that a crash might have left of the device before, opened as often
-- or once more: at any moment of a dump, and of a load until its store is opened.
abbrev pub LeavesOpening : {D : Type 0} → Ghosts D → ZoneSettings → Type 0
LeavesOpening {D} g own =
    (device : D) (c : Content) → OpensAsPossible g (own_shape own) device c
    → (d : Content) × g.may_leave device d
    × ((z : ZoneState) (o : Opened) → IsStoredAs own z o d
    → OpensAsZone (opens (own_shape own)) (IsOpenedWith [] z) c)

-- So it is after the store was migrated that a crash might have left of the device before, in one of the
-- formats, and in format 2 with no sector altered.
abbrev pub LeavesMigrated : {D : Type 0} → Ghosts D → ZoneSettings → Type 0
LeavesMigrated {D} g own =
    (device after : D) (answer : Migration) → TakesMigrated g (own_shape own) device after answer
    → (d : Content) × g.may_leave device d
    × ((z : ZoneState) (o : Opened) → IsStoredEither own z o d
    → LeavesZone g after own (IsOpenedWith [] z))

-- So it is at any moment of that, where `migrate` and then `open` open what is left.
abbrev pub LeavesMigrating : {D : Type 0} → Ghosts D → ZoneSettings → Type 0
LeavesMigrating {D} g own =
    (device : D) (c : Content) → MigratesAsPossible g (own_shape own) device c
    → (d : Content) × g.may_leave device d
    × ((z : ZoneState) (o : Opened) → IsStoredEither own z o d
    → OpensAsZone (opens_migrated (own_shape own)) (IsOpenedWith [] z) c)
