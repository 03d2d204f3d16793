-- What migrating makes of a store of format 1, and what a stop at any moment of it leaves.
use Rattle.std.specs.Prelude.{◌≡◌, ◌⊎◌, ◌≤◌, ◌<◌, ◌+◌, ◌^◌, ℕ, List, [], ◌∷◌, length, drop, Result, Ok, Err}
use Rattle.std.specs.Prelude.{MatchResult}
use Rattle.dns_records.specs.Record.{Record, serial_of}
use Rattle.dns_zone.specs.Zone.{Zone, soas}
use Rattle.dns_changes.specs.Change.{Change}
use Rattle.dns_sectors.specs.Device.{Content}
use Rattle.dns_sectors.specs.declared.device.Sectors.{Ghosts}
use Rattle.dns_layout.specs.Sector.{sector_at}
use Rattle.dns_layout.specs.Forms.{SaysRootIn}
use Rattle.dns_layout.specs.Store.{Stored, OpensAsIn, version_of}
use Rattle.dns_layout.specs.declared.root.Root.{Root}
use Rattle.dns_layout.specs.declared.format.Format.TheVariants.{One}
use Rattle.dns_store.specs.declared.root.OpenError.{OpenError}
use Rattle.dns_store.specs.declared.root.OpenError.TheVariants as refused
use Rattle.dns_journal.specs.State.{IsOpenedTimes}
use Rattle.dns_journal.specs.declared.turn.TurnError.{TurnError}
use Rattle.dns_journal.specs.declared.turn.TurnError.TheVariants as written
use Rattle.dns_changes.specs.declared.ChangeError.{ChangeError}
use Rattle.dns_changes.specs.declared.ChangeError.TheVariants as changed
use Rattle.dns_store.specs.declared.migrating.Migration.{Migration}
use Rattle.dns_store.specs.declared.migrating.Migration.TheVariants.{Migrated, Already}
use Rattle.dns_store.specs.declared.migrating.MigrateError.{MigrateError}
use Rattle.dns_store.specs.declared.migrating.MigrateError.TheVariants.{Device, Blank, Damaged, Geometry}
use Rattle.dns_store.specs.declared.migrating.MigrateError.TheVariants.{ZoneTooLarge, OutOfMemory}
use Rattle.dns_store.specs.Versions.{Shape, Opened, newest_after}
use Rattle.dns_store.specs.Plain.{sectors_of_snapshot}
use Rattle.dns_store.specs.Opening.{IsInRange}
use Rattle.dns_store.specs.Choosing.{IsChosen}
use Rattle.dns_store.specs.Recovered.{AreLed}
use Rattle.dns_store.specs.Opens.{IsPartOfIn, base_of, opens, sizes_of}
use Rattle.dns_store.specs.Root.{OpenRefusalIn}
use Rattle.dns_store.specs.Damage.{NamesWrongIn}

-- The same versions, beginning at the base that is chosen; migrating counts as an opening.
pub record IsMigrated (shape : Shape) (before after : Opened) : Type 0 where
  pub kept : ℕ
  pub chosen : IsChosen shape.snapshot shape.journal (base_of before) (drop before.base before.versions) kept
  pub loaded : after.loaded ≡ before.loaded
  pub versions : after.versions ≡ before.versions
  pub base : after.base + kept ≡ length before.versions
  pub openings : after.openings ≡ before.openings + 1
  pub altered : after.altered ≡ []

-- What a device of format 1 holds, as versions, and how often it was opened. Nothing is asked of it for later
-- writing.
abbrev pub old_opens : Shape → Opened → Content → Type 0
old_opens shape o c =
    (s : Stored) × OpensAsIn One (sizes_of shape) c s × IsPartOfIn One shape o s
    × IsOpenedTimes o.openings c

-- `migrate` and then `open` open the content, of which no sector was altered, as these versions: what format
-- 2 holds as it is, and what format 1 holds with the base that is chosen.
abbrev pub opens_migrated : Shape → Opened → Content → Type 0
opens_migrated shape o c =
    (opens shape o c × (o.altered ≡ []))
    ⊎ ((before : Opened) × old_opens shape before c × IsMigrated shape before o)

-- Each crash leaves a store, in one of the formats, that has room in format 2.
abbrev pub MayMigrate : {D : Type 0} → Ghosts D → Shape → D → Type 0
MayMigrate g shape device = (c : Content) → g.may_leave device c → (o : Opened) × opens_migrated shape o c

-- `migrate` and then `open` open it as they would have opened a content that a crash might have left of the
-- device before: its version and base were possible together. Which versions there were before that base is
-- stored on no device, so this holds whichever they were.
abbrev pub MigratesAsPossible : {D : Type 0} → Ghosts D → Shape → D → Content → Type 0
MigratesAsPossible g shape device c =
    (d : Content) × g.may_leave device d
    × ((o : Opened) → opens_migrated shape o d → opens_migrated shape o c)

-- What was read of a store of format 1 is what is stored: its root, the number of the newest version, the
-- base, and the changes from there.
pub record IsReadOld (shape : Shape) (o : Opened) (s : Stored) (c : Content) (root : Root)
    (version : ℕ) (base : Zone) (changes : List Change)
    : Type 0 where
  pub opens : OpensAsIn One (sizes_of shape) c s
  pub part : IsPartOfIn One shape o s
  pub opened : IsOpenedTimes o.openings c
  pub says : SaysRootIn One (sector_at c 0) root
  pub version_is : version ≡ version_of s
  pub base_is : base ≡ record { apex = shape.apex; records = base_of o }
  pub led : AreLed (base_of o) (drop o.base o.versions) changes

-- Of each store of format 1 that was read so, P.
abbrev pub EachReadOld : Content → Root → ℕ → Zone → List Change → (Shape → Opened → Type 0) → Type 0
EachReadOld c root version base changes P =
    (shape : Shape) (o : Opened) (s : Stored)
    → IsReadOld shape o s c root version base changes
    → P shape o

-- Each crash leaves it as it is migrated.
abbrev pub LeavesInFormatTwo : {D : Type 0} → Ghosts D → D → Shape → Opened → Type 0
LeavesInFormatTwo g device shape o =
    (after : Opened) → IsMigrated shape o after → (c : Content) → g.may_leave device c → opens shape after c

-- The newest version takes more sectors of format 2 than a snapshot has.
abbrev pub IsTooLarge : ℕ → Opened → Type 0
IsTooLarge snapshot o = snapshot < sectors_of_snapshot (newest_after o.loaded o.versions)

-- Of what an honest device holds in format 1 as a store of this shape, P.
abbrev pub EachOld : {D : Type 0} → Ghosts D → Shape → D → (Opened → Type 0) → Type 0
EachOld g shape device P =
    g.is_honest device → (o : Opened) → old_opens shape o (g.seen device)
    → IsInRange shape.snapshot shape.journal
    → P o

-- What was read so is held still in format 1, or as it is migrated.
abbrev pub StaysOrMigrates : Root → ℕ → Zone → List Change → Content → Content → Type 0
StaysOrMigrates root version base changes old new =
    EachReadOld old root version base changes
    (λ shape o. old_opens shape o new ⊎ ((after : Opened) → IsMigrated shape o after → opens shape after new))

-- the serial of the one SOA among these records
pub record IsSerialOf (records : List Record) (serial : ℕ) : Type 0 where
  pub soa : Record
  pub one : soas records ≡ soa ∷ []
  pub serial_is : serial ≡ serial_of soa

-- the number and the serial of the newest version
abbrev pub IsAnswer : Opened → Migration → Type 0
IsAnswer o Already = Unit {0}
IsAnswer o (Migrated version serial) =
    (version ≡ length o.versions) × IsSerialOf (newest_after o.loaded o.versions) serial

-- From now on each crash leaves what `open` alone opens, as a content of the device before was opened by
-- both; and the answer is of that.
abbrev pub TakesMigrated : {D : Type 0} → Ghosts D → Shape → D → D → Migration → Type 0
TakesMigrated g shape before after answer =
    (d : Content) × g.may_leave before d
    × ((o : Opened) → opens_migrated shape o d
    → ((c : Content) → g.may_leave after c → opens shape o c) × IsAnswer o answer)

-- Why a store that could be migrated is not: the device failed, memory was refused, or it was opened too
-- often. This opening is one of so many.
abbrev pub IsMigrateStopped : ℕ → MigrateError → Type 0
IsMigrateStopped openings e = (e ≡ Device) ⊎ (e ≡ OutOfMemory) ⊎ ((e ≡ Damaged 0) × (2 ^ 64 ≤ openings))

-- So it is by how often a content would be opened then that a crash might have left of the device before.
abbrev pub StopsMigrating : {D : Type 0} → Ghosts D → Shape → D → MigrateError → Type 0
StopsMigrating g shape device e =
    (d : Content) × g.may_leave device d
    × ((o : Opened) → opens_migrated shape o d → IsMigrateStopped o.openings e)

-- Where each crash leaves a store with room in format 2, it is migrated; or why it isn't.
abbrev pub MigratesPossible : {D : Type 0} → Ghosts D → Shape → D → D → Result Migration MigrateError → Type 0
MigratesPossible g shape before after result =
    MayMigrate g shape before
    → MatchResult result (TakesMigrated g shape before after) (StopsMigrating g shape before)

-- A refusal of reading, as one of migrating.
abbrev pub migrate_error : OpenError → MigrateError
migrate_error refused.Device = Device
migrate_error refused.Blank = Blank
migrate_error (refused.Damaged sector) = Damaged sector
migrate_error refused.Geometry = Geometry
migrate_error refused.OutOfMemory = OutOfMemory

-- A fault of the changes that lead to the base that is chosen.
abbrev pub base_error : ChangeError → MigrateError
base_error changed.OutOfMemory = OutOfMemory
base_error changed.WrongSoa = ZoneTooLarge
base_error changed.RemovesAbsent = ZoneTooLarge
base_error changed.AddsPresent = ZoneTooLarge
base_error changed.BadBytes = ZoneTooLarge

abbrev pub write_error : TurnError → MigrateError
write_error written.Device = Device
write_error written.Closed = Device
write_error written.OutOfMemory = OutOfMemory

-- Why a device isn't migrated: reading it by the rules of format 1 was refused, for what is stored there; or
-- the newest version takes more sectors of format 2 than a snapshot has.
pub record IsUnread (shape : Shape) (count : ℕ) (c : Content) (e : MigrateError) : Type 0 where
  pub error : OpenError
  pub named : e ≡ migrate_error error
  pub refused : OpenRefusalIn One (sizes_of shape) count (sector_at c 0) error
  pub damaged : NamesWrongIn One shape c error

abbrev pub MigrateRefusal : Shape → ℕ → Content → MigrateError → Type 0
MigrateRefusal shape count c e = IsUnread shape count c e ⊎ (e ≡ ZoneTooLarge)

-- The store was migrated.
abbrev pub IsMigratedStore : {E : Type 0} → Result Migration E → Type 0
IsMigratedStore (Ok Already) = ⊥
IsMigratedStore (Ok (Migrated version serial)) = Unit {0}
IsMigratedStore (Err e) = ⊥
