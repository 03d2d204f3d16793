-- What reading a store gives, whatever the device is.
use Rattle.std.specs.Prelude.{◌≡◌, ◌≤◌, ◌+◌, ℕ, List, [], ◌∷◌, length, drop, sum_by}
use Rattle.dns_records.specs.Record.{Record}
use Rattle.dns_zone.specs.Zone.{Zone, IsZone}
use Rattle.dns_changes.specs.Change.{Change}
use Rattle.dns_changes.specs.Entry.{entry}
use Rattle.dns_layout.specs.Sector.{entry_sectors_in}
use Rattle.dns_layout.specs.declared.format.Format.{Format}
use Rattle.dns_sectors.specs.declared.device.Sectors.{Ghosts}
use Rattle.dns_journal.specs.State.{newest_number_of}
use Rattle.dns_journal.specs.declared.read.Cursor.{Cursor}
use Rattle.dns_store.specs.Versions.{Versions, Shape, Opened, newest_after}
use Rattle.dns_store.specs.Plain.{sectors_of_snapshot_in}
use Rattle.dns_store.specs.Opens.{base_of, fresh}
use Rattle.dns_store.specs.Recovered.{AreLed}
use Rattle.dns_store.specs.Checkpoint.{AllZones}
use Rattle.dns_store.specs.Holding.{HoldsInMemory}
use Rattle.dns_store.specs.declared.kept_store.KeptStore.{KeptStore}
use Rattle.dns_store.specs.declared.recovery.Recovered.{Recovered}

-- each of these versions takes at most so many sectors as a snapshot in this format
abbrev pub AllFitIn : Format → ℕ → Versions → Type 0
AllFitIn f room [] = Unit {0}
AllFitIn f room (v ∷ vs) = (sectors_of_snapshot_in f v ≤ room) × AllFitIn f room vs

-- how many sectors the entry of a change takes in this format
abbrev pub sectors_for_in : Format → Change → ℕ
sectors_for_in f c = entry_sectors_in f (length (entry c))

-- Changes were read that lead from a base to a newest version, through valid zones that fit; the cursor moved
-- by the sectors of their entries and by as many versions.
pub record IsReadBy (f : Format) (old new : Cursor) (base : Zone) (room : ℕ) (newest : List Record)
    (changes : List Change) : Type 0 where
  pub versions : Versions
  pub version_is : new.version ≡ old.version + length versions
  pub position : new.at ≡ old.at + sum_by (sectors_for_in f) changes
  pub newest_is : newest ≡ newest_after base.records versions
  pub zones : AllZones base.apex versions
  pub fit : AllFitIn f room versions
  pub led : AreLed base.records versions changes

-- A store was read: a base that fits, and the changes from there, by a cursor that began at the journal of a
-- bank with this root's rooms.
pub record IsReadSo {I : Type 0} (f : Format) (shape : Shape) (r : Recovered I) : Type 0 where
  pub start : Cursor
  pub version_is : start.version ≡ r.root.base
  pub place_is : start.until ≡ start.at + shape.journal
  pub until_is : r.end.until ≡ start.until
  pub snapshot_room_is : r.root.snapshot_room ≡ shape.snapshot
  pub journal_room_is : r.root.journal_room ≡ shape.journal
  pub apex_is : r.base.apex ≡ shape.apex
  pub base_valid : IsZone r.base
  pub base_fits : sectors_of_snapshot_in f r.base.records ≤ shape.snapshot
  pub reads : IsReadBy f start r.end r.base shape.snapshot r.newest.records r.changes.items

-- These may be the versions of a store that was opened: so many are known, from its base on.
pub record MayBeVersions {D I : Type 0} {g : Ghosts D} (store : KeptStore D I g) (versions : Versions)
    (o : Opened) : Type 0 where
  pub count : length o.versions ≡ newest_number_of store.journal
  pub base_number : o.base + length versions ≡ length o.versions
  pub base_is : base_of o ≡ store.base.records
  pub rest_is : drop o.base o.versions ≡ versions

-- A store was opened, whatever its device is: versions were read that lead from its base to the newest, and
-- the store holds them in memory, whichever there were before the base.
pub record IsOpenSo {D I : Type 0} {g : Ghosts D} (shape : Shape) (store : KeptStore D I g) (newest : Zone)
    : Type 0 where
  pub versions : Versions
  pub few : length versions ≤ newest_number_of store.journal
  pub base_apex : store.base.apex ≡ shape.apex
  pub newest_is : newest ≡ record { apex = shape.apex; records = newest_after store.base.records versions }
  pub holds : (o : Opened) → MayBeVersions store versions o
      → HoldsInMemory store.journal store.base store.changes.items (fresh shape o)
