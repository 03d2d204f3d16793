-- What a store on a device keeps: versions, the zone at its base, and the changes from there. What it has in
-- memory depends on no device; what a crash leaves is said of an honest one.
use Rattle.std.specs.Prelude.{◌≡◌, ◌≤◌, ◌+◌, false, List, [], ◌++◌, drop, length}
use Rattle.dns_zone.specs.Zone.{Zone}
use Rattle.dns_changes.specs.Change.{Change}
use Rattle.dns_sectors.specs.declared.device.Sectors.{Ghosts}
use Rattle.dns_journal.specs.State.{StagesNothing, is_closed, device_of, free_sectors, newest_number_of}
use Rattle.dns_journal.specs.Bank.{journal_room_of, snapshot_room_of}
use Rattle.dns_journal.specs.declared.journal.Journal.{Journal}
use Rattle.dns_store.specs.Versions.{Kept, version_at}
use Rattle.dns_store.specs.Room.{sectors_left}
use Rattle.dns_store.specs.Plain.{sectors_of_snapshot}
use Rattle.dns_store.specs.Opens.{journal_keeps as keeps_versions}
use Rattle.dns_store.specs.Recovered.{AreLed}
use Rattle.dns_store.specs.Checkpoint.{AllZones, AllFit}

-- In memory the journal is at the newest of these versions, and has their room. This is the zone at the base,
-- and these are the changes from there to the newest version, through valid zones that each fit in a
-- snapshot. Where nothing is staged nothing is to be written, if the device didn't fail.
pub record HoldsInMemory {D : Type 0} {g : Ghosts D} (journal : Journal D g) (base : Zone)
    (changes : List Change) (k : Kept) : Type 0 where
  pub closed_is : is_closed journal ≡ k.closed
  pub number_is : newest_number_of journal ≡ length k.shown + length k.staged
  pub left_is : free_sectors journal ≡ sectors_left k
  pub snapshot_room_is : snapshot_room_of journal ≡ k.shape.snapshot
  pub journal_room_is : journal_room_of journal ≡ k.shape.journal
  pub idle : k.closed ≡ false → k.staged ≡ [] → StagesNothing journal
  pub so_far : k.base ≤ length k.shown
  pub base_is : base ≡ record { apex = k.shape.apex; records = version_at k k.base }
  pub base_fits : sectors_of_snapshot (version_at k k.base) ≤ k.shape.snapshot
  pub led : AreLed (version_at k k.base) (drop k.base (k.shown ++ k.staged)) changes
  pub zones : AllZones k.shape.apex (drop k.base (k.shown ++ k.staged))
  pub fit : AllFit k.shape.snapshot (drop k.base (k.shown ++ k.staged))

-- The store holds the versions in memory; and if the device is honest, the journal keeps them on it.
pub record HoldsVersions {D : Type 0} {g : Ghosts D} (journal : Journal D g) (base : Zone)
    (changes : List Change) (k : Kept) : Type 0 where
  pub memory : HoldsInMemory journal base changes k
  pub keeps : g.is_honest (device_of journal) → keeps_versions journal k
