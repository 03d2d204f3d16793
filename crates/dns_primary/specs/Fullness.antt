-- How full a zone's store is.
use Rattle.std.specs.Prelude.{◌≡◌, Option, Some, None}
use Rattle.dns_store.specs.Plain.{sectors_of_snapshot}
use Rattle.dns_store.specs.Room.{sectors_left}
use Rattle.dns_store.specs.Versions.{Kept, newest_of}
use Rattle.dns_primary.specs.Machine.{ZoneState, kept_of}
use Rattle.dns_primary.specs.declared.fullness.Fullness.{Fullness}

-- The sectors that a snapshot of the newest version takes, those that are left for entries, and of how many.
abbrev pub fullness_of : Kept → Fullness
fullness_of k = record {
  snapshot_taken = sectors_of_snapshot (newest_of k);
  snapshot_sectors = k.shape.snapshot;
  journal_left = sectors_left k;
  journal_sectors = k.shape.journal;
  is_closed = k.closed;
}

abbrev pub IsFullness : Fullness → Option ZoneState → Type 0
IsFullness f None = ⊥
IsFullness f (Some z) = f ≡ fullness_of (kept_of z)
