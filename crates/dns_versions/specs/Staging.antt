-- Room for a zone's next version.
use Rattle.std.specs.Prelude.{◌≡◌, ◌<◌, ◌≤◌, ◌+◌, ◌-◌, ◌^◌, ℕ, Bool, true, false, ◌&&◌, nat_le, nat_lt, List}
use Rattle.std.specs.Prelude.{length, Option, Some, None, Result, Ok, Err, if◌then◌else◌}
use Rattle.dns_records.specs.Record.{Record}
use Rattle.dns_zone.specs.Zone.{Zone}
use Rattle.dns_changes.specs.Change.{Change, IsChange}
use Rattle.dns_layout.specs.Sector.{snapshot_sectors}
use Rattle.dns_journal.specs.declared.journal.StageError.{StageError}
use Rattle.dns_journal.specs.declared.journal.StageError.TheVariants as refusal
use Rattle.dns_store.specs.Versions.{Kept, newest_of}
use Rattle.dns_store.specs.Room.{entry_between, sectors_left}
use Rattle.dns_store.specs.Plain.{octets_of}

-- A change for which a zone has room, the version that it leads to, and how many octets its snapshot has.
pub record Plan : Type 0 where
  pub change : Change
  pub version : Zone
  pub octets : ℕ

-- The plan leads from this version of a zone to these records.
pub record IsPlan (before : Zone) (after : List Record) (p : Plan) : Type 0 where
  pub change : IsChange before.records after p.change
  pub version : p.version ≡ record { apex = before.apex; records = after }

-- A version has at most 65,536 records, its snapshot and its entry fit in the sectors that there are for
-- them, and its number has 64 bits.
abbrev pub has_room : Kept → List Record → Bool
has_room k after =
    nat_le (length after) 65536 && nat_le (snapshot_sectors (octets_of after)) k.shape.snapshot
    && nat_le (entry_between (newest_of k) after) k.shape.journal
    && nat_lt (length k.shown + length k.staged) (2 ^ 64 - 1)

-- So many octets has a snapshot of these records, if they are no more than a zone may have.
abbrev pub AreOctetsOf : ℕ → List Record → Type 0
AreOctetsOf octets records = length records ≤ 65536 → octets ≡ octets_of records

-- The version of the plan has room, and its octets are counted.
pub record HasPlanRoom (k : Kept) (p : Plan) : Type 0 where
  pub room : has_room k p.version.records ≡ true
  pub octets : p.octets ≡ octets_of p.version.records

-- There is a plan for a version if it has room, however much is left of the journal.
abbrev pub IsRoomTold : {E : Type 0} → Kept → List Record → Result (Option Plan) E → Type 0
IsRoomTold k after (Ok (Some p)) = HasPlanRoom k p
IsRoomTold k after (Ok None) = has_room k after ≡ false
IsRoomTold k after (Err e) = Unit {0}

-- A version that has room is taken if its entry fits in what is left of the journal, and refused for that
-- only if it doesn't.
abbrev pub HasRoomBy : {T : Type 0} → Kept → List Record → Result T StageError → Type 0
HasRoomBy k after (Ok v) = entry_between (newest_of k) after ≤ sectors_left k
HasRoomBy k after (Err refusal.Full) = sectors_left k < entry_between (newest_of k) after
HasRoomBy k after (Err refusal.Closed) = k.closed ≡ true
HasRoomBy k after (Err refusal.OutOfMemory) = Unit {0}

-- There is room for the version, but not in what is left of the journal.
abbrev pub lacks_room : Kept → List Record → Bool
lacks_room k after = has_room k after && nat_lt (sectors_left k) (entry_between (newest_of k) after)

-- Then it lacks as many sectors as its entry takes.
abbrev pub sectors_lacked : Kept → List Record → Option ℕ
sectors_lacked k after = if lacks_room k after then Some (entry_between (newest_of k) after) else None
