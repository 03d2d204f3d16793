-- The position of a record, or of a name, in a list in order.
use Rattle.std.specs.Prelude.{◌≡◌, ℕ, ◌-◌, ◌<◌, ◌≤◌, nat_lt, Bool, true, false, ◌&&◌, ◌||◌, List, length}
use Rattle.std.specs.Prelude.{insert, remove, slice_set, slice_get, Some, None}
use Rattle.std.specs.List.{AllWithin, find}
use Rattle.std.specs.Ordering.{is_eq, is_lt}
use Rattle.dns_names.specs.Name.{Labels, name_cmp, under}
use Rattle.dns_records.specs.Record.{Record, record_cmp}
use Rattle.dns_zone.specs.Records.{put, without, has}

-- One of equal owner, type and data is there.
pub record IsRecordAt (r : Record) (records : List Record) (at : ℕ) : Type 0 where
  pub inside : at < length records
  pub there : has r records ≡ true
  pub found : slice_get records at ≡ find (λ s. is_eq (record_cmp r s)) records
  pub put_is : put r records ≡ slice_set records at r
  pub without_is : without r records ≡ remove records at

-- None is in the list, and the record goes there.
pub record BelongsAt (r : Record) (records : List Record) (at : ℕ) : Type 0 where
  pub inside : at ≤ length records
  pub absent : has r records ≡ false
  pub put_is : put r records ≡ insert records at r
  pub without_is : without r records ≡ records

-- The position of a name: so many records precede it.
pub record IsPlaceOf (name : Labels) (records : List Record) (position : ℕ) : Type 0 where
  pub inside : position ≤ length records
  pub before : AllWithin (λ r. is_lt (name_cmp r.owner name) ≡ true) records 0 position
  pub behind : AllWithin (λ r. is_lt (name_cmp r.owner name) ≡ false) records position (length records)

-- The record at a position has an owner at the name or under it.
abbrev pub is_owned_at : List Record → ℕ → Labels → Bool
is_owned_at records position name =
    elim (slice_get records position) [ Some r ↦ under r.owner name | None ↦ false ]

-- One of the two records on either side of a position has.
abbrev pub is_owned_beside : List Record → ℕ → Labels → Bool
is_owned_beside records position name =
    is_owned_at records position name || nat_lt 0 position && is_owned_at records (position - 1) name
