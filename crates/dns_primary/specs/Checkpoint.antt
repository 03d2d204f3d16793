-- What a checkpoint makes of the zones.
use Rattle.std.specs.Prelude.{◌≡◌, ◌⊎◌, ℕ, Bool, true, false, List, [], length, slice_get, slice_set}
use Rattle.std.specs.Prelude.{Option, Some, None, Result, Ok, Err}
use Rattle.dns_store.specs.declared.checkpoint.CheckpointError.{CheckpointError}
use Rattle.dns_store.specs.declared.checkpoint.CheckpointError.TheVariants as refused
use Rattle.dns_versions.specs.Checkpoint.{IsNextBaseNumber}
use Rattle.dns_primary.specs.Machine.{ZoneState, Machine, kept_of}
use Rattle.dns_primary.specs.Flush.{flushed}

-- The base is moved to the version with this number; or the zone's device fails in that, and it is closed,
-- its base stays, and that version is its second one.
abbrev pub rebased : Bool → ℕ → ZoneState → ZoneState
rebased false base z = record z { base = base }
rebased true base z = record z { second = Some base; closed = true }

-- The base that the zone gets is that of so many of its newest changes, at most as many as it is to keep, as
-- leave so much room.
abbrev pub IsMoved : Bool → ℕ → ZoneState → ZoneState → Type 0
IsMoved fails room z new =
    (base : ℕ) × IsNextBaseNumber z.setting.keep room (kept_of z) base × (new ≡ rebased fails base z)

-- A zone that is closed stays.
abbrev pub IsMovedUnlessClosed : Bool → ℕ → ZoneState → ZoneState → Type 0
IsMovedUnlessClosed fails room z new =
    ((z.closed ≡ true) × (fails ≡ false) × (new ≡ z)) ⊎ ((z.closed ≡ false) × IsMoved fails room z new)

-- All zones are flushed, of which these fail in that; then the base of the one at a position is moved.
pub record IsCheckpoint (index room : ℕ) (old : Machine) (fails : List Bool) (moving_fails : Bool)
    (new : Machine) : Type 0 where
  pub all : length fails ≡ length old.zones
  pub zone : ZoneState
  pub stands : slice_get (flushed fails old).zones index ≡ Some zone
  pub next : ZoneState
  pub moved : IsMovedUnlessClosed moving_fails room zone next
  pub is : new ≡ record (flushed fails old) { zones = slice_set (flushed fails old).zones index next }

-- The devices that fail in the one or in the other, and the first of them.
abbrev pub either_fails : Bool → ℕ → List Bool → List Bool
either_fails false index fails = fails
either_fails true index fails = slice_set fails index true

abbrev pub first_to_fail : Option ℕ → Bool → ℕ → Option ℕ
first_to_fail (Some earlier) moving_fails index = Some earlier
first_to_fail None true index = Some index
first_to_fail None false index = None

-- What is answered to the move of a zone's base, where nothing of it is staged or it is closed, and the zone
-- then.
abbrev pub IsMovedBy : {T : Type 0} → ℕ → ZoneState → Result T CheckpointError → ZoneState → Type 0
IsMovedBy room z (Ok v) new = (z.closed ≡ false) × IsMoved false room z new
IsMovedBy room z (Err refused.Device) new = (z.closed ≡ false) × IsMoved true room z new
IsMovedBy room z (Err refused.Closed) new = (z.closed ≡ true) × (new ≡ z)
IsMovedBy room z (Err refused.OutOfMemory) new = new ≡ z

-- Nothing of the zone is staged, or it is closed, as after a flush.
abbrev pub IsSettled : ZoneState → Type 0
IsSettled z = (z.closed ≡ true) ⊎ (z.staged ≡ [])
