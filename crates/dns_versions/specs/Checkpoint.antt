-- What a checkpoint makes of a zone.
use Rattle.std.specs.Prelude.{◌≡◌, ◌⊎◌, ◌-◌, ℕ, false, length}
use Rattle.dns_sectors.specs.Device.{Content}
use Rattle.dns_store.specs.Versions.{Shape, Kept, Opened, OpensAsLeft, moved_to}
use Rattle.dns_store.specs.Checkpoint.{IsKeptNumber}
use Rattle.dns_versions.specs.Flush.{kept_after_flush}

-- The number of the base that a zone gets which was flushed: the shown version less so many of the newest
-- changes.
abbrev pub IsNextBaseNumber : ℕ → ℕ → Kept → ℕ → Type 0
IsNextBaseNumber keep room k base =
    (d : ℕ) × IsKeptNumber (kept_after_flush false k) keep room d
    × (base ≡ length (kept_after_flush false k).shown - d)

-- A crash leaves the shown version with some of those staged; or, where the zone isn't closed, all of them
-- with the new base.
abbrev pub OpensAsCheckpointed : (Shape → Opened → Content → Type 0) → ℕ → ℕ → Kept → Content → Type 0
OpensAsCheckpointed opens keep room k c =
    OpensAsLeft opens k c
    ⊎ ((k.closed ≡ false)
    × ((base : ℕ) × IsNextBaseNumber keep room k base
    × OpensAsLeft opens (moved_to base (kept_after_flush false k)) c))
