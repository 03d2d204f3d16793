-- What a flush makes of zones.
use Rattle.std.specs.Prelude.{◌≡◌, ◌⊎◌, ◌<◌, ◌≤◌, ◌-◌, ◌^◌, ℕ, suc, Bool, true, false, ◌||◌, List, [], ◌∷◌}
use Rattle.std.specs.Prelude.{Option, Some, None, option_map, length, if◌then◌else◌}
use Rattle.dns_zone.specs.Zone.{Zone}
use Rattle.dns_store.specs.Versions.{Kept, made_durable, closed_by_failure}
use Rattle.dns_versions.specs.declared.zone_versions.ZoneVersions.{ZoneVersions}
use Rattle.dns_versions.specs.Held.{AllHave}

abbrev pub is_none_staged : Kept → Bool
is_none_staged k = elim (k.staged) [ [] ↦ true | v ∷ rest ↦ false ]

-- A zone is flushed, or its device fails. A closed zone, and one with nothing staged, stay as they are.
abbrev pub kept_after_flush : Bool → Kept → Kept
kept_after_flush fails k =
    if k.closed || is_none_staged k then k else if fails then closed_by_failure k else made_durable k

-- Zones in order, as far as the list goes of which devices fail.
abbrev pub flushed_to : List Bool → List Kept → List Kept
flushed_to [] ks = ks
flushed_to (f ∷ fails) [] = []
flushed_to (f ∷ fails) (k ∷ ks) = kept_after_flush f k ∷ flushed_to fails ks

abbrev pub first_true : List Bool → Option ℕ
first_true [] = None
first_true (true ∷ rest) = Some 0
first_true (false ∷ rest) = option_map suc (first_true rest)

-- The count of failures rose, or was at its last value.
abbrev pub HasFailed : ℕ → ℕ → Type 0
HasFailed before after = (before < after) ⊎ (before ≡ 2 ^ 64 - 1)

-- The count of a device's failures doesn't fall, and where the device is said to have failed, it has.
pub record IsCounted (fails : Bool) (before after : ℕ) : Type 0 where
  pub grows : before ≤ after
  pub rises : fails ≡ true → HasFailed before after

-- So it is of each device; after the end of the list nothing is said.
abbrev pub FailedWhere : {A : Type 0} → (A → ℕ) → List Bool → List A → List A → Type 0
FailedWhere failed [] olds news = Unit {0}
FailedWhere failed (f ∷ fails) (a ∷ olds) (b ∷ news) =
    IsCounted f (failed a) (failed b) × FailedWhere failed fails olds news
FailedWhere failed (f ∷ fails) _ _ = ⊥

-- All zones were flushed, as far as their devices let them, and the first whose device failed is told.
abbrev pub AreFlushed : {I S : Type 0} → (S → Kept → Type 0) → (S → ℕ) → List Kept → List Zone
    → List (ZoneVersions I S) → List (ZoneVersions I S) → Option ℕ → Type 0
AreFlushed keeps failed ks zones olds news first =
    (fails : List Bool) × (length fails ≡ length ks)
    × AllHave keeps zones news (flushed_to fails ks)
    × (first ≡ first_true fails)
    × FailedWhere (λ b. failed b.store) fails olds news
