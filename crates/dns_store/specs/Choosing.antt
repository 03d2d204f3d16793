-- How many of the newest changes are kept where a store is migrated.
use Rattle.std.specs.Prelude.{◌≡◌, ◌⊎◌, ◌≤◌, ◌<◌, ◌+◌, ◌-◌, ℕ, List, length, take}
use Rattle.dns_records.specs.Record.{Record}
use Rattle.dns_store.specs.Versions.{Versions, newest_after}
use Rattle.dns_store.specs.Room.{entries_along}
use Rattle.dns_store.specs.Plain.{sectors_of_snapshot}
use Rattle.dns_store.specs.Checkpoint.{newest_sectors}

-- The base, or the version after it with this number from there.
abbrev pub version_from : List Record → Versions → ℕ → List Record
version_from base vs n = newest_after base (take n vs)

-- The changes to so many of the newest versions can be kept: their entries fit in a journal, and each version
-- from the one before them to the newest fits in a snapshot.
pub record MayKeep (snapshot journal : ℕ) (base : List Record) (vs : Versions) (n : ℕ) : Type 0 where
  pub there : n ≤ length vs
  pub entries : newest_sectors (λ size. size) (entries_along base vs) n ≤ journal
  pub rooms : (i : ℕ) → i ≤ n → sectors_of_snapshot (version_from base vs (length vs - i)) ≤ snapshot

-- The greatest such number.
pub record IsChosen (snapshot journal : ℕ) (base : List Record) (vs : Versions) (n : ℕ) : Type 0 where
  pub may : MayKeep snapshot journal base vs n
  pub most : (m : ℕ) → MayKeep snapshot journal base vs m → m ≤ n

-- From this version on, up to that one, each fits in a snapshot; the one before doesn't, if there is one.
pub record IsFirstFitting (room : ℕ) (base : List Record) (vs : Versions) (last first : ℕ) : Type 0 where
  pub fit : (j : ℕ) → first ≤ j → j ≤ last → sectors_of_snapshot (version_from base vs j) ≤ room
  pub before : (first ≡ 0) ⊎ (room < sectors_of_snapshot (version_from base vs (first - 1)))
  pub few : first ≤ last + 1
