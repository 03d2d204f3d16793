-- The bank that isn't in use is cleared, and a root of the same store is written.
use Rattle.std.specs.Prelude.{◌≡◌, ◌⊎◌, ◌≤◌, ◌<◌, ℕ, List}
use Rattle.dns_sectors.specs.Device.{Content}
use Rattle.dns_sectors.specs.declared.device.Sectors.{Ghosts}
use Rattle.dns_layout.specs.Sector.{open_count, number, bank_open, sequence_number, snapshot_length, clear}
use Rattle.dns_layout.specs.Own.{Altered, Own}
use Rattle.dns_layout.specs.Journal.{AllBehind}
use Rattle.dns_journal.specs.State.{IsOpenedTimes}
use Rattle.dns_layout.specs.Store.{Sizes, Stored, IsRoot, OpensBy, OpensAs, IsTidy, snapshot_place, bank_end}
use Rattle.dns_layout.specs.Store.{other_of}

-- the two roots name the same bank, with the same snapshot
pub record NamesSameBank (old new : List ℕ) : Type 0 where
  pub bank : number new ≡ number old
  pub bank_open : bank_open new ≡ bank_open old
  pub base : sequence_number new ≡ sequence_number old
  pub length : snapshot_length new ≡ snapshot_length old

-- The sectors open by the root x, which says that the other bank isn't cleared. That bank goes from the one
-- position to the other, and z is a root of the same bank with no lower open count.
pub record IsToClear (s : Sizes) (k : Stored) (x : List ℕ) (parts : List (List ℕ))
    (from until : ℕ) (z : List ℕ) (d : Content) : Type 0 where
  pub opens : OpensBy s d x parts k
  pub tidy : IsTidy s d
  pub not_clear : clear x ≡ 0
  pub from_is : from ≡ snapshot_place s (other_of (number x))
  pub until_is : until ≡ bank_end s (other_of (number x))
  pub valid : IsRoot s z
  pub names : NamesSameBank x z
  pub no_lower : open_count x ≤ open_count z
  pub own : Own 0 z

-- The sectors open by the root z as what is stored. If its open count was raised, each head that is left has
-- a lower one.
pub record IsCleared (s : Sizes) (k : Stored) (x : List ℕ) (parts : List (List ℕ)) (z : List ℕ)
    (c : Content) : Type 0 where
  pub opens : OpensBy s c z parts k
  pub tidy : IsTidy s c
  pub behind : open_count x < open_count z → (version : ℕ) → AllBehind (open_count z) version c

-- Of each store on an honest device that is to be cleared so, but for sectors that were altered, P.
abbrev pub EachToClear : {D : Type 0} → Ghosts D → D → ℕ → ℕ → List ℕ
    → (Sizes → Stored → List ℕ → List (List ℕ) → Type 0) → Type 0
EachToClear g device from until z P =
    (s : Sizes) (k : Stored) (x : List ℕ) (parts : List (List ℕ))
    → g.is_honest device
    → Altered k.altered (IsToClear s k x parts from until z) (g.seen device)
    → P s k x parts

-- It opens as what is stored, of a store that was opened as often as one of the two roots says, but for
-- sectors that were altered before.
abbrev pub OpensStill : Sizes → Stored → List ℕ → List ℕ → Content → Type 0
OpensStill s k x z =
    Altered k.altered (λ c. OpensAs s c k × IsTidy s c
    × (IsOpenedTimes (open_count x) c ⊎ IsOpenedTimes (open_count z) c))

-- All that was stored before that bank is cleared is stored still.
abbrev pub StaysUncleared : ℕ → ℕ → List ℕ → Content → Content → Type 0
StaysUncleared from until z old new =
    (s : Sizes) (k : Stored) (x : List ℕ) (parts : List (List ℕ))
    → Altered k.altered (IsToClear s k x parts from until z) old
    → OpensStill s k x z new
