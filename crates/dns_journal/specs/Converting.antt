-- What a store of format 1 held, in format 2.
use Rattle.std.specs.Prelude.{◌≡◌, ◌⊎◌, ℕ, ◌+◌, ◌-◌, List, ◌++◌, length}
use Rattle.dns_sectors.specs.Device.{Content, Only}
use Rattle.dns_sectors.specs.Crash.{Write}
use Rattle.dns_sectors.specs.Phase.{pairs, zeros_from}
use Rattle.dns_sectors.specs.declared.device.Sectors.{Ghosts}
use Rattle.dns_sectors.specs.declared.phase.SectorWrite.{SectorWrite}
use Rattle.dns_layout.specs.Sector.{sector_at, clear}
use Rattle.dns_layout.specs.Forms.{SaysRootIn}
use Rattle.dns_layout.specs.Store.{Sizes, Stored, OpensAs, OpensAsIn, OpensByIn, IsTidy, version_of}
use Rattle.dns_layout.specs.declared.root.Root.{Root}
use Rattle.dns_layout.specs.declared.format.Format.TheVariants.{One}
use Rattle.dns_changes.specs.Change.{Change}
use Rattle.dns_journal.specs.declared.conversion.Places.{Places}
use Rattle.dns_journal.specs.State.{IsOpenedTimes}
use Rattle.dns_journal.specs.Bank.{IsTurned}

-- these writes, and zeros from one position up to another
abbrev pub with_zeros : List SectorWrite → ℕ → ℕ → List Write
with_zeros ws from until = pairs ws ++ zeros_from from (until - from)

-- the writes to every sector of a bank: the parts of its snapshot, zeros up to its journal, the sectors of
-- its entries, and zeros up to its end
abbrev pub bank_writes : Places → List SectorWrite → List SectorWrite → List Write
bank_writes p parts entries =
    with_zeros parts (p.first + length parts) p.journal
    ++ with_zeros entries (p.journal + length entries) p.until

-- A crash left what format 1 held, of a store that was opened so often; or in format 2 what is stored after
-- the turn, opened once more.
abbrev pub LeavesConverted : Sizes → Stored → List ℕ → List Change → ℕ → Content → Type 0
LeavesConverted s k octets changes opened c =
    (OpensAsIn One s c k × IsOpenedTimes opened c)
    ⊎ ((new : Stored) × IsTurned k octets changes new × OpensAs s c new × IsTidy s c
    × IsOpenedTimes (opened + 1) c)

-- So it is of all that format 1 held there by this root, up to that version.
abbrev pub StaysOrConverts : Root → ℕ → List ℕ → List Change → Content → Content → Type 0
StaysOrConverts root base octets changes old new =
    (s : Sizes) (k : Stored) (x : List ℕ) (parts : List (List ℕ))
    → OpensByIn One s old x parts k
    → SaysRootIn One x root
    → base + length changes ≡ version_of k
    → LeavesConverted s k octets changes root.open_count new

-- It opens in format 2 as what is stored, its root has this open count, and says that the other bank is
-- cleared.
pub record OpensCleared (s : Sizes) (k : Stored) (opened : ℕ) (c : Content) : Type 0 where
  pub opens : OpensAs s c k
  pub tidy : IsTidy s c
  pub cleared : clear (sector_at c 0) ≡ 1
  pub counted : IsOpenedTimes opened c

-- Of all that an honest device holds in format 1 by this root, up to that version, P: everything on it is
-- durable.
abbrev pub EachToConvert : {D : Type 0} → Ghosts D → D → Root → ℕ → List Change → (Sizes → Stored → Type 0)
    → Type 0
EachToConvert g device root base changes P =
    (s : Sizes) (k : Stored) (x : List ℕ) (parts : List (List ℕ))
    → g.is_honest device → Only (g.seen device) (g.may_leave device)
    → OpensByIn One s (g.seen device) x parts k
    → SaysRootIn One x root
    → base + length changes ≡ version_of k
    → P s k

-- Each crash leaves in format 2 what is stored after the turn.
abbrev pub LeavesCleared : {D : Type 0} → Ghosts D → D → Sizes → Stored → List ℕ → List Change → ℕ → Type 0
LeavesCleared g device s k octets changes opened =
    (new : Stored) × IsTurned k octets changes new
    × ((c : Content) → g.may_leave device c → OpensCleared s new opened c)
