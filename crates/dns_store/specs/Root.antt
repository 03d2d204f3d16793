-- What is stored in a device's first sector. Words without a format are of format 2, or of both.
use Rattle.std.specs.Prelude.{◌≡◌, ◌≢◌, ◌⊎◌, ◌≤◌, ◌<◌, ◌-◌, ◌^◌, ℕ, List}
use Rattle.dns_layout.specs.Apex.{IsPlainApex, apex_octets}
use Rattle.dns_layout.specs.Sector.{blank, tag, open_count, number, snapshot_length, snapshot_room, clear_in}
use Rattle.dns_layout.specs.Sector.{apex_field_in}
use Rattle.dns_layout.specs.Sector.{snapshot_sectors_in, root_tag_in}
use Rattle.dns_layout.specs.Own.{IsIntactIn}
use Rattle.dns_layout.specs.Forms.{SaysRootIn}
use Rattle.dns_layout.specs.Store.{Sizes, IsRootIn, all_sectors}
use Rattle.dns_layout.specs.declared.format.Format.{Format}
use Rattle.dns_layout.specs.declared.format.Format.TheVariants.{Two}
use Rattle.dns_layout.specs.declared.root.Root.{Root}
use Rattle.dns_journal.specs.declared.read.ReadError.{ReadError}
use Rattle.dns_store.specs.declared.root.OpenError.{OpenError}
use Rattle.dns_store.specs.declared.root.OpenError.TheVariants.{Device, Blank, Damaged, Geometry, OutOfMemory}

-- the sizes of a store with this apex field
abbrev pub sizes_with : List ℕ → ℕ → ℕ → Sizes
sizes_with apex snapshot journal = record { snapshot = snapshot; journal = journal; apex = apex }

-- A root of some store, that is intact and can be opened once more.
pub record IsSoundIn (f : Format) (x : List ℕ) : Type 0 where
  pub own : IsIntactIn f 0 x
  pub tagged : tag x ≡ root_tag_in f
  pub bank : number x ≤ 1
  pub clear : clear_in f x ≤ 1
  pub name : List ℕ
  pub plain : IsPlainApex name
  pub apex : apex_field_in f x ≡ apex_octets name
  pub fits : snapshot_sectors_in f (snapshot_length x) ≤ snapshot_room x
  pub more : open_count x < 2 ^ 64 - 1

-- The root of a store of this shape, intact, on a device of that many sectors.
pub record IsFoundRootIn (f : Format) (s : Sizes) (count : ℕ) (x : List ℕ) (r : Root) : Type 0 where
  pub own : IsIntactIn f 0 x
  pub says : SaysRootIn f x r
  pub valid : IsRootIn f s x
  pub more : open_count x < 2 ^ 64 - 1
  pub size : count ≡ all_sectors s

-- Why there is none: it was never written; it is no sound root; or it is the root of another store.
abbrev pub RootRefusalIn : Format → Sizes → ℕ → List ℕ → OpenError → Type 0
RootRefusalIn f s count x Device = ⊥
RootRefusalIn f s count x Blank = x ≡ blank
RootRefusalIn f s count x (Damaged position) = (position ≡ 0) × (x ≢ blank) × (IsSoundIn f x → ⊥)
RootRefusalIn f s count x Geometry = IsSoundIn f x × (IsRootIn f s x → count ≡ all_sectors s → ⊥)
RootRefusalIn f s count x OutOfMemory = ⊥

-- Why a device isn't opened as a store of this shape: sizes that no store has, what its first sector is; or
-- another sector isn't what it should be, after a root of that shape.
abbrev pub OpenRefusalIn : Format → Sizes → ℕ → List ℕ → OpenError → Type 0
OpenRefusalIn f s count x Device = Unit {0}
OpenRefusalIn f s count x Blank = x ≡ blank
OpenRefusalIn f s count x (Damaged position) =
    RootRefusalIn f s count x (Damaged position) ⊎ (IsRootIn f s x × (count ≡ all_sectors s))
OpenRefusalIn f s count x Geometry =
    (count ≡ 0) ⊎ (65536 < s.snapshot) ⊎ (65536 < s.journal) ⊎ RootRefusalIn f s count x Geometry
OpenRefusalIn f s count x OutOfMemory = Unit {0}

abbrev pub OpenRefusal : Sizes → ℕ → List ℕ → OpenError → Type 0
OpenRefusal s count x e = OpenRefusalIn Two s count x e

-- what is said of a snapshot or a journal
abbrev pub IsOfBank : OpenError → Type 0
IsOfBank Device = Unit {0}
IsOfBank Blank = ⊥
IsOfBank (Damaged position) = Unit {0}
IsOfBank Geometry = ⊥
IsOfBank OutOfMemory = Unit {0}

abbrev pub open_error : ReadError → OpenError
open_error ReadError.Device = Device
open_error (ReadError.Damaged at) = Damaged at
open_error ReadError.OutOfMemory = OutOfMemory
