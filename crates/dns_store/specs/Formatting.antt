-- What a device holds while a store is made on it, and then.
use Rattle.std.specs.Prelude.{◌≡◌, ◌⊎◌, ◌≤◌, ◌<◌, ◌+◌, ◌*◌, ℕ, List, [], length}
use Rattle.dns_records.specs.Record.{Record}
use Rattle.dns_sectors.specs.Device.{Content}
use Rattle.dns_sectors.specs.declared.device.Sectors.{Ghosts}
use Rattle.dns_layout.specs.Sector.{sector_at, blank, snapshot_sectors}
use Rattle.dns_layout.specs.Forms.{SaysPart, SaysRoot}
use Rattle.dns_layout.specs.declared.root.Root.{Root}
use Rattle.dns_layout.specs.Own.{Own}
use Rattle.dns_journal.specs.Bank.{piece, part_of, HoldsOctets}
use Rattle.dns_store.specs.Versions.{Shape, Opened}
use Rattle.dns_store.specs.Opens.{opens}

-- A device of so many sectors has room for a store of these sizes, which are in range, and for nothing else.
pub record IsGeometry (snapshot journal count : ℕ) : Type 0 where
  pub some_part : 1 ≤ snapshot
  pub parts : snapshot ≤ 65536
  pub some_entries : 8 ≤ journal
  pub entries : journal ≤ 65536
  pub size : count ≡ 1 + 2 * (snapshot + journal)

-- The part of a new store's snapshot with this index, its own sector there.
pub record IsNewPart (octets : List ℕ) (index : ℕ) (x : List ℕ) : Type 0 where
  pub says : SaysPart x (part_of 0 0 index)
  pub holds : HoldsOctets x (piece octets index)
  pub own : Own (index + 1) x

-- The sector at this index after the root of a new store: a part of the snapshot, or zeros after the last.
pub record IsLaid (octets : List ℕ) (index : ℕ) (x : List ℕ) : Type 0 where
  pub part : index < snapshot_sectors (length octets) → IsNewPart octets index x
  pub none : snapshot_sectors (length octets) ≤ index → x ≡ blank

-- ... at each index after the root, up to that position
abbrev pub IsLaidTo : List ℕ → ℕ → Content → Type 0
IsLaidTo octets position c =
    (index : ℕ) → index + 1 < position → IsLaid octets index (sector_at c (index + 1))

-- The first sector is as if it was never written.
abbrev pub HasBlankRoot : Content → Type 0
HasBlankRoot c = sector_at c 0 ≡ blank

-- The root, the snapshot with these octets in the first bank, and zeros everywhere else.
pub record IsFormatted (root : Root) (octets : List ℕ) (count : ℕ) (c : Content) : Type 0 where
  pub size : length c ≡ count
  pub says : SaysRoot (sector_at c 0) root
  pub own : Own 0 (sector_at c 0)
  pub laid : IsLaidTo octets count c

-- what a new store opens as: its first version, whose number is 0; it was never opened
abbrev pub first_of : List Record → Opened
first_of records = record { loaded = records; versions = []; base = 0; openings = 0; altered = [] }

-- A crash while a store is made leaves what it might have left before, a blank root, or the new store.
abbrev pub LeftByFormat : {D : Type 0} → Ghosts D → Shape → List Record → D → Content → Type 0
LeftByFormat g shape records device c =
    g.may_leave device c ⊎ HasBlankRoot c ⊎ opens shape (first_of records) c

-- the same of one step: what it might have left before, a blank root, or all of it
abbrev pub LeftByMaking : {D : Type 0} → Ghosts D → Root → List ℕ → ℕ → D → Content → Type 0
LeftByMaking g root octets count device c = g.may_leave device c ⊎ HasBlankRoot c
    ⊎ IsFormatted root octets count c
