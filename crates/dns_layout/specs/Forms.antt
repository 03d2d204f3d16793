-- What sectors say, each kind by the fields of its value.
use Rattle.std.specs.Prelude.{◌≡◌, ◌≢◌, ◌≤◌, ◌⊎◌, ℕ, ◌+◌, List, [], ◌∷◌, ◌++◌, Bool, true, false}
use Rattle.byteorder.specs.Endian.{big_bytes}
use Rattle.dns_layout.specs.Sector.{tag, open_count, sequence_number, number, HasNumbers, entry_length}
use Rattle.dns_layout.specs.Sector.{entry_sectors_in, bank_open, snapshot_length, snapshot_room, journal_room}
use Rattle.dns_layout.specs.Sector.{clear_in, apex_field_in}
use Rattle.dns_layout.specs.Sector.{root_tag_in, head_tag_in, body_tag_in, snapshot_tag_in}
use Rattle.dns_layout.specs.Apex.{IsPlainApex, apex_octets}
use Rattle.dns_layout.specs.declared.LayoutError.{LayoutError}
use Rattle.dns_layout.specs.declared.LayoutError.TheVariants.{NotThisKind, BadField}
use Rattle.dns_layout.specs.declared.format.Format.{Format}
use Rattle.dns_layout.specs.declared.format.Format.TheVariants as formats
use Rattle.dns_layout.specs.declared.root.Bank.{Bank}
use Rattle.dns_layout.specs.declared.root.Bank.TheVariants.{Zero, One}
use Rattle.dns_layout.specs.declared.root.Root.{Root}
use Rattle.dns_layout.specs.declared.body.Body.{Body}
use Rattle.dns_layout.specs.declared.head.Head.{Head}
use Rattle.dns_layout.specs.declared.part.SnapshotPart.{SnapshotPart}

-- an entry's body
abbrev pub SaysBodyIn : Format → List ℕ → Body → Type 0
SaysBodyIn f x b = HasNumbers x (body_tag_in f) b.open_count b.version b.index

abbrev pub SaysBody : List ℕ → Body → Type 0
SaysBody x b = SaysBodyIn formats.Two x b

-- a part of a snapshot
abbrev pub SaysPartIn : Format → List ℕ → SnapshotPart → Type 0
SaysPartIn f x p = HasNumbers x (snapshot_tag_in f) p.bank_open p.base p.index

abbrev pub SaysPart : List ℕ → SnapshotPart → Type 0
SaysPart x p = SaysPartIn formats.Two x p

-- an entry's head: its number is the count of the bodies that an entry of this length has
pub record SaysHeadIn (f : Format) (x : List ℕ) (h : Head) : Type 0 where
  pub tagged : tag x ≡ head_tag_in f
  pub opened_is : open_count x ≡ h.open_count
  pub version_is : sequence_number x ≡ h.version
  pub bodies_is : number x + 1 ≡ entry_sectors_in f h.length
  pub length_is : entry_length x ≡ h.length

abbrev pub SaysHead : List ℕ → Head → Type 0
SaysHead x h = SaysHeadIn formats.Two x h

-- why a sector is refused as a head
abbrev pub HeadRefusedIn : Format → List ℕ → LayoutError → Type 0
HeadRefusedIn f x NotThisKind = tag x ≢ head_tag_in f
HeadRefusedIn f x BadField = (tag x ≡ head_tag_in f) × (number x + 1 ≢ entry_sectors_in f (entry_length x))

abbrev pub bank_number : Bank → ℕ
bank_number Zero = 0
bank_number One = 1

-- what a root says of the bank that isn't in use: 1 where it holds nothing of format 1
abbrev pub clear_number : Bool → ℕ
clear_number true = 1
clear_number false = 0

-- the root of a store
pub record SaysRootIn (f : Format) (x : List ℕ) (r : Root) : Type 0 where
  pub tagged : tag x ≡ root_tag_in f
  pub opened_is : open_count x ≡ r.open_count
  pub base_is : sequence_number x ≡ r.base
  pub bank_is : number x ≡ bank_number r.bank
  pub bank_open_is : bank_open x ≡ r.bank_open
  pub snapshot_length_is : snapshot_length x ≡ r.snapshot_length
  pub snapshot_room_is : snapshot_room x ≡ r.snapshot_room
  pub journal_room_is : journal_room x ≡ r.journal_room
  pub clear_is : clear_in f x ≡ clear_number r.is_clear
  pub apex_is : apex_field_in f x ≡ apex_octets r.apex
  pub plain : IsPlainApex r.apex

abbrev pub SaysRoot : List ℕ → Root → Type 0
SaysRoot x r = SaysRootIn formats.Two x r

-- the octets of a root's payload before the zone's name
abbrev pub root_front : Root → List ℕ
root_front r = big_bytes 8 r.bank_open
    ++ (big_bytes 8 r.snapshot_length
    ++ (big_bytes 4 r.snapshot_room ++ (big_bytes 4 r.journal_room ++ clear_number r.is_clear ∷ [])))

-- why a sector is refused as a root: another tag; or a bank above 1, a word above 1 on the other bank, or no
-- name in lower case with nothing but zeros after it
abbrev pub RootRefusedIn : Format → List ℕ → LayoutError → Type 0
RootRefusedIn f x NotThisKind = tag x ≢ root_tag_in f
RootRefusedIn f x BadField = (tag x ≡ root_tag_in f)
    × ((2 ≤ number x) ⊎ (2 ≤ clear_in f x)
    ⊎ ((apex : List ℕ) → IsPlainApex apex → apex_field_in f x ≢ apex_octets apex))
