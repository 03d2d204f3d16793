-- What the sectors of a snapshot hold.
use Rattle.std.specs.Prelude.{◌≡◌, ◌⊎◌, ◌<◌, ◌+◌, ℕ, List, take, drop}
use Rattle.std.specs.List.{AllByRecursion, flat_map}
use Rattle.dns_names.specs.Name.{Labels}
use Rattle.dns_records.specs.Record.{Record, IsRecord, plain}
use Rattle.dns_zone.specs.Zone.{IsZone}
use Rattle.dns_sectors.specs.Device.{Content}
use Rattle.dns_sectors.specs.declared.device.Sectors.{Ghosts}
use Rattle.dns_layout.specs.Sector.{AreZeros, sector_at, payload_in, snapshot_length, snapshot_sectors_in}
use Rattle.dns_layout.specs.Store.{IsPartIn, ArePartsIn}
use Rattle.dns_layout.specs.Own.{IsIntactIn}
use Rattle.dns_layout.specs.Forms.{SaysRootIn}
use Rattle.dns_layout.specs.declared.format.Format.{Format}
use Rattle.dns_layout.specs.declared.root.Root.{Root}
use Rattle.dns_journal.specs.Reads.{sectors_from, AreIntact, EachOriginal}
use Rattle.dns_journal.specs.declared.read.ReadError.{ReadError}
use Rattle.dns_journal.specs.declared.read.ReadError.TheVariants.{Device, Damaged, OutOfMemory}

-- so many sectors has the snapshot that the root x names, or this one
abbrev pub parts_in : Format → List ℕ → ℕ
parts_in f x = snapshot_sectors_in f (snapshot_length x)

abbrev pub parts_said : Format → Root → ℕ
parts_said f root = snapshot_sectors_in f root.snapshot_length

-- The parts of the snapshot that the root x names are stored from this position on, with zeros after its end,
-- and these are its octets.
pub record HoldsSnapshotIn (f : Format) (x : List ℕ) (at : ℕ) (c : Content) (octets : List ℕ) : Type 0 where
  pub parts : ArePartsIn f x 0 (sectors_from c at (parts_in f x))
  pub zeros : AreZeros (drop (snapshot_length x) (flat_map (payload_in f) (sectors_from c at (parts_in f x))))
  pub octets_are : octets
      ≡ take (snapshot_length x) (flat_map (payload_in f) (sectors_from c at (parts_in f x)))

-- The sector there is the first that isn't the expected part.
pub record IsWrongPartIn (f : Format) (x : List ℕ) (at : ℕ) (c : Content) (position : ℕ) : Type 0 where
  pub index : ℕ
  pub place_is : position ≡ at + index
  pub within : index < parts_in f x
  pub before : ArePartsIn f x 0 (sectors_from c at index)
  pub wrong : IsPartIn f x index (sector_at c position) → ⊥

-- All parts are the expected ones, and the last has something other than zeros after the snapshot's end.
pub record IsWrongTailIn (f : Format) (x : List ℕ) (at : ℕ) (c : Content) (position : ℕ) : Type 0 where
  pub place_is : position + 1 ≡ at + parts_in f x
  pub expected : ArePartsIn f x 0 (sectors_from c at (parts_in f x))
  pub wrong : AreZeros
      (drop (snapshot_length x) (flat_map (payload_in f) (sectors_from c at (parts_in f x)))) → ⊥

abbrev pub IsBadPartIn : Format → List ℕ → ℕ → Content → ReadError → Type 0
IsBadPartIn f x at c Device = Unit {0}
IsBadPartIn f x at c (Damaged position) = IsWrongPartIn f x at c position
IsBadPartIn f x at c OutOfMemory = Unit {0}

abbrev pub IsBadSnapshotIn : Format → List ℕ → ℕ → Content → ReadError → Type 0
IsBadSnapshotIn f x at c Device = Unit {0}
IsBadSnapshotIn f x at c (Damaged position) =
    IsWrongPartIn f x at c position ⊎ IsWrongTailIn f x at c position
IsBadSnapshotIn f x at c OutOfMemory = Unit {0}

-- Reading the snapshot that the root x names, from this position on, reaches this part: those before it are
-- intact and the expected ones.
pub record IsReachedPartIn (f : Format) (x : List ℕ) (at : ℕ) (c : Content) (index : ℕ) : Type 0 where
  pub within : index < parts_in f x
  pub before : ArePartsIn f x 0 (sectors_from c at index)
  pub own : AreIntact f c at index

-- Of each content of which an honest device's is an altered one, and each sector that says this root, P.
abbrev pub EachSnapshot : {D : Type 0} → Ghosts D → Format → D → Root → (Content → List ℕ → Type 0) → Type 0
EachSnapshot g f device root P = EachOriginal g f device (λ c. (x : List ℕ) → SaysRootIn f x root → P c x)

-- Of the position of each part of this root's snapshot on an honest device that is reached, from this
-- position on, and is neither zeros nor its own, P.
abbrev pub EachSpoiltPart : {D : Type 0} → Ghosts D → Format → D → Root → ℕ → (ℕ → Type 0) → Type 0
EachSpoiltPart g f device root at P =
    g.is_honest device → (x : List ℕ) → SaysRootIn f x root
    → (index : ℕ) → IsReachedPartIn f x at (g.seen device) index
    → (IsIntactIn f (at + index) (sector_at (g.seen device) (at + index)) → ⊥)
    → P (at + index)

-- The octets are the plain forms of these records.
pub record AreStored (octets : List ℕ) (records : List Record) : Type 0 where
  pub each : AllByRecursion IsRecord records
  pub octets_are : octets ≡ flat_map plain records

-- They are the records of no zone with this apex, in order.
abbrev pub IsNoSnapshot : Labels → List ℕ → Type 0
IsNoSnapshot apex octets =
    (records : List Record) → IsZone (record { apex = apex; records = records })
    → octets ≡ flat_map plain records → ⊥
