-- Which sector is wrong on a device that isn't opened, and which sectors reading reaches. Words without a
-- format are of format 2, or of both.
use Rattle.std.specs.Prelude.{◌≡◌, ◌≢◌, ◌⊎◌, ◌≤◌, ◌<◌, ℕ, ◌+◌, ◌*◌, List, [], ◌∷◌, None, length}
use Rattle.std.specs.List.{flat_map}
use Rattle.dns_names.specs.Name.{Labels}
use Rattle.dns_records.specs.Record.{Record, plain}
use Rattle.dns_zone.specs.Zone.{IsZone}
use Rattle.dns_changes.specs.Change.{Change, IsChange, applied, change_fault}
use Rattle.dns_changes.specs.Entry.{HasEntry, entry}
use Rattle.dns_sectors.specs.Device.{Content}
use Rattle.dns_layout.specs.Sector.{sector_at}
use Rattle.dns_layout.specs.Own.{IsIntactIn}
use Rattle.dns_layout.specs.Forms.{SaysRootIn, bank_number}
use Rattle.dns_layout.specs.declared.format.Format.{Format}
use Rattle.dns_layout.specs.declared.format.Format.TheVariants.{Two}
use Rattle.dns_layout.specs.declared.root.Root.{Root}
use Rattle.dns_journal.specs.Reads.{FindsEntry, IsRefusal, IsSpoilt, AreIntact}
use Rattle.dns_journal.specs.Reads.{IsSectorReached as IsReachedAt}
use Rattle.dns_journal.specs.declared.read.Cursor.{Cursor}
use Rattle.dns_journal.specs.declared.read.ReadError.{ReadError}
use Rattle.dns_store.specs.declared.root.OpenError.{OpenError}
use Rattle.dns_store.specs.declared.root.OpenError.TheVariants.{Device, Blank, Damaged, Geometry, OutOfMemory}
use Rattle.dns_store.specs.Versions.{Shape}
use Rattle.dns_store.specs.Plain.{sectors_of_snapshot_in}
use Rattle.dns_store.specs.Opens.{sizes_of}
use Rattle.dns_store.specs.Root.{IsSoundIn, IsFoundRootIn}
use Rattle.dns_store.specs.Snapshot.{parts_in, HoldsSnapshotIn, IsBadSnapshotIn, IsNoSnapshot}
use Rattle.dns_store.specs.Snapshot.{IsReachedPartIn}

-- This sector is named; or the device failed, or memory was refused.
abbrev pub NamesSector : ℕ → OpenError → Type 0
NamesSector position e = (e ≡ Device) ⊎ (e ≡ OutOfMemory) ⊎ (e ≡ Damaged position)

-- A sector is named, from one position on and before another, that is neither zeros nor its own.
abbrev pub NamesSpoiltIn : Format → Content → ℕ → ℕ → OpenError → Type 0
NamesSpoiltIn f d from until Device = ⊥
NamesSpoiltIn f d from until Blank = ⊥
NamesSpoiltIn f d from until (Damaged position) = IsSpoilt f d from until position
NamesSpoiltIn f d from until Geometry = ⊥
NamesSpoiltIn f d from until OutOfMemory = ⊥

-- So is such a sector; or the device failed, or memory was refused.
abbrev pub RefusesSpoilt : Format → Content → ℕ → ℕ → OpenError → Type 0
RefusesSpoilt f d from until e = (e ≡ Device) ⊎ (e ≡ OutOfMemory) ⊎ NamesSpoiltIn f d from until e

-- So it is of what a cursor reads.
abbrev pub RefusesJournal : Format → Content → Cursor → OpenError → Type 0
RefusesJournal f d cursor e = RefusesSpoilt f d cursor.at cursor.until e

-- The sector is neither zeros nor its own, and isn't the one that was there before.
pub record IsAlteredAt (f : Format) (before now : Content) (position : ℕ) : Type 0 where
  pub spoilt : IsIntactIn f position (sector_at now position) → ⊥
  pub other : sector_at now position ≢ sector_at before position

-- Such a sector is named.
abbrev pub NamesAlteredIn : Format → Content → Content → OpenError → Type 0
NamesAlteredIn f before now Device = ⊥
NamesAlteredIn f before now Blank = ⊥
NamesAlteredIn f before now (Damaged position) = IsAlteredAt f before now position
NamesAlteredIn f before now Geometry = ⊥
NamesAlteredIn f before now OutOfMemory = ⊥

abbrev pub NamesAltered : Content → Content → OpenError → Type 0
NamesAltered before now e = NamesAlteredIn Two before now e

-- A change that was read, the version that it makes, and the cursor after its entry.
pub record ReadChange : Type 0 where
  pub change : Change
  pub after : List Record
  pub behind : Cursor

-- The entry at the cursor holds the change, which can be made of the version before and makes a valid zone of
-- it whose snapshot takes at most so many sectors.
pub record IsStepAtIn (f : Format) (apex : Labels) (room : ℕ) (c : Content) (at : Cursor)
    (before : List Record) (s : ReadChange) : Type 0 where
  pub found : FindsEntry f at s.behind c (entry s.change)
  pub written : HasEntry s.change
  pub applies : change_fault s.change before ≡ None
  pub makes : applied s.change before ≡ s.after
  pub valid : IsZone (record { apex = apex; records = s.after })
  pub fits : sectors_of_snapshot_in f s.after ≤ room

-- Such entries follow one another, up to that cursor and that version.
abbrev pub AreStepsIn : Format → Labels → ℕ → Content → Cursor → List Record → List ReadChange → Cursor
    → List Record → Type 0
AreStepsIn f apex room c from base [] at newest = (at ≡ from) × (newest ≡ base)
AreStepsIn f apex room c from base (s ∷ steps) at newest =
    IsStepAtIn f apex room c from base s × AreStepsIn f apex room c s.behind s.after steps at newest

-- Where the records are a valid zone whose snapshot takes at most so many sectors, P.
abbrev pub IfFits : Format → Labels → ℕ → List Record → Type 0 → Type 0
IfFits f apex room after P =
    IsZone (record { apex = apex; records = after }) → sectors_of_snapshot_in f after ≤ room → P

-- Of each change whose entry the octets are, to such records, P.
abbrev pub EachStep : Format → Labels → ℕ → List Record → List ℕ → (List Record → Change → Type 0) → Type 0
EachStep f apex room before octets P =
    (after : List Record) (c : Change)
    → IsChange before after c
    → HasEntry c
    → entry c ≡ octets
    → IfFits f apex room after (P after c)

-- The octets are the entry of no change to a valid zone that takes at most so many sectors.
abbrev pub IsNoStepIn : Format → Labels → ℕ → List Record → List ℕ → Type 0
IsNoStepIn f apex room before octets = EachStep f apex room before octets (λ _ _. ⊥)

-- The head at the cursor is named: its entry is that of no change to such a zone.
pub record IsNoStepAtIn (f : Format) (apex : Labels) (room : ℕ) (c : Content) (at : Cursor)
    (before : List Record) (position : ℕ) : Type 0 where
  pub place_is : position ≡ at.at
  pub octets : List ℕ
  pub behind : Cursor
  pub found : FindsEntry f at behind c octets
  pub none : IsNoStepIn f apex room before octets

-- After some entries that are right, the sector belongs to one that is wrong: a body, or the head of no such
-- change.
pub record IsWrongEntryIn (f : Format) (apex : Labels) (room : ℕ) (base : List Record) (from : Cursor)
    (c : Content) (position : ℕ) : Type 0 where
  pub steps : List ReadChange
  pub at : Cursor
  pub newest : List Record
  pub read : AreStepsIn f apex room c from base steps at newest
  pub wrong : IsRefusal f at c (ReadError.Damaged position) ⊎ IsNoStepAtIn f apex room c at newest position

abbrev pub NamesWrongEntryIn : Format → Labels → ℕ → List Record → Cursor → Content → OpenError → Type 0
NamesWrongEntryIn f apex room base from c Device = Unit {0}
NamesWrongEntryIn f apex room base from c Blank = Unit {0}
NamesWrongEntryIn f apex room base from c (Damaged position) = IsWrongEntryIn f apex room base from c position
NamesWrongEntryIn f apex room base from c Geometry = Unit {0}
NamesWrongEntryIn f apex room base from c OutOfMemory = Unit {0}

-- where the bank begins that this root names, where it ends, and where its journal is read from
abbrev pub bank_at : Shape → Root → ℕ
bank_at s r = 1 + bank_number r.bank * (s.snapshot + s.journal)

abbrev pub bank_until : Shape → Root → ℕ
bank_until s r = bank_at s r + s.snapshot + s.journal

abbrev pub journal_from : Shape → Root → Cursor
journal_from s r = record {
  at = bank_at s r + s.snapshot;
  until = bank_until s r;
  version = r.base;
  opened = r.bank_open;
}

-- The snapshot's first sector is named: its octets are those of no zone.
pub record IsNoZoneAtIn (f : Format) (s : Shape) (x : List ℕ) (r : Root) (c : Content)
    (position : ℕ) : Type 0 where
  pub place_is : position ≡ bank_at s r
  pub octets : List ℕ
  pub holds : HoldsSnapshotIn f x (bank_at s r) c octets
  pub none : IsNoSnapshot s.apex octets

-- The snapshot is a zone's, and the sector is wrong in the journal after it.
pub record IsWrongBehindIn (f : Format) (s : Shape) (x : List ℕ) (r : Root) (c : Content)
    (position : ℕ) : Type 0 where
  pub base : List Record
  pub holds : HoldsSnapshotIn f x (bank_at s r) c (flat_map plain base)
  pub valid : IsZone (record { apex = s.apex; records = base })
  pub wrong : IsWrongEntryIn f s.apex s.snapshot base (journal_from s r) c position

-- The sector is wrong in the bank that the root x names: it is neither zeros nor its own, or not what is due
-- there.
abbrev pub IsWrongBankIn : Format → Shape → List ℕ → Root → Content → ℕ → Type 0
IsWrongBankIn f s x r c position =
    IsSpoilt f c (bank_at s r) (bank_until s r) position
    ⊎ IsBadSnapshotIn f x (bank_at s r) c (ReadError.Damaged position)
    ⊎ IsNoZoneAtIn f s x r c position
    ⊎ IsWrongBehindIn f s x r c position

-- Damaged names the sector that is wrong: the first, which is no root that can be opened once more, or one of
-- the bank that it names.
abbrev pub NamesWrongIn : Format → Shape → Content → OpenError → Type 0
NamesWrongIn f s c Device = Unit {0}
NamesWrongIn f s c Blank = Unit {0}
NamesWrongIn f s c (Damaged position) =
    ((position ≡ 0) × (IsSoundIn f (sector_at c 0) → ⊥))
    ⊎ ((r : Root) × SaysRootIn f (sector_at c 0) r × IsWrongBankIn f s (sector_at c 0) r c position)
NamesWrongIn f s c Geometry = Unit {0}
NamesWrongIn f s c OutOfMemory = Unit {0}

abbrev pub NamesWrong : Shape → Content → OpenError → Type 0
NamesWrong s c e = NamesWrongIn Two s c e

-- After entries that are right, of which each sector is intact, reading reaches the sector: where the next
-- head is due, or a body that the head there announces.
pub record IsReachedEntryIn (f : Format) (apex : Labels) (room : ℕ) (base : List Record) (from : Cursor)
    (c : Content) (position : ℕ) : Type 0 where
  pub steps : List ReadChange
  pub at : Cursor
  pub newest : List Record
  pub read : AreStepsIn f apex room c from base steps at newest
  pub own : (q : ℕ) → from.at ≤ q → q < at.at → IsIntactIn f q (sector_at c q)
  pub due : at.at < at.until
  pub reached : IsReachedAt f at c position

-- The snapshot is a zone's and each of its sectors is intact, and the sector is reached in the journal after
-- it.
pub record IsReachedBehindIn (f : Format) (s : Shape) (x : List ℕ) (r : Root) (c : Content)
    (position : ℕ) : Type 0 where
  pub base : List Record
  pub holds : HoldsSnapshotIn f x (bank_at s r) c (flat_map plain base)
  pub own : AreIntact f c (bank_at s r) (parts_in f x)
  pub valid : IsZone (record { apex = s.apex; records = base })
  pub reached : IsReachedEntryIn f s.apex s.snapshot base (journal_from s r) c position

-- Reading reaches the sector in the bank that the root x names: it is a part of the snapshot, or of the
-- journal after that.
abbrev pub IsReachedBankIn : Format → Shape → List ℕ → Root → Content → ℕ → Type 0
IsReachedBankIn f s x r c position =
    ((index : ℕ) × (position ≡ bank_at s r + index) × IsReachedPartIn f x (bank_at s r) c index)
    ⊎ IsReachedBehindIn f s x r c position

-- Reading a store of this shape reaches the sector: it is the first; or, after the root of such a store, one
-- of the bank that the root names.
abbrev pub IsReachedIn : Format → Shape → Content → ℕ → Type 0
IsReachedIn f s c position =
    ((position ≡ 0) × (0 < length c))
    ⊎ ((r : Root) × IsFoundRootIn f (sizes_of s) (length c) (sector_at c 0) r
    × IsReachedBankIn f s (sector_at c 0) r c position)

abbrev pub IsSectorRead : Shape → Content → ℕ → Type 0
IsSectorRead s c position = IsReachedIn Two s c position
