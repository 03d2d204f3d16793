-- What opening a store finds, and what it leaves of the device.
use Rattle.std.specs.Prelude.{◌≡◌, ◌⊎◌, ◌≤◌, ◌<◌, ◌+◌, ◌-◌, ◌*◌, ◌^◌, ℕ, List, [], ◌∷◌, drop, length}
use Rattle.std.specs.Prelude.{Result, MatchResult}
use Rattle.dns_records.specs.Record.{Record}
use Rattle.dns_changes.specs.Change.{Change}
use Rattle.dns_sectors.specs.Device.{Content, Only, LeavesOnly}
use Rattle.dns_sectors.specs.Crash.{Write, SomeApplied}
use Rattle.dns_layout.specs.Sector.{sector_at, number, open_count, bank_open}
use Rattle.dns_layout.specs.Forms.{SaysRoot, SaysRootIn}
use Rattle.dns_layout.specs.Own.{NoneIntact, IsIntactIn, IsAltered}
use Rattle.dns_layout.specs.Journal.{AllBehind, place_behind}
use Rattle.dns_layout.specs.Store.{Sizes, Stored, OpensBy, IsRootIn, all_sectors, journal_place, bank_end}
use Rattle.dns_layout.specs.Store.{OpensAsIn, version_of}
use Rattle.dns_layout.specs.declared.format.Format.{Format}
use Rattle.dns_layout.specs.declared.format.Format.TheVariants.{Two}
use Rattle.dns_layout.specs.declared.root.Root.{Root}
use Rattle.dns_journal.specs.declared.read.Cursor.{Cursor}
use Rattle.dns_store.specs.declared.root.OpenError.{OpenError}
use Rattle.dns_store.specs.declared.root.OpenError.TheVariants.{Device, Blank, Damaged, Geometry, OutOfMemory}
use Rattle.dns_store.specs.Versions.{Shape, Kept, Opened, newest_after, opened_again}
use Rattle.dns_sectors.specs.declared.device.Sectors.{Ghosts}
use Rattle.dns_journal.specs.State.{device_of, newest_number_of}
use Rattle.dns_zone.specs.Zone.{Zone}
use Rattle.dns_store.specs.declared.kept_store.KeptStore.{KeptStore}
use Rattle.dns_store.specs.declared.recovery.Recovered.{Recovered}
use Rattle.dns_store.specs.Opens.{IsPartOf, IsPartOfIn, base_of, fresh, opens, sizes_of}
use Rattle.dns_store.specs.Damage.{NamesAlteredIn, NamesAltered, IsReachedIn, bank_at, bank_until}
use Rattle.dns_store.specs.Holding.{HoldsInMemory, HoldsVersions}
use Rattle.dns_store.specs.Checkpoint.{AllZones, AllFit}
use Rattle.dns_store.specs.Plain.{sectors_of_snapshot}
use Rattle.dns_store.specs.Room.{sectors_left}
use Rattle.dns_store.specs.Recovered.{AreLed}

-- sizes that a store may have
pub record IsInRange (snapshot journal : ℕ) : Type 0 where
  pub parts : snapshot ≤ 65536
  pub entries : journal ≤ 65536

-- The first sector is a root of these sizes, and the device has as many sectors as they take.
abbrev pub HasRootIn : Format → Sizes → ℕ → List ℕ → Type 0
HasRootIn f sizes count first = IsRootIn f sizes first × (count ≡ all_sectors sizes)

-- What was read is what is stored.
pub record IsReadIn (f : Format) (sizes : Sizes) (c : Content) (o : Opened) (s : Stored)
    (root : Root) (end : Cursor) (base : List Record) (changes : List Change) (newest : List Record)
    : Type 0 where
  pub says : SaysRootIn f (sector_at c 0) root
  pub until_is : end.until ≡ bank_end sizes (number (sector_at c 0))
  pub at_is : end.at ≡ place_behind (journal_place sizes (number (sector_at c 0))) s.entries
  pub version_is : end.version ≡ version_of s
  pub base_is : base ≡ base_of o
  pub led : AreLed (base_of o) (drop o.base o.versions) changes
  pub newest_is : newest ≡ newest_after o.loaded o.versions

abbrev pub IsRead : Sizes → Content → Opened → Stored → Root → Cursor → List Record → List Change
    → List Record → Type 0
IsRead sizes c o s root end base changes newest = IsReadIn Two sizes c o s root end base changes newest

-- All that was recovered is what is stored.
abbrev pub IsAllRead : {I : Type 0} → Format → Shape → Content → Opened → Stored → Recovered I → Type 0
IsAllRead f shape c o s r =
    IsReadIn f (sizes_of shape) c o s r.root r.end r.base.records r.changes.items r.newest.records

-- What was recovered is of a device of so many sectors, which all are of its two banks but for the first: the
-- next entry goes there, and the root can be raised.
abbrev pub HasPlace : {I : Type 0} → ℕ → Recovered I → Type 0
HasPlace count r =
    (r.end.until ≤ count) × (r.end.at ≤ r.end.until) × (r.end.until ≤ 2 ^ 20)
    × (r.root.open_count < 2 ^ 64 - 1) × (0 < count)
    × (1 + 2 * (r.root.snapshot_room + r.root.journal_room) ≡ count) × (count ≤ 2 ^ 20)

-- Of each sector of an honest device that is reached by reading a store of this shape, and that is neither
-- zeros nor its own, P.
abbrev pub EachSpoilt : {D : Type 0} → Ghosts D → Format → Shape → D → (ℕ → Type 0) → Type 0
EachSpoilt g f shape device P =
    g.is_honest device → IsInRange shape.snapshot shape.journal
    → (position : ℕ) → IsReachedIn f shape (g.seen device) position
    → (IsIntactIn f position (sector_at (g.seen device) position) → ⊥)
    → P position

-- Why a store that was opened so often is not opened again: the device failed, memory was refused, or it was
-- opened too often.
abbrev pub IsNotReopened : ℕ → OpenError → Type 0
IsNotReopened openings e = (e ≡ Device) ⊎ (e ≡ OutOfMemory) ⊎ ((e ≡ Damaged 0) × (2 ^ 64 - 1 ≤ openings))

-- The position is that of the root, or in the bank that the root names.
abbrev pub IsSectorInUseIn : Format → Shape → Content → ℕ → Type 0
IsSectorInUseIn f shape c position =
    (position ≡ 0)
    ⊎ ((r : Root) × SaysRootIn f (sector_at c 0) r × (bank_at shape r ≤ position)
    × (position < bank_until shape r))

abbrev pub IsSectorInUse : Shape → Content → ℕ → Type 0
IsSectorInUse shape c position = IsSectorInUseIn Two shape c position

-- The sector that is named is the root, or one of the bank that it names.
abbrev pub NamesUsedIn : Format → Shape → Content → OpenError → Type 0
NamesUsedIn f shape c Device = ⊥
NamesUsedIn f shape c Blank = ⊥
NamesUsedIn f shape c (Damaged position) = IsSectorInUseIn f shape c position
NamesUsedIn f shape c Geometry = ⊥
NamesUsedIn f shape c OutOfMemory = ⊥

-- Why a device of which this content was altered is refused: as one that isn't opened again is, or by the
-- name of a sector in use that was altered.
abbrev pub RefusesAltered : Format → Shape → Content → Content → OpenError → Type 0
RefusesAltered f shape before now e =
    IsNotReopened (open_count (sector_at before 0)) e
    ⊎ (NamesAlteredIn f before now e × NamesUsedIn f shape now e)

-- Of each store of this shape on a content of which an honest device's is an altered one: all of it is read;
-- or why it isn't.
abbrev pub ReadsAltered : {D I : Type 0} → Ghosts D → Format → Shape → D → Result (Recovered I) OpenError
    → Type 0
ReadsAltered g f shape device result =
    g.is_honest device → IsInRange shape.snapshot shape.journal
    → (c : Content) → IsAltered f c (g.seen device)
    → (o : Opened) (s : Stored) → OpensAsIn f (sizes_of shape) c s → IsPartOfIn f shape o s
    → MatchResult result (IsAllRead f shape c o s) (RefusesAltered f shape c (g.seen device))

-- Each crash leaves a store that opens.
abbrev pub MayOpen : {D : Type 0} → Ghosts D → Shape → D → Type 0
MayOpen g shape device = (c : Content) → g.may_leave device c → (o : Opened) × opens shape o c

-- It opens as a content does that a crash might have left of the device before, opened as often or once more:
-- its version and base were possible together. Which versions there were before that base is on no device, so
-- this holds whichever they were.
abbrev pub OpensAsPossible : {D : Type 0} → Ghosts D → Shape → D → Content → Type 0
OpensAsPossible g shape device c =
    (d : Content) × g.may_leave device d
    × ((o : Opened) → opens shape o d → opens shape o c ⊎ opens shape (opened_again o) c)

-- It is one of these sectors, at its position.
abbrev pub IsOneOf : List Write → ℕ → List ℕ → Type 0
IsOneOf [] position x = ⊥
IsOneOf (w ∷ ws) position x = ((position ≡ w.0) × (x ≡ w.1)) ⊎ IsOneOf ws position x

-- A sector is named that was altered, and stands there so: the root, or one of the bank that it names.
abbrev pub NamesInUse : Shape → Opened → Content → OpenError → Type 0
NamesInUse shape o c Device = ⊥
NamesInUse shape o c Blank = ⊥
NamesInUse shape o c (Damaged position) =
    IsOneOf o.altered position (sector_at c position) × IsSectorInUse shape c position
NamesInUse shape o c Geometry = ⊥
NamesInUse shape o c OutOfMemory = ⊥

-- Why a content that opens as these versions isn't opened: as one isn't that was opened so often; or a sector
-- in use was altered, and is named.
abbrev pub IsNotOpenedAs : Shape → Opened → Content → OpenError → Type 0
IsNotOpenedAs shape o c e = IsNotReopened o.openings e ⊎ NamesInUse shape o c e

-- Why it isn't opened, of a content that a crash might have left of the device before.
abbrev pub StopsPossible : {D : Type 0} → Ghosts D → Shape → D → OpenError → Type 0
StopsPossible g shape device e =
    (d : Content) × g.may_leave device d × ((o : Opened) → opens shape o d → IsNotOpenedAs shape o d e)

abbrev pub store_device : {D I : Type 0} {g : Ghosts D} → KeptStore D I g → D
store_device store = device_of store.journal

-- A crash at any moment since then leaves what has P.
abbrev pub StoreLeavesOnly : {D I : Type 0} {g : Ghosts D} → KeptStore D I g → KeptStore D I g
    → (Content → Type 0) → Type 0
StoreLeavesOnly {D} {I} {g} old new P =
    LeavesOnly g.moment g.left_since (store_device old) (store_device new) P

-- The device has P, whether its store was opened or it is given back.
abbrev pub OnDevice : {D I : Type 0} {g : Ghosts D} → Result (KeptStore D I g × Zone) (D × OpenError)
    → (D → Type 0) → Type 0
OnDevice result P = MatchResult result (λ r. P (store_device r.0)) (λ e. P e.0)

-- The store keeps these versions.
abbrev pub keeps : {D I : Type 0} {g : Ghosts D} → KeptStore D I g → Kept → Type 0
keeps store k = HoldsVersions store.journal store.base store.changes.items k

-- These versions were read, whatever the device is: the cursor is past the entries of the changes that lead
-- from the base to the newest, the root has the sizes, and each version from the base on is a valid zone that
-- fits in a snapshot.
pub record IsFoundSo (shape : Shape) (o : Opened) (next : Cursor) (root : Root) (base : Zone)
    (changes : List Change) : Type 0 where
  pub number_is : next.version ≡ length o.versions
  pub left_is : next.until - next.at ≡ sectors_left (fresh shape o)
  pub snapshot_room_is : root.snapshot_room ≡ shape.snapshot
  pub journal_room_is : root.journal_room ≡ shape.journal
  pub so_far : o.base ≤ length o.versions
  pub base_is : base ≡ record { apex = shape.apex; records = base_of o }
  pub base_fits : sectors_of_snapshot (base_of o) ≤ shape.snapshot
  pub led : AreLed (base_of o) (drop o.base o.versions) changes
  pub zones : AllZones shape.apex (drop o.base o.versions)
  pub fit : AllFit shape.snapshot (drop o.base o.versions)

-- The store holds in memory what was read, whatever the device is.
abbrev pub HoldsFrom : {D I : Type 0} {g : Ghosts D} → Cursor → Root → Zone → List Change → KeptStore D I g
    → Type 0
HoldsFrom next root base changes store =
    (shape : Shape) (o : Opened)
    → IsFoundSo shape o next root base changes
    → HoldsInMemory store.journal store.base store.changes.items (fresh shape o)

-- If the device is honest, all on it is durable, and but for sectors that were altered it opens by the root
-- as what is stored, with no head ahead of that, and the cursor is past the last entry, and the base and the
-- changes are those of the versions that are stored: the store keeps these from here on.
abbrev pub KeepsFrom : {D I : Type 0} {g : Ghosts D} → D → Cursor → Root → Zone → List Change
    → KeptStore D I g → Type 0
KeepsFrom {D} {I} {g} device next root base changes store =
    (shape : Shape) (o : Opened) (s : Stored) (x : List ℕ) (parts : List (List ℕ)) (c : Content)
    → g.is_honest device → Only (g.seen device) (g.may_leave device)
    → NoneIntact s.altered → SomeApplied s.altered c (g.seen device)
    → OpensBy (sizes_of shape) c x parts s → SaysRoot x root
    → bank_open x ≤ open_count x
    → AllBehind (open_count x) (version_of s) c → IsPartOf shape o s
    → next.until ≡ bank_end (sizes_of shape) (number x)
    → next.at ≡ place_behind (journal_place (sizes_of shape) (number x)) s.entries
    → next.version ≡ version_of s → next.opened ≡ open_count x → open_count x ≡ o.openings
    → base ≡ record { apex = shape.apex; records = base_of o }
    → AreLed (base_of o) (drop o.base o.versions) changes
    → keeps store (fresh shape o)

-- The store keeps these versions from here on, and this is the newest.
pub record IsTaken {D I : Type 0} {g : Ghosts D} (shape : Shape) (o : Opened) (store : KeptStore D I g)
    (newest : Zone)
    : Type 0 where
  pub keeps_them : keeps store (fresh shape o)
  pub newest_is : newest ≡ record { apex = shape.apex; records = newest_after o.loaded o.versions }

-- The store keeps from here on what a crash might have left of the device before, opened once more, whichever
-- versions there were.
abbrev pub TakesPossible : {D I : Type 0} {g : Ghosts D} → Shape → D → KeptStore D I g → Zone → Type 0
TakesPossible {g} shape device store newest =
    (d : Content) × g.may_leave device d
    × ((o : Opened) → opens shape o d → IsTaken shape (opened_again o) store newest)

-- The answer is that for what opens as these versions: the newest one and its number, the base, and the
-- changes from there.
pub record AnswersAs {D I : Type 0} {g : Ghosts D} (shape : Shape) (o : Opened) (store : KeptStore D I g)
    (newest : Zone)
    : Type 0 where
  pub newest_is : newest ≡ record { apex = shape.apex; records = newest_after o.loaded o.versions }
  pub number_is : newest_number_of store.journal ≡ length o.versions
  pub base_is : store.base ≡ record { apex = shape.apex; records = base_of o }
  pub led : AreLed (base_of o) (drop o.base o.versions) store.changes.items

-- Where each crash leaves a store that opens, one of them is taken; or why it isn't opened.
abbrev pub OpensPossible : {D I : Type 0} {g : Ghosts D} → Shape → D
    → Result (KeptStore D I g × Zone) (D × OpenError) → Type 0
OpensPossible {D} {I} {g} shape device result =
    MayOpen g shape device
    → MatchResult result (λ r. TakesPossible shape device r.0 r.1) (λ e. StopsPossible g shape device e.1)

-- Where the device's content is an altered one of what opens as these versions: the answer is that for them;
-- or why that isn't opened again; or a sector that was altered is named.
abbrev pub AnswersAltered : {D I : Type 0} {g : Ghosts D} → Shape → D
    → Result (KeptStore D I g × Zone) (D × OpenError) → Type 0
AnswersAltered {D} {I} {g} shape device result =
    (c : Content) (o : Opened) → opens shape o c → o.altered ≡ [] → IsAltered Two c (g.seen device)
    → MatchResult result (λ r. AnswersAs shape o r.0 r.1)
    (λ e. IsNotReopened o.openings e.1 ⊎ NamesAltered c (g.seen device) e.1)
