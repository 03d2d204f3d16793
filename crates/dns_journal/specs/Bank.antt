-- A bank that is written whole, and a root that is turned to it.
use Rattle.std.specs.Prelude.{◌≡◌, ◌⊎◌, ◌≤◌, true, ℕ, ◌+◌, ◌-◌, ◌*◌, List, [], ◌∷◌, ◌++◌, length, take, drop}
use Rattle.std.specs.Prelude.{replicate}
use Rattle.std.specs.List.{flat_map}
use Rattle.dns_sectors.specs.Device.{Content, Only}
use Rattle.dns_sectors.specs.Crash.{Write, SomeApplied}
use Rattle.dns_layout.specs.Apex.{apex_octets}
use Rattle.dns_layout.specs.Sector.{open_count, sequence_number, number, bank_open, payload, payload_room}
use Rattle.dns_layout.specs.Sector.{clear}
use Rattle.dns_layout.specs.Sector.{entry_sectors, snapshot_sectors}
use Rattle.dns_layout.specs.Own.{Altered, AreOwn}
use Rattle.dns_layout.specs.Forms.{SaysRoot, bank_number}
use Rattle.dns_layout.specs.Journal.{Entry, entry_size, entry_octets, IsNextEntry, IsBatch, AllBehind}
use Rattle.dns_layout.specs.Journal.{writes_from, place_behind, version_behind}
use Rattle.dns_layout.specs.Store.{Sizes, Stored, OpensBy, OpensAs, IsTidy, AreParts, version_of}
use Rattle.dns_layout.specs.Store.{snapshot_place, journal_place, bank_end, other_of}
use Rattle.dns_layout.specs.declared.root.Root.{Root}
use Rattle.dns_layout.specs.declared.part.SnapshotPart.{SnapshotPart}
use Rattle.dns_changes.specs.Change.{Change}
use Rattle.dns_changes.specs.Entry.{entry}
use Rattle.dns_journal.specs.declared.journal.Journal.{Journal}
use Rattle.dns_journal.specs.declared.read.Cursor.{Cursor}
use Rattle.dns_journal.specs.State.{IsOpenedTimes}
use Rattle.dns_sectors.specs.declared.device.Sectors.{Ghosts}

-- the octets of a snapshot that its part with this index holds
abbrev pub piece : List ℕ → ℕ → List ℕ
piece octets index = take payload_room (drop (payload_room * index) octets)

-- the part with this index
abbrev pub part_of : ℕ → ℕ → ℕ → SnapshotPart
part_of opened base index = record { bank_open = opened; base = base; index = index }

-- These octets, with zeros after them, are a sector's payload.
abbrev pub HoldsOctets : List ℕ → List ℕ → Type 0
HoldsOctets x octets = payload x ≡ octets ++ replicate (payload_room - length octets) 0

-- So many parts of a snapshot are put there from this position on: they hold its octets, and zeros after
-- them.
pub record PushesParts (at opened base : ℕ) (octets : List ℕ) (count : ℕ)
    (old new : List Write) : Type 0 where
  pub sectors : List (List ℕ)
  pub count_is : length sectors ≡ count
  pub are : (x : List ℕ) → bank_open x ≡ opened → sequence_number x ≡ base → AreParts x 0 sectors
  pub holds : flat_map payload sectors
      ≡ take (payload_room * count) octets ++ replicate (payload_room * count - length octets) 0
  pub own : AreOwn (writes_from at sectors)
  pub written : new ≡ old ++ writes_from at sectors

-- the sectors of entries, each head with its bodies after it
abbrev pub sectors_of_entries : List Entry → List (List ℕ)
sectors_of_entries [] = []
sectors_of_entries (e ∷ es) = e.head ∷ (e.bodies ++ sectors_of_entries es)

-- how many sectors the entry of a change takes
abbrev pub sectors_for : Change → ℕ
sectors_for c = entry_sectors (length (entry c))

-- An entry with these octets is put at the cursor, whose open count it has.
pub record PushesEntry (old new : Cursor) (octets : List ℕ) (before after : List Write) : Type 0 where
  pub entry : Entry
  pub holds : entry_octets entry ≡ octets
  pub next : IsNextEntry old.until old.at old.version old.opened entry
  pub opened : open_count entry.head ≡ old.opened
  pub size : entry_size entry ≡ entry_sectors (length octets)
  pub own : AreOwn (writes_from old.at (entry.head ∷ entry.bodies))
  pub written : after ≡ before ++ writes_from old.at (entry.head ∷ entry.bodies)
  pub position : new.at ≡ old.at + entry_size entry
  pub until_stays : new.until ≡ old.until
  pub version_is : new.version ≡ old.version + 1
  pub opened_stays : new.opened ≡ old.opened

-- The entry holds the change.
pub record IsEntryOf (c : Change) (e : Entry) : Type 0 where
  pub octets_are : entry_octets e ≡ entry c
  pub size_is : entry_size e ≡ entry_sectors (length (entry c))

-- The entries hold the changes.
abbrev pub AreEntries : List Change → List Entry → Type 0
AreEntries [] [] = Unit {0}
AreEntries (c ∷ cs) (e ∷ es) = IsEntryOf c e × AreEntries cs es
AreEntries [] (e ∷ es) = ⊥
AreEntries (c ∷ cs) [] = ⊥

-- The entries of these changes are put at the cursor, one after the other.
pub record PushesEntries (old new : Cursor) (changes : List Change) (before after : List Write) : Type 0 where
  pub entries : List Entry
  pub are : AreEntries changes entries
  pub batch : IsBatch old.until old.at old.version old.opened entries
  pub own : AreOwn (writes_from old.at (sectors_of_entries entries))
  pub written : after ≡ before ++ writes_from old.at (sectors_of_entries entries)
  pub position : new.at ≡ place_behind old.at entries
  pub until_stays : new.until ≡ old.until
  pub version_is : new.version ≡ version_behind old.version entries
  pub opened_stays : new.opened ≡ old.opened

-- What is stored begins at a later version, with these octets as its snapshot, and keeps the newest changes
-- alone.
pub record IsTurned (k : Stored) (octets : List ℕ) (changes : List Change) (new : Stored) : Type 0 where
  pub base : new.base + length changes ≡ version_of k
  pub snapshot : new.snapshot ≡ octets
  pub entries : AreEntries changes new.entries
  pub altered : new.altered ≡ k.altered

-- A crash left what was stored, or what is stored after the turn, of a store that was opened so often, but
-- for sectors that were altered before.
abbrev pub LeavesEither : Sizes → Stored → List ℕ → List Change → ℕ → Content → Type 0
LeavesEither shape k octets changes opened =
    Altered k.altered
    (λ c. (OpensAs shape c k ⊎ ((new : Stored) × IsTurned k octets changes new × OpensAs shape c new))
    × IsTidy shape c × IsOpenedTimes opened c)

-- how many sectors a bank has for its snapshot, and for its journal
abbrev pub snapshot_room_of : {D : Type 0} {g : Ghosts D} → Journal D g → ℕ
snapshot_room_of journal = journal.root.snapshot_room

abbrev pub journal_room_of : {D : Type 0} {g : Ghosts D} → Journal D g → ℕ
journal_room_of journal = journal.root.journal_room

-- the two rooms of a bank are those that they were
abbrev pub StayRooms : {D : Type 0} {g : Ghosts D} → Journal D g → Journal D g → Type 0
StayRooms old new =
    (snapshot_room_of new ≡ snapshot_room_of old) × (journal_room_of new ≡ journal_room_of old)

-- the sizes that a root says
abbrev pub sizes_said : Root → Sizes
sizes_said r = record { snapshot = r.snapshot_room; journal = r.journal_room; apex = r.apex }

-- These writes put a snapshot and the entries of changes into a bank, all with this open count, and the
-- cursor is past them.
pub record LaysBank (s : Sizes) (bank opened base : ℕ) (octets : List ℕ) (changes : List Change)
    (ws : List Write) (next : Cursor) : Type 0 where
  pub parts : List (List ℕ)
  pub count : length parts ≡ snapshot_sectors (length octets)
  pub expected : (x : List ℕ) → bank_open x ≡ opened → sequence_number x ≡ base → AreParts x 0 parts
  pub holds : flat_map payload parts
      ≡ take (payload_room * snapshot_sectors (length octets)) octets
      ++ replicate (payload_room * snapshot_sectors (length octets) - length octets) 0
  pub entries : List Entry
  pub are : AreEntries changes entries
  pub batch : IsBatch (bank_end s bank) (journal_place s bank) base opened entries
  pub own : AreOwn ws
  pub written : ws
      ≡ writes_from (snapshot_place s bank) parts ++ writes_from (journal_place s bank)
      (sectors_of_entries entries)
  pub at_is : next.at ≡ place_behind (journal_place s bank) entries
  pub until_is : next.until ≡ bank_end s bank
  pub version_is : next.version ≡ version_behind base entries
  pub opened_is : next.opened ≡ opened

-- The writes put what is to be stored into the bank that the root x doesn't name, and r is the root that
-- names it. Both say that the bank that isn't in use is cleared.
pub record Turns (s : Sizes) (k new : Stored) (x : List ℕ) (r : Root) (ws : List Write) : Type 0 where
  pub opened : r.open_count ≡ open_count x
  pub was_clear : clear x ≡ 1
  pub is_clear : r.is_clear ≡ true
  pub bank : bank_number r.bank ≡ other_of (number x)
  pub bank_open_is : r.bank_open ≡ open_count x
  pub base : r.base ≡ new.base
  pub length_is : r.snapshot_length ≡ length new.snapshot
  pub snapshot_room : r.snapshot_room ≡ s.snapshot
  pub journal_room : r.journal_room ≡ s.journal
  pub apex : apex_octets r.apex ≡ apex_octets s.apex
  pub fits : snapshot_sectors (length new.snapshot) ≤ s.snapshot
  pub newest : version_of new ≡ version_of k
  pub parts : List (List ℕ)
  pub count : length parts ≡ snapshot_sectors (length new.snapshot)
  pub expected : (y : List ℕ) → bank_open y ≡ open_count x → sequence_number y ≡ new.base → AreParts y 0 parts
  pub holds : flat_map payload parts
      ≡ take (payload_room * snapshot_sectors (length new.snapshot)) new.snapshot
      ++ replicate (payload_room * snapshot_sectors (length new.snapshot) - length new.snapshot) 0
  pub batch : IsBatch (bank_end s (other_of (number x))) (journal_place s (other_of (number x))) new.base
      (open_count x) new.entries
  pub own : AreOwn ws
  pub written : ws ≡ writes_from (snapshot_place s (other_of (number x))) parts ++ writes_from
      (journal_place s (other_of (number x))) (sectors_of_entries new.entries)

-- Of each turn that these writes and this root make of what an honest device holds, but for sectors that were
-- altered, P: everything on it is durable, and no head on it is ahead of what is stored.
abbrev pub EachTurn : {D : Type 0} → Ghosts D → D → Root → List Write
    → (Sizes → Stored → Stored → List ℕ → Type 0) → Type 0
EachTurn g device r ws P =
    (s : Sizes) (k new : Stored) (x : List ℕ) (parts : List (List ℕ)) (c : Content)
    → g.is_honest device → Only (g.seen device) (g.may_leave device)
    → SomeApplied k.altered c (g.seen device)
    → OpensBy s c x parts k
    → bank_open x ≤ open_count x
    → AllBehind (open_count x) (version_of k) c
    → Turns s k new x r ws
    → P s k new x

-- It opens as what was to be stored, by this root, and no head anywhere is ahead.
pub record IsTurnedTo (s : Sizes) (new : Stored) (r : Root) (opened : ℕ) (c : Content) : Type 0 where
  pub root : List ℕ
  pub parts : List (List ℕ)
  pub says : SaysRoot root r
  pub opens : OpensBy s c root parts new
  pub bank : bank_open root ≤ open_count root
  pub behind : AllBehind (open_count root) (version_of new) c
  pub opened_is : open_count root ≡ opened
