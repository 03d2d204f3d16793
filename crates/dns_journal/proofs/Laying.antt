-- The sectors of a bank, pushed one after the other.
use Rattle.std.proofs.Common.{◌≡◌, ℕ, zero, suc, ◌+◌, ◌-◌, ◌*◌, ◌≤◌, ◌<◌, List, [], ◌∷◌, ◌++◌, length, take, drop, replicate, refl, sym, ◌∙◌, ap, subst, arith, append_assoc, length-append}
use Rattle.std.proofs.lemmas.List.{append-nil, take_more}
use Rattle.std.proofs.lemmas.List.Sums.{sum_by-drop_more, sum_by-cons}
use Rattle.std.specs.Prelude.{min, sum_by, get_or}
use Rattle.std.specs.List.{flat_map}
use Rattle.dns_sectors.specs.Crash.{Write}
use Rattle.dns_sectors.specs.Phase.{pairs}
use Rattle.dns_sectors.specs.declared.phase.SectorWrite.{SectorWrite}
use Rattle.dns_layout.specs.Sector.{payload, payload_room, snapshot_sectors}
use Rattle.dns_layout.specs.Forms.{SaysPart}
use Rattle.dns_layout.specs.Journal.{Entry, entry_size, IsNextEntry, IsBatch, writes_from, place_behind, version_behind}
use Rattle.dns_layout.specs.Own.{Own, AreOwn}
use Rattle.dns_layout.specs.Store.{Sizes, IsPart, AreParts, snapshot_place, journal_place, bank_end, other_of}
use Rattle.dns_layout.specs.declared.format.Format.TheVariants.{Two}
use Rattle.dns_changes.specs.Change.{Change}
use Rattle.dns_changes.specs.Entry.{entry}
use Rattle.dns_journal.specs.declared.read.Cursor.{Cursor}
use Rattle.dns_journal.specs.Staging.{Stages}
use Rattle.dns_journal.specs.Bank.{piece, part_of, HoldsOctets, sectors_of_entries, sectors_for, AreEntries, PushesParts, PushesEntry, PushesEntries, LaysBank}
use Rattle.dns_journal.proofs.Looking.{flat_more}
use Rattle.dns_journal.proofs.Pushing.{writes_more, part_more, front_is}
use Rattle.dns_journal.proofs.Staged.{batch_more}
use Rattle.dns_journal.proofs.Bank.{position-more, version-more}
use Rattle.dns_journal.proofs.Altered.{own_append}
use Rattle.dns_journal.proofs.Turning.{sectors_append}
use Rattle.dns_journal.proofs.Standing.{sectors_within}

pub part_is : (index from size : ℕ) (octets left : List ℕ) → from ≡ payload_room * index → left ≡ drop from octets → size ≡ min (length left) payload_room → take size left ≡ piece octets index
part_is index from size octets left from_is left_is size_is = ap (λ n. take n left) size_is ∙ front_is octets left index (left_is ∙ ap (λ n. drop n octets) from_is)

pub parts_push : (x : List ℕ) (i : ℕ) (xs : List (List ℕ)) (y : List ℕ) → AreParts x i xs → IsPart x (i + length xs) y → AreParts x i (xs ++ y ∷ [])
parts_push x i [] y are is = (subst (λ n. IsPart x n y) (omega arith) is, tt)
parts_push x i (z ∷ xs) y are is = (are.0, parts_push x (i + 1) xs y are.1 (subst (λ n. IsPart x n y) (omega arith) is))

pub parts_before : (octets n : ℕ) → n < snapshot_sectors octets → payload_room * n ≤ octets
unfolding snapshot_sectors
parts_before octets n lt = omega (arith, lt)

pub parts_none : (at opened base : ℕ) (octets : List ℕ) (old : List Write) → PushesParts at opened base octets 0 old old
parts_none at opened base octets old = record {
  sectors = [];
  count_is = refl;
  are = λ x opened base. tt;
  holds = let e : 0 ≡ payload_room * 0 - length octets = omega arith in ap (λ n. replicate {A = ℕ} n 0) e;
  own = tt;
  written = sym (append-nil old);
}

-- one part more
pub parts_more : (at opened base : ℕ) (octets : List ℕ) (i : ℕ) (old mid new : List Write) (y : List ℕ) → PushesParts at opened base octets i old mid → payload_room * i ≤ length octets → SaysPart y (part_of opened base i) → HoldsOctets y (piece octets i) → Own (at + i) y
    → new ≡ mid ++ (at + i, y) ∷ [] → PushesParts at opened base octets (i + 1) old new
parts_more at opened base octets i old mid new y pushes le says held y_own new_is = record {
  sectors = pushes.sectors ++ y ∷ [];
  count_is = omega (arith, length-append pushes.sectors (y ∷ []), pushes.count_is);
  are = λ x same_open same_base. parts_push x 0 pushes.sectors y (pushes.are x same_open same_base) (record {
    tagged = says.tagged;
    bank_open = says.opened_is ∙ sym same_open;
    base = says.version_is ∙ sym same_base;
    numbered = omega (arith, says.count_is, pushes.count_is);
  });
  holds = flat_more Two pushes.sectors y ∙ ap (λ (l : List ℕ). flat_map payload pushes.sectors ++ l) held ∙ part_more octets (flat_map payload pushes.sectors) (piece octets i) i le pushes.holds refl;
  own = subst (λ (ws : List Write). AreOwn ws) (sym (writes_more pushes.sectors y at))
      (own_append (writes_from at pushes.sectors) ((at + length pushes.sectors, y) ∷ []) pushes.own ((λ _. subst (λ n. Own (at + n) y) (sym pushes.count_is) y_own), tt));
  written =
      new_is ∙ ap (λ (l : List Write). l ++ (at + i, y) ∷ []) pushes.written ∙ append_assoc old (writes_from at pushes.sectors) ((at + i, y) ∷ [])
      ∙ ap (λ n. old ++ (writes_from at pushes.sectors ++ (at + n, y) ∷ [])) (sym pushes.count_is) ∙ ap (λ (l : List Write). old ++ l) (sym (writes_more pushes.sectors y at));
}

-- An entry's head and then its bodies are pushed.
pub entry_pushed : (old new : Cursor) (before middle after : List SectorWrite) (octets : List ℕ) → Stages old new middle after before middle octets → PushesEntry old new octets (pairs before) (pairs after)
entry_pushed old new before middle after octets stages = record {
  entry = stages.entry;
  holds = stages.holds;
  next = stages.next;
  opened = stages.opened;
  size = stages.size;
  own = ((λ _. stages.head_own), stages.bodies_own);
  written =
      stages.bodies_are ∙ ap (λ (l : List Write). l ++ writes_from (old.at + 1) stages.entry.bodies) stages.heads_are
      ∙ append_assoc (pairs before) ((old.at, stages.entry.head) ∷ []) (writes_from (old.at + 1) stages.entry.bodies);
  position = stages.position;
  until_stays = stages.until_stays;
  version_is = stages.version_is;
  opened_stays = stages.opened_stays;
}

entries_push : (cs : List Change) (es : List Entry) (c : Change) (e : Entry) → AreEntries cs es → AreEntries (c ∷ []) (e ∷ []) → AreEntries (cs ++ c ∷ []) (es ++ e ∷ [])
entries_push [] [] c e are last = last
entries_push [] (f ∷ es) c e are last = absurd are
entries_push (d ∷ cs) [] c e are last = absurd are
entries_push (d ∷ cs) (f ∷ es) c e are last = (are.0, entries_push cs es c e are.1 last)

sectors_push : (es : List Entry) (e : Entry) → sectors_of_entries (es ++ e ∷ []) ≡ sectors_of_entries es ++ (e.head ∷ e.bodies)
sectors_push [] e = ap (λ (l : List (List ℕ)). e.head ∷ l) (append-nil e.bodies)
sectors_push (f ∷ es) e =
    ap (λ (l : List (List ℕ)). f.head ∷ (f.bodies ++ l)) (sectors_push es e) ∙ ap (λ (l : List (List ℕ)). f.head ∷ l) (sym (append_assoc f.bodies (sectors_of_entries es) (e.head ∷ e.bodies)))

pub sectors_place : (es : List Entry) (at : ℕ) → at + length (sectors_of_entries es) ≡ place_behind at es
sectors_place [] at = omega arith
sectors_place (e ∷ es) at = omega (arith, length-append e.bodies (sectors_of_entries es)) ∙ sectors_place es (at + entry_size e)

-- one entry more
pub entries_more : (old mid new : Cursor) (changes : List Change) (c : Change) (before middle after : List Write) → PushesEntries old mid changes before middle → PushesEntry mid new (entry c) middle after → PushesEntries old new (changes ++ c ∷ []) before after
entries_more old mid new changes c before middle after all one =
    let e = one.entry in
    let next : IsNextEntry old.until (place_behind old.at all.entries) (version_behind old.version all.entries) old.opened e =
    subst (λ u. IsNextEntry u (place_behind old.at all.entries) (version_behind old.version all.entries) old.opened e) all.until_stays
    (subst (λ a. IsNextEntry mid.until a (version_behind old.version all.entries) old.opened e) all.position
    (subst (λ v. IsNextEntry mid.until mid.at v old.opened e) all.version_is (subst (λ o. IsNextEntry mid.until mid.at mid.version o e) all.opened_stays one.next))) in
    record {
      entries = all.entries ++ e ∷ [];
      are = entries_push changes all.entries c e all.are (record { octets_are = one.holds; size_is = one.size }, tt);
      batch = batch_more all.entries e old.until old.at old.version old.opened all.batch next (one.opened ∙ all.opened_stays);
      own =
          subst (λ (xs : List (List ℕ)). AreOwn (writes_from old.at xs)) (sym (sectors_push all.entries e))
          (subst (λ (ws : List Write). AreOwn ws) (sym (sectors_append (sectors_of_entries all.entries) (e.head ∷ e.bodies) old.at))
          (own_append (writes_from old.at (sectors_of_entries all.entries)) (writes_from (old.at + length (sectors_of_entries all.entries)) (e.head ∷ e.bodies)) all.own
          (subst (λ n. AreOwn (writes_from n (e.head ∷ e.bodies))) (all.position ∙ sym (sectors_place all.entries old.at)) one.own)));
      written =
          one.written ∙ ap (λ (l : List Write). l ++ writes_from mid.at (e.head ∷ e.bodies)) all.written ∙ append_assoc before (writes_from old.at (sectors_of_entries all.entries)) (writes_from mid.at (e.head ∷ e.bodies))
          ∙ ap (λ n. before ++ (writes_from old.at (sectors_of_entries all.entries) ++ writes_from n (e.head ∷ e.bodies))) (all.position ∙ sym (sectors_place all.entries old.at))
          ∙ ap (λ (l : List Write). before ++ l) (sym (sectors_append (sectors_of_entries all.entries) (e.head ∷ e.bodies) old.at)) ∙ ap (λ (l : List (List ℕ)). before ++ writes_from old.at l) (sym (sectors_push all.entries e));
      position = one.position ∙ ap (λ n. n + entry_size e) all.position ∙ sym (position-more all.entries (e ∷ []) old.at);
      until_stays = one.until_stays ∙ all.until_stays;
      version_is = one.version_is ∙ ap (λ n. n + 1) all.version_is ∙ sym (version-more all.entries (e ∷ []) old.version);
      opened_stays = one.opened_stays ∙ all.opened_stays;
    }

pub entries_count : (cs : List Change) (es : List Entry) → AreEntries cs es → length es ≡ length cs
entries_count [] [] are = refl
entries_count [] (e ∷ es) are = absurd are
entries_count (c ∷ cs) [] are = absurd are
entries_count (c ∷ cs) (e ∷ es) are = omega (arith, entries_count cs es are.1)

pub entries_behind : (cs : List Change) (es : List Entry) (at : ℕ) → AreEntries cs es → place_behind at es ≡ at + sum_by sectors_for cs
entries_behind [] [] at are = omega arith
entries_behind [] (e ∷ es) at are = absurd are
entries_behind (c ∷ cs) [] at are = absurd are
entries_behind (c ∷ cs) (e ∷ es) at are =
    let rest = entries_behind cs es (at + entry_size e) are.1 in
    let size : entry_size e ≡ sectors_for c = are.0.size_is in
    let sum : place_behind (at + entry_size e) es ≡ at + (sectors_for c + sum_by sectors_for cs) = omega (arith, rest, size) in
    sum ∙ ap (λ n. at + n) (sym (sum_by-cons sectors_for c cs))

pub versions_count : (es : List Entry) (version : ℕ) → version_behind version es ≡ version + length es
versions_count [] version = omega arith
versions_count (e ∷ es) version = versions_count es (version + 1) ∙ omega arith

-- A bank's parts, and the entries after its snapshot's room.
pub lays : (s : Sizes) (bank opened base first : ℕ) (octets : List ℕ) (changes : List Change) (next new : Cursor) (middle ws : List Write)
    → first ≡ snapshot_place s bank → next.at ≡ journal_place s bank → next.until ≡ bank_end s bank → next.version ≡ base → next.opened ≡ opened
    → PushesParts first opened base octets (snapshot_sectors (length octets)) [] middle → PushesEntries next new changes middle ws → LaysBank s bank opened base octets changes ws new
lays s bank opened base first octets changes next new middle ws first_is at_is until_is version_is opened_is parts entries = record {
  parts = parts.sectors;
  count = parts.count_is;
  expected = parts.are;
  holds = parts.holds;
  entries = entries.entries;
  are = entries.are;
  batch =
      subst (λ u. IsBatch u (journal_place s bank) base opened entries.entries) until_is
      (subst (λ a. IsBatch next.until a base opened entries.entries) at_is (subst (λ v. IsBatch next.until next.at v opened entries.entries) version_is (subst (λ o. IsBatch next.until next.at next.version o entries.entries) opened_is entries.batch)));
  own = subst (λ (l : List Write). AreOwn l) (sym (entries.written ∙ ap (λ (l : List Write). l ++ writes_from next.at (sectors_of_entries entries.entries)) parts.written))
      (own_append (writes_from first parts.sectors) (writes_from next.at (sectors_of_entries entries.entries)) parts.own entries.own);
  written =
      entries.written ∙ ap (λ (l : List Write). l ++ writes_from next.at (sectors_of_entries entries.entries)) parts.written ∙ ap (λ n. writes_from n parts.sectors ++ writes_from next.at (sectors_of_entries entries.entries)) first_is
      ∙ ap (λ n. writes_from (snapshot_place s bank) parts.sectors ++ writes_from n (sectors_of_entries entries.entries)) at_is;
  at_is = entries.position ∙ ap (λ n. place_behind n entries.entries) at_is;
  until_is = entries.until_stays ∙ until_is;
  version_is = entries.version_is ∙ ap (λ n. version_behind n entries.entries) version_is;
  opened_is = entries.opened_stays ∙ opened_is;
}

-- room for the next of the changes, and for those after it
pub entry_room : (changes : List Change) (i : ℕ) (c : Change) (at until : ℕ) → i < length changes → c ≡ get_or changes i c → at + sum_by sectors_for (drop i changes) ≤ until → at + sectors_for c + sum_by sectors_for (drop (i + 1) changes) ≤ until
entry_room changes i c at until lt is room = omega (arith, room, sum_by-drop_more sectors_for changes i c lt, ap sectors_for is)

pub changes_next : (changes : List Change) (i : ℕ) (c : Change) → i < length changes → c ≡ get_or changes i c → take i changes ++ c ∷ [] ≡ take (i + 1) changes
changes_next changes i c lt is = ap (λ (d : Change). take i changes ++ d ∷ []) is ∙ sym (take_more changes i c lt)

-- where entries and banks end
pub entries_end : (es : List Entry) (until at version opened : ℕ) → at ≤ until → IsBatch until at version opened es → place_behind at es ≤ until
entries_end es until at version opened le batch = omega (arith, sectors_within es until at version opened le batch, sectors_place es at)

pub bank_ends : (n snapshot journal : ℕ) → n ≤ 1 → 1 + n * (snapshot + journal) + snapshot + journal ≤ 1 + 2 * (snapshot + journal)
bank_ends zero snapshot journal le = omega arith
bank_ends (suc zero) snapshot journal le = omega arith
bank_ends (suc (suc n)) snapshot journal le = absurd (omega (arith, le))

pub other_small : (n : ℕ) → other_of n ≤ 1
other_small zero = omega arith
other_small (suc n) = omega arith
