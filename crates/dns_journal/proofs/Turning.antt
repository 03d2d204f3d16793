-- A checkpoint: the bank not in use is written and made durable, and then the root is turned to it.
use Rattle.std.proofs.Common.{◌≡◌, ◌⊎◌, inl, inr, ⊎_elim, ℕ, zero, suc, ◌+◌, ◌≤◌, ◌<◌, List, [], ◌∷◌, ◌++◌, length, get_or, refl, sym, ◌∙◌, ap, subst, arith}
use Rattle.std.specs.Prelude.{slice_set}
use Rattle.dns_sectors.specs.Device.{Content, MayWrite, Only}
use Rattle.dns_sectors.specs.Crash.{Write, after_writes, SomeApplied, CrashOf}
use Rattle.dns_sectors.proofs.Applied.{set_applied, writes_applied, crash_applied}
use Rattle.dns_layout.specs.Sector.{sector_at, tag, open_count, sequence_number, number, bank_open, snapshot_length, snapshot_sectors, head_tag, head_tag_in, snapshot_tag, snapshot_tag_in, clear}
use Rattle.dns_layout.specs.Own.{Own, IsIntactIn, AreOwn, Altered}
use Rattle.dns_layout.specs.Forms.{SaysRoot, clear_number}
use Rattle.dns_layout.specs.Journal.{Entry, entry_size, AreBodies, Stand, IsBatch, IsNextHead, IsBehind, AllBehind, place_behind, version_behind, writes_from}
use Rattle.dns_layout.specs.Store.{Sizes, Stored, IsRoot, AreParts, OpensBy, OpensAs, IsTidy, IsLeftOver, all_sectors, snapshot_place, journal_place, bank_end, version_of, other_of}
use Rattle.dns_layout.specs.declared.format.Format.TheVariants.{Two}
use Rattle.dns_layout.specs.declared.root.Root.{Root}
use Rattle.dns_journal.specs.State.{IsOpenedTimes, OpensAsOneOf}
use Rattle.dns_journal.specs.Bank.{sectors_of_entries, Turns, IsTurnedTo}
use Rattle.dns_journal.proofs.Places.{at_set-either, some_below, some-length, all_are_some, applied-append}
use Rattle.dns_journal.proofs.Reading.{stand_same, version_grows}
use Rattle.dns_journal.proofs.Altered.{some_intact}
use Rattle.dns_journal.proofs.Batch.{WritesBehind, some_behind, behind_ends, body_no_head, from_writes, writes_stand}
use Rattle.dns_journal.proofs.Bank.{tidy_from}
use Rattle.dns_journal.proofs.Between.{AllBetween, between_append, between_from, some_outside, banks_apart, root_apart}
use Rattle.dns_journal.proofs.Standing.{sectors_within, turned_opens}
use Rattle.dns_journal.proofs.Zeroed.{root_no_head}
use Rattle.dns_journal.proofs.Encoded.{held, zeros_held}
use Rattle.dns_journal.proofs.Same.{opens_same}

-- Any of the writes to the bank not in use: what is stored stays.
pub other_bank_crash : (s : Sizes) (k : Stored) (d : Content) (root : List ℕ) (parts : List (List ℕ)) → OpensBy s d root parts k → bank_open root ≤ open_count root → AllBehind (open_count root) (version_of k) d
    → (ws : List Write) → AllBetween (snapshot_place s (other_of (number root))) (bank_end s (other_of (number root))) ws → WritesBehind (open_count root) (version_of k) ws → AreOwn ws
    → (c : Content) → SomeApplied ws d c → OpensBy s c root parts k × AllBehind (open_count root) (version_of k) c × IsTidy s c
other_bank_crash s k d root parts opens bank behind ws between written own c some =
    let low = snapshot_place s (other_of (number root)) in
    let high = bank_end s (other_of (number root)) in
    let stands : sector_at c 0 ≡ root = some_outside ws low high 0 d c between (inl (root_apart s (other_of (number root)))) some ∙ opens.stands in
    let behind' = some_behind ws (open_count root) (version_of k) d c written behind some in (
      opens_same Two s k d root parts opens c root (some-length ws d c some) stands opens.valid (record { bank = refl; bank_open = refl; base = refl; length = refl })
          (λ q from to. some_outside ws low high q d c between (banks_apart s (number root) q opens.valid.bank from to) some)
          (λ at lt kept. some_intact ws d c at (omega (arith, lt, opens.size)) own (opens.own at lt kept) some),
      behind',
      tidy_from s c root (version_of k) stands bank behind',
    )

part_no_head : (x : List ℕ) → tag x ≡ snapshot_tag → tag x ≡ head_tag → ⊥
unfolding head_tag_in snapshot_tag_in
part_no_head x is_part is_head =
    let letters : get_or {A = ℕ} (68 ∷ 80 ∷ 83 ∷ 50 ∷ []) 2 0 ≡ get_or {A = ℕ} (68 ∷ 80 ∷ 72 ∷ 50 ∷ []) 2 0 = ap (λ (l : List ℕ). get_or l 2 0) (sym is_part ∙ is_head) in
    absurd (omega (arith, letters))

written_append : (opened newest : ℕ) (xs ys : List Write) → WritesBehind opened newest xs → WritesBehind opened newest ys → WritesBehind opened newest (xs ++ ys)
written_append opened newest [] ys left right = right
written_append opened newest (x ∷ xs) ys left right = (left.0, written_append opened newest xs ys left.1 right)

pub parts_behind : (xs : List (List ℕ)) (y : List ℕ) (index at opened newest : ℕ) → AreParts y index xs → WritesBehind opened newest (writes_from at xs)
parts_behind [] y index at opened newest are = tt
parts_behind (x ∷ xs) y index at opened newest are = (λ tagged. absurd (part_no_head x are.0.tagged tagged), parts_behind xs y (index + 1) (at + 1) opened newest are.1)

pub sectors_append : (xs ys : List (List ℕ)) (at : ℕ) → writes_from at (xs ++ ys) ≡ writes_from at xs ++ writes_from (at + length xs) ys
sectors_append [] ys at = ap (λ n. writes_from n ys) (omega arith)
sectors_append (x ∷ xs) ys at = ap (λ (ws : List Write). (at, x) ∷ ws) (sectors_append xs ys (at + 1) ∙ ap (λ n. writes_from (at + 1) xs ++ writes_from n ys) (omega arith))

pub sectors_behind : (es : List Entry) (until at version opened newest : ℕ) → version_behind version es ≤ newest → IsBatch until at version opened es → WritesBehind opened newest (writes_from at (sectors_of_entries es))
sectors_behind [] until at version opened newest le batch = tt
sectors_behind (e ∷ es) until at version opened newest le batch =
    let far = version_grows (version + 1) es in
    let same : at + 1 + length e.bodies ≡ at + entry_size e = omega arith in
    let rest : WritesBehind opened newest (writes_from (at + 1 + length e.bodies) (sectors_of_entries es)) = subst (λ n. WritesBehind opened newest (writes_from n (sectors_of_entries es))) (sym same) (sectors_behind es until (at + entry_size e) (version + 1) opened newest le batch.2) in (
      λ _. inr (batch.1, omega (arith, batch.0.head.next, far, le)),
      subst (λ (ws : List Write). WritesBehind opened newest ws) (sym (sectors_append e.bodies (sectors_of_entries es) (at + 1)))
          (written_append opened newest (writes_from (at + 1) e.bodies) (writes_from (at + 1 + length e.bodies) (sectors_of_entries es)) (each e.bodies 0 (at + 1) batch.0.bodies) rest),
    )
  where
    each : (xs : List (List ℕ)) (index at : ℕ) → AreBodies e.head index xs → WritesBehind opened newest (writes_from at xs)
    each [] index at are = tt
    each (x ∷ xs) index at are = (λ tagged. absurd (body_no_head x are.0.tagged tagged), each xs (index + 1) (at + 1) are.1)

-- The writes of a checkpoint, over a store on a device.
module _ (s : Sizes) (k new : Stored) (d : Content) (x : List ℕ) (parts : List (List ℕ)) (opens : OpensBy s d x parts k) (bank : bank_open x ≤ open_count x) (behind : AllBehind (open_count x) (version_of k) d)
    (r : Root) (y : List ℕ) (says : SaysRoot y r) (y_own : Own 0 y) (ws : List Write) (turns : Turns s k new x r ws) where
  abbrev other : ℕ
  other = other_of (number x)

  abbrev laid : List Write
  laid = writes_from (snapshot_place s (other_of (number x))) turns.parts ++ writes_from (journal_place s (other_of (number x))) (sectors_of_entries new.entries)

  ends_within : journal_place s (other_of (number x)) + length (sectors_of_entries new.entries) ≤ bank_end s (other_of (number x))
  ends_within = sectors_within new.entries (bank_end s (other_of (number x))) (journal_place s (other_of (number x))) new.base (open_count x) (omega arith) turns.batch

  parts_within : snapshot_place s (other_of (number x)) + length turns.parts ≤ journal_place s (other_of (number x))
  parts_within = omega (arith, turns.count, turns.fits)

  laid_between : AllBetween (snapshot_place s (other_of (number x))) (bank_end s (other_of (number x))) laid
  laid_between =
      between_append (snapshot_place s (other_of (number x))) (bank_end s (other_of (number x))) (writes_from (snapshot_place s (other_of (number x))) turns.parts) (writes_from (journal_place s (other_of (number x))) (sectors_of_entries new.entries))
      (between_from (snapshot_place s (other_of (number x))) (bank_end s (other_of (number x))) (snapshot_place s (other_of (number x))) turns.parts (omega arith) (omega (arith, parts_within)))
      (between_from (snapshot_place s (other_of (number x))) (bank_end s (other_of (number x))) (journal_place s (other_of (number x))) (sectors_of_entries new.entries) (omega arith) ends_within)

  are : AreParts y 0 turns.parts
  are = turns.expected y (says.bank_open_is ∙ turns.bank_open_is) (says.base_is ∙ turns.base)

  laid_behind : WritesBehind (open_count x) (version_of k) laid
  laid_behind =
      written_append (open_count x) (version_of k) (writes_from (snapshot_place s (other_of (number x))) turns.parts) (writes_from (journal_place s (other_of (number x))) (sectors_of_entries new.entries))
      (parts_behind turns.parts y 0 (snapshot_place s (other_of (number x))) (open_count x) (version_of k) are)
      (sectors_behind new.entries (bank_end s (other_of (number x))) (journal_place s (other_of (number x))) new.base (open_count x) (version_of k) (omega (arith, turns.newest)) turns.batch)

  laid_own : AreOwn laid
  laid_own = subst (λ (l : List Write). AreOwn l) turns.written turns.own

  laid_crash : (c : Content) → SomeApplied laid d c → OpensBy s c x parts k × AllBehind (open_count x) (version_of k) c × IsTidy s c
  laid_crash c some = other_bank_crash s k d x parts opens bank behind laid laid_between laid_behind laid_own c some

  -- Any of the writes to the other bank: the same is stored.
  pub bank_crash : (c : Content) → SomeApplied ws d c → OpensBy s c x parts k × AllBehind (open_count x) (version_of k) c × IsTidy s c
  bank_crash c some = laid_crash c (subst (λ (l : List Write). SomeApplied l d c) turns.written some)

  pub bank_written : OpensBy s (after_writes ws d) x parts k × AllBehind (open_count x) (version_of k) (after_writes ws d) × IsTidy s (after_writes ws d)
  bank_written = bank_crash (after_writes ws d) (all_are_some ws d)

  abbrev full : Content
  full = after_writes laid d

  inside : bank_end s (other_of (number x)) ≤ length d
  inside = omega (arith, opens.size, ends (number x))
    where
      ends : (n : ℕ) → bank_end s (other_of n) ≤ all_sectors s
      ends zero = omega arith
      ends (suc n) = omega arith

  abbrev middle : Content
  middle = after_writes (writes_from (snapshot_place s (other_of (number x))) turns.parts) d

  full_is : after_writes laid d ≡ after_writes (writes_from (journal_place s (other_of (number x))) (sectors_of_entries new.entries)) middle
  full_is = applied-append (writes_from (snapshot_place s (other_of (number x))) turns.parts) (writes_from (journal_place s (other_of (number x))) (sectors_of_entries new.entries)) d

  middle_length : length middle ≡ length d
  middle_length = some-length (writes_from (snapshot_place s (other_of (number x))) turns.parts) d middle (all_are_some (writes_from (snapshot_place s (other_of (number x))) turns.parts) d)

  parts_there : Stand (after_writes laid d) (snapshot_place s (other_of (number x))) turns.parts
  parts_there =
      subst (λ (c : Content). Stand c (snapshot_place s (other_of (number x))) turns.parts) (sym full_is)
      (stand_same turns.parts (snapshot_place s (other_of (number x))) (journal_place s (other_of (number x))) (after_writes (writes_from (journal_place s (other_of (number x))) (sectors_of_entries new.entries)) middle) middle parts_within
      (λ q from lt. some_below (writes_from (journal_place s (other_of (number x))) (sectors_of_entries new.entries)) (journal_place s (other_of (number x))) q middle (after_writes (writes_from (journal_place s (other_of (number x))) (sectors_of_entries new.entries)) middle)
      (from_writes (journal_place s (other_of (number x))) (sectors_of_entries new.entries)) lt (all_are_some (writes_from (journal_place s (other_of (number x))) (sectors_of_entries new.entries)) middle))
      (writes_stand turns.parts (snapshot_place s (other_of (number x))) d (omega (arith, parts_within, inside))))

  entries_there : Stand (after_writes laid d) (journal_place s (other_of (number x))) (sectors_of_entries new.entries)
  entries_there =
      subst (λ (c : Content). Stand c (journal_place s (other_of (number x))) (sectors_of_entries new.entries)) (sym full_is)
      (writes_stand (sectors_of_entries new.entries) (journal_place s (other_of (number x))) middle (omega (arith, ends_within, inside, middle_length)))

  number_is : number y ≡ other_of (number x)
  number_is = says.bank_is ∙ turns.bank

  valid : IsRoot s y
  valid = record {
    tagged = says.tagged;
    bank = omega (arith, number_is, small (number x));
    fits = subst (λ n. snapshot_sectors n ≤ s.snapshot) (sym (says.snapshot_length_is ∙ turns.length_is)) turns.fits;
    snapshot = says.snapshot_room_is ∙ turns.snapshot_room;
    journal = says.journal_room_is ∙ turns.journal_room;
    clear = let one : clear y ≡ 1 = says.clear_is ∙ ap clear_number turns.is_clear in omega (arith, one);
    apex = says.apex_is ∙ turns.apex;
  }
    where
      small : (n : ℕ) → other_of n ≤ 1
      small zero = omega arith
      small (suc n) = omega arith

  len_is : snapshot_length y ≡ length new.snapshot
  len_is = says.snapshot_length_is ∙ turns.length_is

  full_behind : AllBehind (open_count x) (version_of k) (after_writes laid d)
  full_behind = (laid_crash (after_writes laid d) (all_are_some laid d)).1

  full_own : (at : ℕ) → at < all_sectors s → (IsLeftOver Two s y at → ⊥) → IsIntactIn Two at (sector_at (slice_set (after_writes laid d) 0 y) at)
  full_own at lt kept =
      some_intact ((0, y) ∷ []) (after_writes laid d) (slice_set (after_writes laid d) 0 y) at (omega (arith, lt, opens.size, some-length laid d (after_writes laid d) (all_are_some laid d))) ((λ _. y_own), tt)
      (some_intact laid d (after_writes laid d) at (omega (arith, lt, opens.size)) laid_own (opens.own at lt (λ left. absurd (omega (arith, left.not_clear, turns.was_clear)))) (all_are_some laid d))
      (inr refl)

  abbrev behind_entries : ℕ
  behind_entries = place_behind (journal_place s (other_of (number x))) new.entries

  ends : IsNextHead (bank_end s (other_of (number x))) behind_entries (version_of new) (open_count x) (sector_at (after_writes laid d) behind_entries) → ⊥
  ends = behind_ends (bank_end s (other_of (number x))) behind_entries (version_of new) (version_of k) (open_count x) (sector_at (after_writes laid d) behind_entries) (omega (arith, turns.newest)) (full_behind behind_entries)

  full_opens : OpensBy s (slice_set (after_writes laid d) 0 y) y turns.parts new
  full_opens =
      turned_opens s (after_writes laid d) y turns.parts new (open_count x) (some-length laid d (after_writes laid d) (all_are_some laid d) ∙ opens.size) valid (says.base_is ∙ turns.base)
      (says.bank_open_is ∙ turns.bank_open_is) (turns.count ∙ ap snapshot_sectors (sym len_is)) are (held turns.parts new.snapshot (snapshot_length y) len_is turns.holds) (zeros_held turns.parts new.snapshot (snapshot_length y) len_is turns.holds) (subst (λ n. Stand (after_writes laid d) (snapshot_place s n) turns.parts) (sym number_is) parts_there)
      (subst (λ n. Stand (after_writes laid d) (journal_place s n) (sectors_of_entries new.entries)) (sym number_is) entries_there)
      (subst (λ n. IsBatch (bank_end s n) (journal_place s n) new.base (open_count x) new.entries) (sym number_is) turns.batch)
      (subst (λ n. IsNextHead (bank_end s n) (place_behind (journal_place s n) new.entries) (version_of new) (open_count x) (sector_at (after_writes laid d) (place_behind (journal_place s n) new.entries)) → ⊥) (sym number_is) ends)
      full_own

  -- The root that names the bank that was written: what was to be stored is stored.
  pub turn_opens : OpensBy s (slice_set (after_writes ws d) 0 y) y turns.parts new
  turn_opens = subst (λ (l : List Write). OpensBy s (slice_set (after_writes l d) 0 y) y turns.parts new) (sym turns.written) full_opens

  open_is : open_count y ≡ open_count x
  open_is = says.opened_is ∙ turns.opened

  pub turn_behind : AllBehind (open_count y) (version_of new) (slice_set (after_writes ws d) 0 y)
  turn_behind q tagged =
      subst (λ o. (open_count (sector_at (slice_set (after_writes ws d) 0 y) q) < o) ⊎ ((open_count (sector_at (slice_set (after_writes ws d) 0 y) q) ≡ o) × (sequence_number (sector_at (slice_set (after_writes ws d) 0 y) q) ≤ version_of new))) (sym open_is)
      (⊎_elim (λ same. subst (λ n. (open_count (sector_at (slice_set (after_writes ws d) 0 y) q) < open_count x) ⊎ ((open_count (sector_at (slice_set (after_writes ws d) 0 y) q) ≡ open_count x) × (sequence_number (sector_at (slice_set (after_writes ws d) 0 y) q) ≤ n))) (sym turns.newest)
      (subst (λ (z : List ℕ). IsBehind (open_count x) (version_of k) z) (sym same) (bank_written.1 q) tagged))
      (λ here. absurd (root_no_head y says.tagged (ap tag (sym here) ∙ tagged))) (at_set-either (after_writes ws d) 0 q y))

  pub turn_bank : bank_open y ≤ open_count y
  turn_bank = omega (arith, says.bank_open_is, turns.bank_open_is, open_is)

  pub turn_tidy : IsTidy s (slice_set (after_writes ws d) 0 y)
  turn_tidy = tidy_from s (slice_set (after_writes ws d) 0 y) y (version_of new) turn_opens.stands turn_bank turn_behind

  -- A crash while the root is turned leaves what was stored, or what was to be.
  pub turn_crash : (c : Content) → MayWrite 0 y (after_writes ws d) c → (OpensAs s c k ⊎ OpensAs s c new) × IsTidy s c × IsOpenedTimes (open_count x) c
  turn_crash c (inl not) = subst (λ (z : Content). (OpensAs s z k ⊎ OpensAs s z new) × IsTidy s z × IsOpenedTimes (open_count x) z) (sym not) (inl (x, parts, bank_written.0), bank_written.2, ap open_count bank_written.0.stands)
  turn_crash c (inr is) = subst (λ (z : Content). (OpensAs s z k ⊎ OpensAs s z new) × IsTidy s z × IsOpenedTimes (open_count x) z) (sym is) (inr (y, turns.parts, turn_opens), turn_tidy, ap open_count turn_opens.stands ∙ open_is)

  -- The device has some altered sectors in place of those of the content.
  module _ (seen : Content) (altered : SomeApplied k.altered d seen) where
    -- during the two phases
    pub first_left : (may_leave : Content → Type 0) → Only seen may_leave → (c : Content) → CrashOf may_leave ws c → OpensAsOneOf s k new (open_count x) c
    first_left may_leave only c (e, left, some) =
        let intact = crash_applied k.altered ws d seen c altered (subst (λ (z : Content). SomeApplied ws z c) (only e left) some) in
        let same = bank_crash intact.0 intact.1 in
        (intact.0, intact.2, (inl (x, parts, same.0), same.2, ap open_count same.0.stands))

    made : SomeApplied k.altered (after_writes ws d) (after_writes ws seen)
    made = writes_applied k.altered ws d seen altered

    pub second_left : (mid : Content) (may_leave : Content → Type 0) → mid ≡ after_writes ws seen → Only mid may_leave → (c : Content)
        → CrashOf may_leave ((0, y) ∷ []) c → OpensAsOneOf s k new (open_count x) c
    second_left mid may_leave written only c (e, left, some) =
        let intact = crash_applied k.altered ((0, y) ∷ []) (after_writes ws d) (after_writes ws seen) c made
        (subst (λ (z : Content). SomeApplied ((0, y) ∷ []) z c) (only e left ∙ written) some) in
        (intact.0, intact.2, turn_crash intact.0 intact.1)

    pub turned_to : (mid after : Content) → mid ≡ after_writes ws seen → after ≡ slice_set mid 0 y → Altered k.altered (IsTurnedTo s new r (open_count x)) after
    turned_to mid after written is = (
      slice_set (after_writes ws d) 0 y,
      subst (λ (z : Content). SomeApplied k.altered (slice_set (after_writes ws d) 0 y) z) (ap (λ (z : Content). slice_set z 0 y) (sym written) ∙ sym is)
          (set_applied k.altered (after_writes ws d) (after_writes ws seen) 0 y made),
      record { root = y; parts = turns.parts; says = says; opens = turn_opens; bank = turn_bank; behind = turn_behind; opened_is = open_is },
    )
