-- What a store of format 1 becomes, from what its root says and the writes that put it into the other bank.
use Rattle.std.proofs.Common.{◌≡◌, ◌≢◌, inl, inr, ⊎_elim, ℕ, zero, suc, ◌+◌, ◌-◌, ◌*◌, ◌≤◌, ◌<◌, Bool, true, false, List, [], ◌∷◌, ◌++◌, length, take, drop, get_or, refl, sym, ◌∙◌, ap, subst, arith, length-append}
use Rattle.std.proofs.Math.Seq.{take-append_seam, drop-append_seam}
use Rattle.std.proofs.lemmas.Bool.{cases_lt}
use Rattle.std.specs.Prelude.{slice_set}
use Rattle.dns_sectors.specs.Device.{Content, Only}
use Rattle.dns_sectors.specs.Crash.{Write, after_writes, SomeApplied, CrashOf}
use Rattle.dns_sectors.specs.Phase.{pairs, zeros_from}
use Rattle.dns_sectors.specs.declared.phase.SectorWrite.{SectorWrite}
use Rattle.dns_layout.specs.Sector.{sector_at, blank, tag, head_tag, head_tag_in, open_count, number, snapshot_length, snapshot_sectors, clear}
use Rattle.dns_layout.specs.Forms.{SaysRoot, SaysRootIn, bank_number, clear_number}
use Rattle.dns_layout.specs.Own.{Own, IsIntactIn, AreOwn, Altered}
use Rattle.dns_layout.specs.Journal.{IsBatch, IsNextHead, Stand, place_behind, writes_from}
use Rattle.dns_layout.specs.Store.{Sizes, Stored, IsRoot, AreParts, OpensBy, OpensByIn, OpensAs, IsTidy, IsLeftOver, all_sectors, snapshot_place, journal_place, bank_end, other_of, version_of}
use Rattle.dns_layout.specs.declared.format.Format.TheVariants.{One, Two}
use Rattle.dns_layout.specs.declared.root.Root.{Root}
use Rattle.dns_layout.specs.declared.root.Bank.{Bank}
use Rattle.dns_changes.specs.Change.{Change}
use Rattle.dns_journal.specs.declared.read.Cursor.{Cursor}
use Rattle.dns_journal.specs.declared.conversion.Places.{Places}
use Rattle.dns_journal.specs.Bank.{sectors_of_entries, LaysBank, IsTurned}
use Rattle.dns_journal.specs.Clearing.{IsToClear, IsCleared, OpensStill}
use Rattle.dns_journal.specs.Converting.{bank_writes, LeavesConverted, OpensCleared}
use Rattle.dns_journal.proofs.Places.{at_set-other, some-length, all_are_some, applied-append}
use Rattle.dns_journal.proofs.Altered.{same_or_not}
use Rattle.dns_journal.proofs.Batch.{WritesBehind}
use Rattle.dns_journal.proofs.Between.{AllBetween, between_append, between_from, zeros_between, which_bank, bank_inside}
use Rattle.dns_journal.proofs.Standing.{sectors_within}
use Rattle.dns_journal.proofs.Zeroed.{tidy_of, root_no_head, blank_no_head}
use Rattle.dns_journal.proofs.Same.{opens_but}
use Rattle.dns_journal.proofs.Encoded.{held, zeros_held}
use Rattle.dns_journal.proofs.Turning.{parts_behind, sectors_behind}
use Rattle.dns_journal.proofs.Laying.{sectors_place}
use Rattle.dns_journal.proofs.Turned.{rooms_of}
use Rattle.dns_journal.proofs.Converting.{Each, old_stays, converted_opens, new_bank_each, behind_blank, parts_there, entries_there}

-- lists that are split
length_pairs : (ws : List SectorWrite) → length (pairs ws) ≡ length ws
length_pairs [] = refl
length_pairs (w ∷ ws) = ap suc (length_pairs ws)

length_writes : (at : ℕ) (xs : List (List ℕ)) → length (writes_from at xs) ≡ length xs
length_writes at [] = refl
length_writes at (x ∷ xs) = ap suc (length_writes (at + 1) xs)

pairs_take : (n : ℕ) (ws : List SectorWrite) → pairs (take n ws) ≡ take n (pairs ws)
pairs_take zero ws = refl
pairs_take (suc n) [] = refl
pairs_take (suc n) (w ∷ ws) = ap (λ (l : List Write). (w.at, w.octets) ∷ l) (pairs_take n ws)

pairs_drop : (n : ℕ) (ws : List SectorWrite) → pairs (drop n ws) ≡ drop n (pairs ws)
pairs_drop zero ws = refl
pairs_drop (suc n) [] = refl
pairs_drop (suc n) (w ∷ ws) = pairs_drop n ws

own_front : (xs ys : List Write) → AreOwn (xs ++ ys) → AreOwn xs
own_front [] ys own = tt
own_front (x ∷ xs) ys own = (own.0, own_front xs ys own.1)

own_back : (xs ys : List Write) → AreOwn (xs ++ ys) → AreOwn ys
own_back [] ys own = own
own_back (x ∷ xs) ys own = own_back xs ys own.1

-- the new bank's sectors are intact, and none of them is a head with a higher open count
abbrev Good : ℕ → ℕ → List ℕ → Type 0
Good opened at z = IsIntactIn Two at z × (tag z ≡ head_tag → open_count z ≤ opened)

good_blank : (opened at : ℕ) → Good opened at blank
good_blank opened at = ((λ ne. absurd (ne refl)), λ tagged. absurd (blank_no_head blank refl tagged))

good_each : (opened newest : ℕ) (ws : List Write) → AreOwn ws → WritesBehind opened newest ws → Each (Good opened) ws
good_each opened newest [] own behind = tt
good_each opened newest (w ∷ ws) own behind = (
  (own.0, λ tagged. ⊎_elim (λ lower. omega (arith, lower)) (λ same. omega (arith, same.0)) (behind.0 tagged)),
  good_each opened newest ws own.1 behind.1,
)

at_none : (c : Content) (at : ℕ) → length c ≤ at → sector_at c at ≡ []
unfolding sector_at
at_none [] at le = refl
at_none (x ∷ c) zero le = absurd (omega (arith, le))
at_none (x ∷ c) (suc at) le = at_none c at (omega (arith, le))

none_no_head : (x : List ℕ) → x ≡ [] → tag x ≡ head_tag → ⊥
unfolding tag head_tag_in
none_no_head x is is_head =
    let letters : 0 ≡ get_or {A = ℕ} (68 ∷ 80 ∷ 72 ∷ 50 ∷ []) 2 0 = ap (λ (l : List ℕ). get_or l 2 0) (sym (ap (λ (y : List ℕ). take 4 y) is) ∙ is_head) in
    absurd (omega (arith, letters))

other_twice : (n : ℕ) → n ≤ 1 → other_of (other_of n) ≡ n
other_twice zero le = refl
other_twice (suc zero) le = refl
other_twice (suc (suc n)) le = absurd (omega (arith, le))

other_small : (n : ℕ) → other_of n ≤ 1
other_small zero = omega arith
other_small (suc n) = omega arith

-- the root that names the other bank, at the raised open count
abbrev pub converted_root : Root → Bank → ℕ → ℕ → Bool → Root
converted_root r bank base len is_clear =
    record r { open_count = r.open_count + 1; bank = bank; bank_open = r.open_count + 1; base = base; snapshot_length = len; is_clear = is_clear }

pub record ArePlaces (r : Root) (bank : ℕ) (p : Places) : Type 0 where
  pub first : p.first ≡ snapshot_place (rooms_of r) bank
  pub journal : p.journal ≡ journal_place (rooms_of r) bank
  pub until : p.until ≡ bank_end (rooms_of r) bank

-- the two parts of what is to be written
module _ (r : Root) (bank opened base : ℕ) (octets : List ℕ) (changes : List Change) (ws : List SectorWrite) (next : Cursor) (lays : LaysBank (rooms_of r) bank opened base octets changes (pairs ws) next) where
  abbrev parts_writes : List Write
  parts_writes = writes_from (snapshot_place (rooms_of r) bank) lays.parts

  abbrev entry_writes : List Write
  entry_writes = writes_from (journal_place (rooms_of r) bank) (sectors_of_entries lays.entries)

  count_is : snapshot_sectors (length octets) ≡ length parts_writes
  count_is = sym lays.count ∙ sym (length_writes (snapshot_place (rooms_of r) bank) lays.parts)

  pub front_is : pairs (take (snapshot_sectors (length octets)) ws) ≡ writes_from (snapshot_place (rooms_of r) bank) lays.parts
  front_is =
      pairs_take (snapshot_sectors (length octets)) ws ∙ ap (λ (l : List Write). take (snapshot_sectors (length octets)) l) lays.written ∙ ap (λ n. take n (parts_writes ++ entry_writes)) count_is
      ∙ take-append_seam parts_writes entry_writes

  pub back_is : pairs (drop (snapshot_sectors (length octets)) ws) ≡ writes_from (journal_place (rooms_of r) bank) (sectors_of_entries lays.entries)
  back_is =
      pairs_drop (snapshot_sectors (length octets)) ws ∙ ap (λ (l : List Write). drop (snapshot_sectors (length octets)) l) lays.written ∙ ap (λ n. drop n (parts_writes ++ entry_writes)) count_is
      ∙ drop-append_seam parts_writes entry_writes

  pub parts_len : length (take (snapshot_sectors (length octets)) ws) ≡ length lays.parts
  parts_len = sym (length_pairs (take (snapshot_sectors (length octets)) ws)) ∙ ap (λ (l : List Write). length l) front_is ∙ length_writes (snapshot_place (rooms_of r) bank) lays.parts

  pub entries_len : length (drop (snapshot_sectors (length octets)) ws) ≡ length (sectors_of_entries lays.entries)
  entries_len = sym (length_pairs (drop (snapshot_sectors (length octets)) ws)) ∙ ap (λ (l : List Write). length l) back_is ∙ length_writes (journal_place (rooms_of r) bank) (sectors_of_entries lays.entries)

  pub enough_writes : snapshot_sectors (length octets) ≤ length ws
  enough_writes =
      let all : length ws ≡ length (parts_writes ++ entry_writes) = sym (length_pairs ws) ∙ ap (λ (l : List Write). length l) lays.written in
      omega (arith, all, length-append parts_writes entry_writes, count_is)

  pub entries_end : journal_place (rooms_of r) bank + length (sectors_of_entries lays.entries) ≤ bank_end (rooms_of r) bank
  entries_end = sectors_within lays.entries (bank_end (rooms_of r) bank) (journal_place (rooms_of r) bank) base opened (omega arith) lays.batch

  module _ (p : Places) (places : ArePlaces r bank p) where
    -- all of the writes to the bank, by its positions
    pub whole_is : bank_writes p (take (snapshot_sectors (length octets)) ws) (drop (snapshot_sectors (length octets)) ws) ≡
        (writes_from (snapshot_place (rooms_of r) bank) lays.parts
        ++ zeros_from (snapshot_place (rooms_of r) bank + length lays.parts) (journal_place (rooms_of r) bank - (snapshot_place (rooms_of r) bank + length lays.parts)))
        ++ (writes_from (journal_place (rooms_of r) bank) (sectors_of_entries lays.entries)
        ++ zeros_from (journal_place (rooms_of r) bank + length (sectors_of_entries lays.entries)) (bank_end (rooms_of r) bank - (journal_place (rooms_of r) bank + length (sectors_of_entries lays.entries))))
    whole_is = λ i. (front_is i ++ zeros_from (places.first i + parts_len i) (places.journal i - (places.first i + parts_len i)))
        ++ (back_is i ++ zeros_from (places.journal i + entries_len i) (places.until i - (places.journal i + entries_len i)))

-- what is stored, with no altered sectors: of format 1 none can be told
abbrev pub intact : Stored → Stored
intact k = record k { altered = [] }

-- What the steps of a conversion leave of the content d: all of the writes, the root y, and the root z after the old bank is cleared.
pub record Steps (s : Sizes) (k : Stored) (octets : List ℕ) (changes : List Change) (opened : ℕ) (d : Content) (all : List Write) (y z : List ℕ) (from until : ℕ) : Type 1 where
  pub new : Stored
  pub parts : List (List ℕ)
  pub turned : IsTurned k octets changes new
  pub first : (may_leave : Content → Type 0) → Only d may_leave → (c : Content) → CrashOf may_leave all c → LeavesConverted s k octets changes opened c
  pub second : (mid : Content) (may_leave : Content → Type 0) → mid ≡ after_writes all d → Only mid may_leave → (c : Content) → CrashOf may_leave ((0, y) ∷ []) c → LeavesConverted s k octets changes opened c
  pub to_clear : (mid after : Content) → mid ≡ after_writes all d → after ≡ slice_set mid 0 y → IsToClear s (intact new) y parts from until z after
  pub cleared : clear z ≡ 1
  pub counted : open_count z ≡ opened + 1

module _ (s : Sizes) (k : Stored) (d : Content) (x : List ℕ) (parts : List (List ℕ)) (opens : OpensByIn One s d x parts k) (r : Root) (says : SaysRootIn One x r)
    (base : ℕ) (octets : List ℕ) (changes : List Change) (base_is : base + length changes ≡ version_of k) (fits : snapshot_sectors (length octets) ≤ r.snapshot_room)
    (ws : List SectorWrite) (next : Cursor) (lays : LaysBank (rooms_of r) (other_of (bank_number r.bank)) (r.open_count + 1) base octets changes (pairs ws) next) where
  abbrev opened : ℕ
  opened = r.open_count + 1

  abbrev xs : List (List ℕ)
  xs = lays.parts

  abbrev ys : List (List ℕ)
  ys = sectors_of_entries lays.entries

  abbrev low : ℕ
  low = snapshot_place s (other_of (number x))

  abbrev middle : ℕ
  middle = journal_place s (other_of (number x))

  abbrev high : ℕ
  high = bank_end s (other_of (number x))

  snapshot_is : r.snapshot_room ≡ s.snapshot
  snapshot_is = sym says.snapshot_room_is ∙ opens.valid.snapshot

  journal_is : r.journal_room ≡ s.journal
  journal_is = sym says.journal_room_is ∙ opens.valid.journal

  other_is : other_of (bank_number r.bank) ≡ other_of (number x)
  other_is = ap other_of (sym says.bank_is)

  low_is : snapshot_place (rooms_of r) (other_of (bank_number r.bank)) ≡ snapshot_place s (other_of (number x))
  low_is = λ i. 1 + other_is i * (snapshot_is i + journal_is i)

  middle_is : journal_place (rooms_of r) (other_of (bank_number r.bank)) ≡ journal_place s (other_of (number x))
  middle_is = λ i. low_is i + snapshot_is i

  high_is : bank_end (rooms_of r) (other_of (bank_number r.bank)) ≡ bank_end s (other_of (number x))
  high_is = λ i. middle_is i + journal_is i

  abbrev stored : Stored
  stored = record { base = base; snapshot = octets; entries = lays.entries; altered = k.altered }

  is_turned : IsTurned k octets changes stored
  is_turned = record { base = base_is; snapshot = refl; entries = lays.are; altered = refl }

  abbrev part_writes : List Write
  part_writes = writes_from low xs

  abbrev gap : List Write
  gap = zeros_from (low + length xs) (middle - (low + length xs))

  abbrev entries_writes : List Write
  entries_writes = writes_from middle ys

  abbrev rest : List Write
  rest = zeros_from (middle + length ys) (high - (middle + length ys))

  abbrev whole : List Write
  whole = (part_writes ++ gap) ++ (entries_writes ++ rest)

  writes_are : (new : Places) → ArePlaces r (other_of (bank_number r.bank)) new → bank_writes new (take (snapshot_sectors (length octets)) ws) (drop (snapshot_sectors (length octets)) ws) ≡ whole
  writes_are new places =
      whole_is r (other_of (bank_number r.bank)) opened base octets changes ws next lays new places
      ∙ (λ i. (writes_from (low_is i) xs ++ zeros_from (low_is i + length xs) (middle_is i - (low_is i + length xs))) ++ (writes_from (middle_is i) ys ++ zeros_from (middle_is i + length ys) (high_is i - (middle_is i + length ys))))

  batch : IsBatch high middle base opened lays.entries
  batch =
      subst (λ u. IsBatch u middle base opened lays.entries) high_is
      (subst (λ a. IsBatch (bank_end (rooms_of r) (other_of (bank_number r.bank))) a base opened lays.entries) middle_is lays.batch)

  parts_in : low + length xs ≤ middle
  parts_in = omega (arith, lays.count, fits, snapshot_is)

  entries_in : middle + length ys ≤ high
  entries_in = sectors_within lays.entries high middle base opened (omega arith) batch

  inside : high ≤ length d
  inside = omega (arith, opens.size, bank_inside s (number x))

  between : AllBetween low high whole
  between =
      between_append low high (part_writes ++ gap) (entries_writes ++ rest)
      (between_append low high part_writes gap (between_from low high low xs (omega arith) (omega (arith, parts_in))) (zeros_between low high (low + length xs) (middle - (low + length xs)) (omega arith) (omega (arith, parts_in))))
      (between_append low high entries_writes rest (between_from low high middle ys (omega arith) entries_in) (zeros_between low high (middle + length ys) (high - (middle + length ys)) (omega arith) (omega (arith, entries_in))))

  before : (c : Content) → SomeApplied whole d c → OpensByIn One s c x parts k
  before c some = old_stays s k d x parts opens whole between c some

  -- format 1 holds what it held
  still : (c : Content) → OpensByIn One s c x parts k → LeavesConverted s k octets changes r.open_count c
  still c there = inl ((x, parts, there), ap open_count there.stands ∙ says.opened_is)

  abbrev after : Content
  after = after_writes whole d

  after_is : after_writes whole d ≡ after_writes rest (after_writes entries_writes (after_writes gap (after_writes part_writes d)))
  after_is =
      applied-append (part_writes ++ gap) (entries_writes ++ rest) d ∙ applied-append entries_writes rest (after_writes (part_writes ++ gap) d)
      ∙ ap (λ (c : Content). after_writes rest (after_writes entries_writes c)) (applied-append part_writes gap d)

  size : length after ≡ all_sectors s
  size = some-length whole d after (all_are_some whole d) ∙ opens.size

  there_parts : Stand after low xs
  there_parts = subst (λ (c : Content). Stand c low xs) (sym after_is) (parts_there d low middle high xs ys parts_in entries_in inside)

  there_entries : Stand after middle ys
  there_entries = subst (λ (c : Content). Stand c middle ys) (sym after_is) (entries_there d low middle high xs ys parts_in entries_in inside)

  ends : IsNextHead high (place_behind middle lays.entries) (version_of stored) opened (sector_at after (place_behind middle lays.entries)) → ⊥
  ends next_head =
      let position : middle + length ys ≡ place_behind middle lays.entries = sectors_place lays.entries middle in
      let less : middle + length ys < high = omega (arith, position, next_head.within) in
      let is : sector_at after (place_behind middle lays.entries) ≡ blank =
      ap (λ q. sector_at after q) (sym position) ∙ ap (λ (c : Content). sector_at c (middle + length ys)) after_is ∙ behind_blank d low middle high xs ys parts_in entries_in inside less in
      blank_no_head (sector_at after (place_behind middle lays.entries)) is next_head.tagged

  own : AreOwn (writes_from (snapshot_place (rooms_of r) (other_of (bank_number r.bank))) xs ++ writes_from (journal_place (rooms_of r) (other_of (bank_number r.bank))) ys)
  own = subst (λ (l : List Write). AreOwn l) lays.written lays.own

  parts_own : AreOwn part_writes
  parts_own = subst (λ a. AreOwn (writes_from a xs)) low_is (own_front _ (writes_from (journal_place (rooms_of r) (other_of (bank_number r.bank))) ys) own)

  entries_own : AreOwn entries_writes
  entries_own = subst (λ a. AreOwn (writes_from a ys)) middle_is (own_back (writes_from (snapshot_place (rooms_of r) (other_of (bank_number r.bank))) xs) _ own)

  module _ (bank : Bank) (bank_is : bank_number bank ≡ other_of (bank_number r.bank)) where
    number_of : (w : List ℕ) (flag : Bool) → SaysRoot w (converted_root r bank base (length octets) flag) → number w ≡ other_of (number x)
    number_of w flag w_says = w_says.bank_is ∙ bank_is ∙ other_is

    valid : (w : List ℕ) (flag : Bool) → clear_number flag ≤ 1 → SaysRoot w (converted_root r bank base (length octets) flag) → IsRoot s w
    valid w flag small w_says = record {
      tagged = w_says.tagged;
      bank = omega (arith, number_of w flag w_says, other_small (number x));
      fits = subst (λ n. snapshot_sectors n ≤ s.snapshot) (sym w_says.snapshot_length_is) (omega (arith, fits, snapshot_is));
      snapshot = w_says.snapshot_room_is ∙ snapshot_is;
      journal = w_says.journal_room_is ∙ journal_is;
      clear = omega (arith, small, w_says.clear_is);
      apex = w_says.apex_is ∙ sym says.apex_is ∙ opens.valid.apex;
    }

    module _ (y : List ℕ) (y_says : SaysRoot y (converted_root r bank base (length octets) false)) (y_own : Own 0 y) where
      number_is : number y ≡ other_of (number x)
      number_is = number_of y false y_says

      are : AreParts y 0 xs
      are = lays.expected y y_says.bank_open_is y_says.base_is

      good : (at : ℕ) → snapshot_place s (number y) ≤ at → at < bank_end s (number y) → Good opened at (sector_at after at)
      good =
          subst (λ n. (at : ℕ) → snapshot_place s n ≤ at → at < bank_end s n → Good opened at (sector_at after at)) (sym number_is)
          (λ at from to. subst (λ (c : Content). Good opened at (sector_at c at)) (sym after_is)
          (new_bank_each d low middle high xs ys parts_in entries_in inside (Good opened) (good_blank opened)
          (good_each opened (version_of stored) part_writes parts_own (parts_behind xs y 0 low opened (version_of stored) are))
          (good_each opened (version_of stored) entries_writes entries_own (sectors_behind lays.entries high middle base opened (version_of stored) (omega arith) batch)) at from to))

      not_clear : clear y ≡ 0
      not_clear = y_says.clear_is

      opens_now : OpensBy s (slice_set after 0 y) y xs stored
      opens_now =
          converted_opens s after y xs stored opened size (valid y false (omega arith) y_says) y_says.base_is y_says.bank_open_is (lays.count ∙ ap snapshot_sectors (sym y_says.snapshot_length_is)) are
          (held xs octets (snapshot_length y) y_says.snapshot_length_is lays.holds) (zeros_held xs octets (snapshot_length y) y_says.snapshot_length_is lays.holds)
          (subst (λ n. Stand after (snapshot_place s n) xs) (sym number_is) there_parts) (subst (λ n. Stand after (journal_place s n) ys) (sym number_is) there_entries)
          (subst (λ n. IsBatch (bank_end s n) (journal_place s n) base opened lays.entries) (sym number_is) batch)
          (subst (λ n. IsNextHead (bank_end s n) (place_behind (journal_place s n) lays.entries) (version_of stored) opened (sector_at after (place_behind (journal_place s n) lays.entries)) → ⊥) (sym number_is) ends)
          (λ _. y_own) (λ at from to. (good at from to).0) not_clear

      heads : (at : ℕ) → (IsLeftOver Two s y at → ⊥) → tag (sector_at (slice_set after 0 y) at) ≡ head_tag → open_count (sector_at (slice_set after 0 y) at) ≤ open_count y
      heads at kept tagged = ⊎_elim
          (λ (here : at ≡ 0). absurd (root_no_head y y_says.tagged (subst (λ (w : List ℕ). tag w ≡ head_tag) opens_now.stands (subst (λ n. tag (sector_at (slice_set after 0 y) n) ≡ head_tag) here tagged))))
          (λ (other : at ≢ 0).
          let same : sector_at (slice_set after 0 y) at ≡ sector_at after at = at_set-other after 0 at y other in
          let there : tag (sector_at after at) ≡ head_tag = subst (λ (w : List ℕ). tag w ≡ head_tag) same tagged in
          ⊎_elim
          (λ (lt : at < all_sectors s). ⊎_elim
          (λ new_bank. (let le : open_count (sector_at after at) ≤ opened = (good at new_bank.0 new_bank.1).1 there in omega (arith, le, ap open_count same, y_says.opened_is)))
          (λ old_bank. absurd (kept (record { not_clear = not_clear; from = old_bank.0; to = old_bank.1 })))
          (which_bank s (number y) at (valid y false (omega arith) y_says).bank (omega (arith, other)) lt))
          (λ beyond. absurd (none_no_head (sector_at after at) (at_none after at (omega (arith, size, beyond))) there))
          (cases_lt at (all_sectors s)))
          (same_or_not at 0)

      tidy_now : IsTidy s (slice_set after 0 y)
      tidy_now = tidy_of s (slice_set after 0 y) y opens_now.stands heads (omega (arith, y_says.bank_open_is, y_says.opened_is))

      module _ (z : List ℕ) (z_says : SaysRoot z (converted_root r bank base (length octets) true)) (z_own : Own 0 z) (old : Places) (old_is : ArePlaces r (bank_number r.bank) old) where
        old_bank : bank_number r.bank ≡ other_of (number y)
        old_bank = sym says.bank_is ∙ sym (other_twice (number x) opens.valid.bank) ∙ ap other_of (sym number_is)

        old_first : snapshot_place (rooms_of r) (bank_number r.bank) ≡ snapshot_place s (other_of (number y))
        old_first = λ i. 1 + old_bank i * (snapshot_is i + journal_is i)

        old_end : bank_end (rooms_of r) (bank_number r.bank) ≡ bank_end s (other_of (number y))
        old_end = λ i. old_first i + snapshot_is i + journal_is i

        to_clear : IsToClear s (intact stored) y xs old.first old.until z (slice_set after 0 y)
        to_clear = record {
          opens = opens_but Two s stored (slice_set after 0 y) y xs opens_now [];
          tidy = tidy_now;
          not_clear = not_clear;
          from_is = old_is.first ∙ old_first;
          until_is = old_is.until ∙ old_end;
          valid = valid z true (omega arith) z_says;
          names = record {
            bank = z_says.bank_is ∙ sym y_says.bank_is;
            bank_open = z_says.bank_open_is ∙ sym y_says.bank_open_is;
            base = z_says.base_is ∙ sym y_says.base_is;
            length = z_says.snapshot_length_is ∙ sym y_says.snapshot_length_is;
          };
          no_lower = omega (arith, y_says.opened_is, z_says.opened_is);
          own = z_own;
        }

        pub steps : (new : Places) → ArePlaces r (other_of (bank_number r.bank)) new → (front back : List SectorWrite) → front ≡ take (snapshot_sectors (length octets)) ws → back ≡ drop (snapshot_sectors (length octets)) ws
            → Steps s k octets changes r.open_count d (bank_writes new front back) y z old.first old.until
        steps new places front back front_is back_is =
            let all_is : bank_writes new front back ≡ whole = (λ i. bank_writes new (front_is i) (back_is i)) ∙ writes_are new places in
            record {
              new = stored;
              parts = xs;
              turned = is_turned;
              first = λ may_leave only c left. still c (before c (subst (λ (l : List Write). SomeApplied l d c) all_is (subst (λ (e : Content). SomeApplied (bank_writes new front back) e c) (only left.0 left.1) left.2)));
              second = λ mid may_leave written only c left.
                  let is : mid ≡ after = written ∙ ap (λ (l : List Write). after_writes l d) all_is in
                  ⊎_elim
                  (λ not. still c (subst (λ (b : Content). OpensByIn One s b x parts k) (sym (not ∙ only left.0 left.1 ∙ is)) (before after (all_are_some whole d))))
                  (λ now.
                  let there = sym (now ∙ ap (λ (b : Content). slice_set b 0 y) (only left.0 left.1 ∙ is)) in
                  inr (stored, is_turned, subst (λ (b : Content). OpensAs s b stored) there (y, xs, opens_now), subst (λ (b : Content). IsTidy s b) there tidy_now, ap (λ (b : Content). open_count (sector_at b 0)) (sym there) ∙ (ap open_count opens_now.stands ∙ y_says.opened_is)))
                  left.2;
              to_clear = λ mid now written is. subst (λ (b : Content). IsToClear s (intact stored) y xs old.first old.until z b)
                  (sym (is ∙ ap (λ (b : Content). slice_set b 0 y) (written ∙ ap (λ (l : List Write). after_writes l d) all_is))) to_clear;
              cleared = z_says.clear_is;
              counted = z_says.opened_is;
            }

pub are_places : (r : Root) (p : Places) (bank m : ℕ) → bank ≡ m → p.first ≡ 1 + bank * (r.snapshot_room + r.journal_room) → p.journal ≡ p.first + r.snapshot_room → p.until ≡ p.journal + r.journal_room → ArePlaces r m p
are_places r p bank m bank_is first journal until =
    let at : p.first ≡ snapshot_place (rooms_of r) m = first ∙ ap (λ n. 1 + n * (r.snapshot_room + r.journal_room)) bank_is in
    let start : p.journal ≡ journal_place (rooms_of r) m = journal ∙ ap (λ n. n + r.snapshot_room) at in
    record { first = at; journal = start; until = until ∙ ap (λ n. n + r.journal_room) start }

opens_new : (s : Sizes) (new : Stored) (c : Content) (z : List ℕ) (parts : List (List ℕ)) → OpensBy s c z parts (intact new) → OpensBy s c z parts new
opens_new s new c z parts opens = opens_but Two s (intact new) c z parts opens new.altered

-- while the old bank is cleared
pub still_converted : (s : Sizes) (k new : Stored) (octets : List ℕ) (changes : List Change) (opened : ℕ) (y z : List ℕ) (c : Content)
    → IsTurned k octets changes new → open_count y ≡ opened + 1 → open_count z ≡ opened + 1
    → OpensStill s (intact new) y z c → LeavesConverted s k octets changes opened c
still_converted s k new octets changes opened y z c turned y_is z_is (d, is, (opens, tidy, times)) =
    subst (λ (b : Content). LeavesConverted s k octets changes opened b) (sym is)
    (inr (new, turned, (opens.0, opens.1, opens_new s new d opens.0 opens.1 opens.2), tidy, ⊎_elim (λ now. now ∙ y_is) (λ then. then ∙ z_is) times))

pub opens_cleared : (s : Sizes) (new : Stored) (y z : List ℕ) (parts : List (List ℕ)) (opened : ℕ) (seen c : Content)
    → Altered [] (IsCleared s (intact new) y parts z) seen → clear z ≡ 1 → open_count z ≡ opened → c ≡ seen → OpensCleared s new opened c
opens_cleared s new y z parts opened seen c (d, same, left) cleared counted is =
    subst (λ (b : Content). OpensCleared s new opened b) (sym (is ∙ same))
    (record {
      opens = (z, parts, opens_new s new d z parts left.opens);
      tidy = left.tidy;
      cleared = ap clear left.opens.stands ∙ cleared;
      counted = ap open_count left.opens.stands ∙ counted;
    })
