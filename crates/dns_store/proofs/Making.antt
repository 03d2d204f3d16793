-- A store that is made: what the sectors after its root say, and that it opens.
use Rattle.std.proofs.Common.{◌≡◌, ◌⊎◌, inl, inr, ⊎_elim, ℕ, zero, suc, ◌+◌, ◌-◌, ◌*◌, ◌≤◌, ◌<◌, true, List, [], ◌∷◌, ◌++◌, length, take, drop, replicate, refl, sym, ◌∙◌, ap, subst, arith, add-one}
use Rattle.std.specs.Prelude.{get_or, slice_set}
use Rattle.std.proofs.Math.Seq.{take-append_seam, drop-append_seam}
use Rattle.std.proofs.lemmas.Bool.{cases_lt}
use Rattle.std.proofs.lemmas.List.{length-set, take_all}
use Rattle.std.specs.List.{flat_map}
use Rattle.dns_records.specs.Record.{Record, plain}
use Rattle.dns_zone.specs.Zone.{IsZone}
use Rattle.dns_sectors.specs.Device.{Content, Follows, MayWrite, Only, LeavesOnly}
use Rattle.dns_sectors.specs.declared.device.Sectors.{Ghosts}
use Rattle.dns_sectors.specs.Crash.{CrashOf}
use Rattle.dns_sectors.proofs.Moments.{joined, weaker}
use Rattle.dns_layout.specs.Apex.{apex_octets}
use Rattle.dns_layout.specs.Sector.{AreZeros, sector_at, tag, open_count, sequence_number, number, payload, bank_open, snapshot_length, payload_room, snapshot_sectors, blank, clear, head_tag, head_tag_in}
use Rattle.dns_layout.specs.Own.{Own, IsIntactIn}
use Rattle.dns_layout.specs.declared.format.Format.TheVariants.{Two}
use Rattle.dns_layout.specs.Forms.{SaysPart, SaysRoot}
use Rattle.dns_layout.specs.Journal.{Stand}
use Rattle.dns_layout.specs.Store.{Sizes, AreParts, OpensBy, IsTidy, all_sectors, snapshot_place, journal_place}
use Rattle.dns_layout.specs.declared.root.Root.{Root}
use Rattle.dns_layout.specs.declared.root.Bank.TheVariants.{Zero}
use Rattle.dns_journal.specs.Reads.{sectors_from}
use Rattle.dns_journal.specs.Bank.{piece, part_of, HoldsOctets}
use Rattle.dns_journal.proofs.Looking.{from_stands, length-from, flat_from}
use Rattle.dns_journal.proofs.Places.{at_set-same, at_set-other}
use Rattle.dns_journal.proofs.Pushing.{part_more}
use Rattle.dns_journal.proofs.Encoded.{are_zeros}
use Rattle.dns_store.specs.Versions.{Shape}
use Rattle.dns_store.specs.Opens.{opens, sizes_of}
use Rattle.dns_store.specs.Formatting.{IsGeometry, IsLaid, IsLaidTo, HasBlankRoot, IsFormatted, first_of, LeftByFormat, LeftByMaking}
use Rattle.dns_store.proofs.Altered.{sector_past}
use Rattle.dns_store.proofs.Parts.{are_from}

-- Octets that are no head: zeros, and none.
blank_no_head : tag blank ≡ head_tag → ⊥
unfolding tag head_tag_in
blank_no_head is =
    let letters : get_or {A = ℕ} (68 ∷ 80 ∷ 72 ∷ 50 ∷ []) 0 0 ≡ get_or {A = ℕ} (take 4 (replicate 512 0)) 0 0 = ap (λ (l : List ℕ). get_or l 0 0) (sym is) in
    absurd (omega (arith, letters))

none_no_head : tag [] ≡ head_tag → ⊥
unfolding tag head_tag_in
none_no_head is =
    let letters : get_or {A = ℕ} (68 ∷ 80 ∷ 72 ∷ 50 ∷ []) 0 0 ≡ get_or {A = ℕ} (take 4 []) 0 0 = ap (λ (l : List ℕ). get_or l 0 0) (sym is) in
    absurd (omega (arith, letters))

parts_of : (octets n : ℕ) → n < snapshot_sectors octets → payload_room * n ≤ octets
unfolding snapshot_sectors
parts_of octets n lt = omega (arith, lt)

parts_hold : (octets : ℕ) → octets ≤ payload_room * snapshot_sectors octets
unfolding snapshot_sectors
parts_hold octets = omega arith

-- So many parts of a snapshot are there, one after the other.
module _ (opened base : ℕ) (octets : List ℕ) (c : Content) (at : ℕ) where
  abbrev pub PartsStand : ℕ → Type 0
  PartsStand n = (i : ℕ) → i < n → SaysPart (sector_at c (at + i)) (part_of opened base i) × HoldsOctets (sector_at c (at + i)) (piece octets i)

  pub parts_are : (root : List ℕ) (n : ℕ) → bank_open root ≡ opened → sequence_number root ≡ base → PartsStand n → AreParts root 0 (sectors_from c at n)
  parts_are root zero bank version stand = tt
  parts_are root (suc n) bank version stand =
      let says = (stand n (omega arith)).0 in
      subst (λ m. AreParts root 0 (sectors_from c at m)) (add-one n)
      (are_from Two root c at n (parts_are root n bank version (λ i lt. stand i (omega (arith, lt))))
      (record { tagged = says.tagged; bank_open = says.opened_is ∙ sym bank; base = says.version_is ∙ sym version; numbered = says.count_is }))

  pub parts_flat : (n : ℕ) → n ≤ snapshot_sectors (length octets) → PartsStand n → flat_map payload (sectors_from c at n) ≡ take (payload_room * n) octets ++ replicate (payload_room * n - length octets) 0
  parts_flat zero le stand = let e : 0 ≡ payload_room * 0 - length octets = omega arith in ap (λ m. replicate {A = ℕ} m 0) e
  parts_flat (suc n) le stand =
      let before = parts_flat n (omega (arith, le)) (λ i lt. stand i (omega (arith, lt))) in
      let holds = (stand n (omega arith)).1 in
      subst (λ m. flat_map payload (sectors_from c at m) ≡ take (payload_room * m) octets ++ replicate (payload_room * m - length octets) 0) (add-one n)
      (flat_from Two c at n ∙ ap (λ (l : List ℕ). flat_map payload (sectors_from c at n) ++ l) holds
      ∙ part_more octets (flat_map payload (sectors_from c at n)) (piece octets n) n (parts_of (length octets) n (omega (arith, le))) before refl)

  -- All of them: the octets, and zeros after.
  module _ (stand : PartsStand (snapshot_sectors (length octets))) where
    abbrev all : List ℕ
    all = flat_map payload (sectors_from c at (snapshot_sectors (length octets)))

    all_flat : all ≡ octets ++ replicate (payload_room * snapshot_sectors (length octets) - length octets) 0
    all_flat =
        parts_flat (snapshot_sectors (length octets)) (omega arith) stand
        ∙ ap (λ (l : List ℕ). l ++ replicate (payload_room * snapshot_sectors (length octets) - length octets) 0) (take_all (payload_room * snapshot_sectors (length octets)) octets (parts_hold (length octets)))

    pub parts_taken : take (length octets) all ≡ octets
    parts_taken = ap (λ (l : List ℕ). take (length octets) l) all_flat ∙ take-append_seam octets (replicate (payload_room * snapshot_sectors (length octets) - length octets) 0)

    pub parts_zeros : AreZeros (drop (length octets) all)
    parts_zeros =
        subst (λ (l : List ℕ). AreZeros l) (sym (ap (λ (l : List ℕ). drop (length octets) l) all_flat ∙ drop-append_seam octets (replicate (payload_room * snapshot_sectors (length octets) - length octets) 0)))
        (are_zeros (payload_room * snapshot_sectors (length octets) - length octets))

-- A new store: these are the fields of its root.
pub record IsNewRoot (s : Sizes) (octets : List ℕ) (r : Root) : Type 0 where
  pub opened : r.open_count ≡ 0
  pub base : r.base ≡ 0
  pub bank : r.bank ≡ Zero
  pub bank_open : r.bank_open ≡ 0
  pub length : r.snapshot_length ≡ length octets
  pub snapshot : r.snapshot_room ≡ s.snapshot
  pub journal : r.journal_room ≡ s.journal
  pub clear : r.is_clear ≡ true
  pub apex : r.apex ≡ s.apex

module _ (s : Sizes) (octets : List ℕ) (r : Root) (new : IsNewRoot s octets r) (some : 8 ≤ s.journal) (fits : snapshot_sectors (length octets) ≤ s.snapshot) (c : Content) (made : IsFormatted r octets (all_sectors s) c) where
  abbrev root : List ℕ
  root = sector_at c 0

  bank_is : number (sector_at c 0) ≡ 0
  bank_is = made.says.bank_is ∙ ap (λ b. Rattle.dns_layout.specs.Forms.bank_number b) new.bank

  length_is : snapshot_length (sector_at c 0) ≡ length octets
  length_is = made.says.snapshot_length_is ∙ new.length

  stand : PartsStand 0 0 octets c 1 (snapshot_sectors (length octets))
  stand i lt =
      let part = (made.laid i (omega (arith, lt, fits))).part lt in
      subst (λ q. SaysPart (sector_at c q) (part_of 0 0 i) × HoldsOctets (sector_at c q) (piece octets i)) (omega arith) (part.says, part.holds)

  none_at : (i : ℕ) → snapshot_sectors (length octets) ≤ i → i + 1 < all_sectors s → sector_at c (i + 1) ≡ blank
  none_at i le lt = (made.laid i lt).none le

  is_clear : clear (sector_at c 0) ≡ 1
  is_clear = made.says.clear_is ∙ ap Rattle.dns_layout.specs.Forms.clear_number new.clear

  -- each sector is zeros or its own
  intact : (q : ℕ) → q < all_sectors s → IsIntactIn Two q (sector_at c q)
  intact zero lt = λ some. made.own
  intact (suc i) lt =
      let laid : IsLaid octets i (sector_at c (suc i)) = subst (λ q. IsLaid octets i (sector_at c q)) (add-one i) (made.laid i (omega (arith, lt))) in
      ⊎_elim (λ part. λ some. subst (λ q. Own q (sector_at c (suc i))) (add-one i) (laid.part part).own) (λ none. λ some. absurd (some (laid.none none))) (cases_lt i (snapshot_sectors (length octets)))

  behind : (q : ℕ) → 0 < q → tag (sector_at c q) ≡ head_tag → open_count (sector_at c q) ≡ 0
  behind zero lt tagged = absurd (omega (arith, lt))
  behind (suc i) lt tagged = ⊎_elim
      (λ (inside : suc i < all_sectors s).
      let laid : IsLaid octets i (sector_at c (suc i)) = subst (λ q. IsLaid octets i (sector_at c q)) (add-one i) (made.laid i (omega (arith, inside))) in
      ⊎_elim (λ part. (laid.part part).says.opened_is) (λ none. absurd (blank_no_head (ap (λ (x : List ℕ). tag x) (sym (laid.none none)) ∙ tagged))) (cases_lt i (snapshot_sectors (length octets))))
      (λ outside. absurd (none_no_head (ap (λ (x : List ℕ). tag x) (sym (sector_past c (suc i) (omega (arith, outside, made.size)))) ∙ tagged)))
      (cases_lt (suc i) (all_sectors s))

  pub made_tidy : IsTidy s c
  made_tidy = record {
    heads = λ q left tagged. each q tagged;
    bank = omega (arith, made.says.bank_open_is, made.says.opened_is, new.bank_open, new.opened);
  }
    where
      each : (q : ℕ) → tag (sector_at c q) ≡ head_tag → open_count (sector_at c q) ≤ open_count (sector_at c 0)
      each zero tagged = omega arith
      each (suc i) tagged = omega (arith, behind (suc i) (omega arith) tagged)

  pub made_opens : OpensBy s c (sector_at c 0) (sectors_from c 1 (snapshot_sectors (length octets))) (record { base = 0; snapshot = octets; entries = []; altered = [] })
  made_opens = record {
    size = made.size;
    stands = refl;
    valid = record {
      tagged = made.says.tagged;
      bank = omega (arith, bank_is);
      fits = subst (λ n. snapshot_sectors n ≤ s.snapshot) (sym length_is) fits;
      snapshot = made.says.snapshot_room_is ∙ new.snapshot;
      journal = made.says.journal_room_is ∙ new.journal;
      clear = omega (arith, is_clear);
      apex = made.says.apex_is ∙ ap apex_octets new.apex;
    };
    base = made.says.base_is ∙ new.base;
    count = length-from c 1 (snapshot_sectors (length octets)) ∙ ap snapshot_sectors (sym length_is);
    expected = parts_are 0 0 octets c 1 (sector_at c 0) (snapshot_sectors (length octets)) (made.says.bank_open_is ∙ new.bank_open) (made.says.base_is ∙ new.base) stand;
    placed = subst (λ n. Stand c n (sectors_from c 1 (snapshot_sectors (length octets)))) (sym (ap (λ b. snapshot_place s b) bank_is ∙ first_place)) (from_stands (snapshot_sectors (length octets)) c 1);
    snapshot = ap (λ n. take n (flat_map payload (sectors_from c 1 (snapshot_sectors (length octets))))) length_is ∙ parts_taken 0 0 octets c 1 stand;
    zeros = subst (λ n. AreZeros (drop n (flat_map payload (sectors_from c 1 (snapshot_sectors (length octets)))))) (sym length_is) (parts_zeros 0 0 octets c 1 stand);
    journal = λ next. blank_no_head (ap (λ (x : List ℕ). tag x) (sym there) ∙ next.tagged);
    own = λ q lt left. intact q lt;
  }
    where
      first_place : snapshot_place s 0 ≡ 1
      first_place = omega arith

      next_place : journal_place s 0 ≡ s.snapshot + 1
      next_place = omega arith

      there : sector_at c (journal_place s (number (sector_at c 0))) ≡ blank
      there = ap (λ b. sector_at c (journal_place s b)) bank_is ∙ ap (λ q. sector_at c q) next_place ∙ none_at s.snapshot fits (omega (arith, some))

-- in versions
pub made_is : (shape : Shape) (records : List Record) (octets : List ℕ) (r : Root) → IsZone (record { apex = shape.apex; records = records }) → octets ≡ flat_map plain records → IsNewRoot (sizes_of shape) octets r → 8 ≤ shape.journal
    → snapshot_sectors (length octets) ≤ shape.snapshot → (c : Content) → IsFormatted r octets (all_sectors (sizes_of shape)) c → opens shape (first_of records) c
made_is shape records octets r valid octets_are new some fits c made = (
  tt,
  (
    c,
    refl,
    (
      record { base = 0; snapshot = octets; entries = []; altered = [] },
      (sector_at c 0, sectors_from c 1 (snapshot_sectors (length octets)), made_opens (sizes_of shape) octets r new some fits c made),
      made_tidy (sizes_of shape) octets r new some fits c made,
      record { number = refl; so_far = omega arith; valid = valid; snapshot = octets_are; changes = tt; altered = refl },
      made.says.opened_is ∙ new.opened,
    ),
  ),
)

-- one sector more after the root
pub laid_more : (octets : List ℕ) (at : ℕ) (d : Content) (x : List ℕ) → 0 < at → at < length d → IsLaid octets (at - 1) x → IsLaidTo octets at d → IsLaidTo octets (at + 1) (slice_set d at x)
laid_more octets at d x some inside here before index lt = ⊎_elim
    (λ (less : index + 1 < at). subst (λ (y : List ℕ). IsLaid octets index y) (sym (at_set-other d at (index + 1) x (λ (same : index + 1 ≡ at). absurd (omega (arith, same, less))))) (before index less))
    (λ last.
    let same : index + 1 ≡ at = omega (arith, last, lt) in
    let there : sector_at (slice_set d at x) (index + 1) ≡ x = ap (λ q. sector_at (slice_set d at x) q) same ∙ at_set-same d at x inside in
    subst (λ (y : List ℕ). IsLaid octets index y) (sym there) (subst (λ n. IsLaid octets n x) (omega (arith, same)) here)) (cases_lt (index + 1) at)

pub root_stays : (at : ℕ) (d : Content) (x : List ℕ) → 0 < at → sector_at (slice_set d at x) 0 ≡ sector_at d 0
root_stays at d x some = at_set-other d at 0 x (λ (same : 0 ≡ at). absurd (omega (arith, same, some)))

pub blank_stays : (at : ℕ) (x : List ℕ) (old new : Content → Type 0) → 0 < at → ((c : Content) → old c → HasBlankRoot c) → Follows (MayWrite at x) old new → (c : Content) → new c → HasBlankRoot c
blank_stays at x old new some blank follows c left =
    let was = follows c left in
    ⊎_elim (λ not. subst (λ (y : Content). HasBlankRoot y) (sym not) (blank was.0 was.1))
    (λ is. subst (λ (y : Content). HasBlankRoot y) (sym is) (root_stays at was.0 x some ∙ blank was.0 was.1)) was.2

-- The root is made blank: what might have been left before, or a blank root.
pub first_crash : (old : Content → Type 0) (c : Content) → CrashOf old ((0, blank) ∷ []) c → old c ⊎ HasBlankRoot c
first_crash old c (d, left, inl not) = inl (subst old (sym not) left)
first_crash old c ([], left, inr is) = inl (subst old (sym is) left)
first_crash old c (x ∷ d, left, inr is) = inr (ap (λ (y : Content). sector_at y 0) is ∙ at_set-same (x ∷ d) 0 blank (omega arith))

pub blank_there : (d e : Content) (may_leave : Content → Type 0) → 0 < length d → e ≡ slice_set d 0 blank → Only e may_leave → (c : Content) → may_leave c → HasBlankRoot c
blank_there d e may_leave some written only c left = ap (λ (y : Content). sector_at y 0) (only c left ∙ written) ∙ at_set-same d 0 blank some

-- The root is written last.
module _ (r : Root) (octets y : List ℕ) (d : Content) (says : SaysRoot y r) (own : Own 0 y) (some : 0 < length d) (laid : IsLaidTo octets (length d) d) where
  pub made_by : IsFormatted r octets (length d) (slice_set d 0 y)
  made_by = record {
    size = length-set d 0 y;
    says = subst (λ (x : List ℕ). SaysRoot x r) (sym (at_set-same d 0 y some)) says;
    own = subst (λ (x : List ℕ). Own 0 x) (sym (at_set-same d 0 y some)) own;
    laid = λ index lt. subst (λ (x : List ℕ). IsLaid octets index x) (sym (at_set-other d 0 (index + 1) y (λ (same : index + 1 ≡ 0). absurd (omega (arith, same))))) (laid index lt);
  }

  pub last_crash : (may_leave : Content → Type 0) → Only d may_leave → HasBlankRoot d → (c : Content) → CrashOf may_leave ((0, y) ∷ []) c → HasBlankRoot c ⊎ IsFormatted r octets (length d) c
  last_crash may_leave only none c (e, left, inl not) = inl (ap (λ (x : Content). sector_at x 0) (not ∙ only e left) ∙ none)
  last_crash may_leave only none c (e, left, inr is) = inr (subst (λ (x : Content). IsFormatted r octets (length d) x) (sym (is ∙ ap (λ (x : Content). slice_set x 0 y) (only e left))) made_by)

  pub made_left : (may_leave : Content → Type 0) (e : Content) → Only e may_leave → e ≡ slice_set d 0 y → (c : Content) → may_leave c → IsFormatted r octets (length d) c
  made_left may_leave e only written c left = subst (λ (x : Content). IsFormatted r octets (length d) x) (sym (only c left ∙ written)) made_by

-- The three phases.
module _ {D : Type 0} (g : Ghosts D) (r : Root) (octets : List ℕ) (old mid : D) (count : ℕ) (first : LeavesOnly g.moment g.left_since old mid (CrashOf (g.may_leave old) ((0, blank) ∷ []))) where
  abbrev Left : Content → Type 0
  Left = LeftByMaking g r octets count old

  pub first_run : LeavesOnly g.moment g.left_since old mid (LeftByMaking g r octets count old)
  first_run = weaker g.moment g.left_since old mid (CrashOf (g.may_leave old) ((0, blank) ∷ [])) Left first (λ c left. ⊎_elim (λ before. inl before) (λ none. inr (inl none)) (first_crash (g.may_leave old) c left))

  module _ (next : D) (second : LeavesOnly g.moment g.left_since mid next HasBlankRoot) where
    pub second_run : LeavesOnly g.moment g.left_since old next (LeftByMaking g r octets count old)
    second_run = joined g.moment g.left_since old mid next Left HasBlankRoot first_run second (λ c none. inr (inl none))

    module _ (y : List ℕ) (says : SaysRoot y r) (own : Own 0 y) (some : 0 < count) (size : length (g.seen next) ≡ count) (laid : IsLaidTo octets count (g.seen next)) (only : Only (g.seen next) (g.may_leave next)) where
      laid_all : IsLaidTo octets (length (g.seen next)) (g.seen next)
      laid_all = subst (λ n. IsLaidTo octets n (g.seen next)) (sym size) laid

      some_there : 0 < length (g.seen next)
      some_there = omega (arith, some, size)

      pub third_run : HasBlankRoot (g.seen next) → (new : D) → LeavesOnly g.moment g.left_since next new (CrashOf (g.may_leave next) ((0, y) ∷ [])) → LeavesOnly g.moment g.left_since old new (LeftByMaking g r octets count old)
      third_run none new third =
          joined g.moment g.left_since old next new Left (CrashOf (g.may_leave next) ((0, y) ∷ [])) second_run third
          (λ c left. inr (subst (λ n. HasBlankRoot c ⊎ IsFormatted r octets n c) size (last_crash r octets y (g.seen next) says own some_there laid_all (g.may_leave next) only none c left)))

      pub all_made : (new : D) → Only (g.seen new) (g.may_leave new) → g.seen new ≡ slice_set (g.seen next) 0 y → (c : Content) → g.may_leave new c → IsFormatted r octets count c
      all_made new only_new written c left = subst (λ n. IsFormatted r octets n c) size (made_left r octets y (g.seen next) says own some_there laid_all (g.may_leave new) (g.seen new) only_new written c left)

-- In versions, where the device has the sectors of the store.
module _ (shape : Shape) (records : List Record) (octets lent : List ℕ) (r : Root) (count : ℕ) (valid : IsZone (record { apex = shape.apex; records = records })) (octets_are : octets ≡ flat_map plain records) (lent_is : lent ≡ octets)
    (new : IsNewRoot (sizes_of shape) octets r) (geometry : IsGeometry shape.snapshot shape.journal count) (fits : snapshot_sectors (length octets) ≤ shape.snapshot) where
  pub made_in_versions : (c : Content) → IsFormatted r lent count c → opens shape (first_of records) c
  made_in_versions c made =
      made_is shape records octets r valid octets_are new geometry.some_entries fits c
      (subst (λ (l : List ℕ). IsFormatted r l (all_sectors (sizes_of shape)) c) lent_is (subst (λ n. IsFormatted r lent n c) geometry.size made))

  pub left_in_versions : {D : Type 0} (g : Ghosts D) (device : D) (c : Content) → LeftByMaking g r lent count device c → LeftByFormat g shape records device c
  left_in_versions g device c (inl before) = inl before
  left_in_versions g device c (inr (inl none)) = inr (inl none)
  left_in_versions g device c (inr (inr made)) = inr (inr (made_in_versions c made))
