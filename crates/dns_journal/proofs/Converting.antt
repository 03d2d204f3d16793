-- A store of format 1 that is put into the other bank in format 2: the crash argument, over lists of sectors alone.
use Rattle.std.proofs.Common.{◌≡◌, ◌≢◌, inl, ⊎_elim, ℕ, zero, suc, ◌+◌, ◌-◌, ◌≤◌, ◌<◌, List, [], ◌∷◌, ◌++◌, length, take, drop, replicate, sym, ◌∙◌, subst, arith}
use Rattle.std.proofs.lemmas.Bool.{cases_lt}
use Rattle.std.proofs.lemmas.List.{length-set}
use Rattle.std.specs.Prelude.{slice_set}
use Rattle.std.specs.List.{flat_map}
use Rattle.dns_sectors.specs.Device.{Content}
use Rattle.dns_sectors.specs.Crash.{Write, after_writes, SomeApplied}
use Rattle.dns_sectors.specs.Phase.{zeros_from}
use Rattle.dns_layout.specs.Sector.{sector_at, blank, AreZeros, sequence_number, number, payload, bank_open, snapshot_length, snapshot_sectors, clear}
use Rattle.dns_layout.specs.Own.{IsIntactIn}
use Rattle.dns_layout.specs.Journal.{IsNextHead, IsBatch, Stand, place_behind, writes_from}
use Rattle.dns_layout.specs.Store.{Sizes, Stored, IsRoot, AreParts, OpensBy, OpensByIn, all_sectors, snapshot_place, journal_place, bank_end, other_of, version_of}
use Rattle.dns_layout.specs.declared.format.Format.TheVariants.{One, Two}
use Rattle.dns_journal.specs.Bank.{sectors_of_entries}
use Rattle.dns_journal.proofs.Places.{at_set-same, at_set-other, some-length, all_are_some}
use Rattle.dns_journal.proofs.Reading.{stand_same}
use Rattle.dns_journal.proofs.Altered.{same_or_not}
use Rattle.dns_journal.proofs.Batch.{writes_stand}
use Rattle.dns_journal.proofs.Between.{AllBetween, between_from, some_outside, which_bank, zeros_between, zeros_stand}
use Rattle.dns_journal.proofs.Standing.{turned_opens}
use Rattle.dns_journal.proofs.Zeroed.{other_bank}

-- ---- the new bank is written: what format 1 holds stays
pub old_stays : (s : Sizes) (k : Stored) (d : Content) (x : List ℕ) (parts : List (List ℕ)) → OpensByIn One s d x parts k
    → (ws : List Write) → AllBetween (snapshot_place s (other_of (number x))) (bank_end s (other_of (number x))) ws → (c : Content) → SomeApplied ws d c → OpensByIn One s c x parts k
old_stays s k d x parts opens ws between c some = other_bank One s k d x parts opens ws between c some (λ at lt not. tt)

-- ---- the root is turned, and says that the old bank isn't cleared
pub converted_opens : (s : Sizes) (d : Content) (y : List ℕ) (parts : List (List ℕ)) (new : Stored) (opened : ℕ)
    → length d ≡ all_sectors s → IsRoot s y → sequence_number y ≡ new.base → bank_open y ≡ opened → length parts ≡ snapshot_sectors (snapshot_length y) → AreParts y 0 parts
    → take (snapshot_length y) (flat_map payload parts) ≡ new.snapshot → AreZeros (drop (snapshot_length y) (flat_map payload parts))
    → Stand d (snapshot_place s (number y)) parts → Stand d (journal_place s (number y)) (sectors_of_entries new.entries)
    → IsBatch (bank_end s (number y)) (journal_place s (number y)) new.base opened new.entries
    → (IsNextHead (bank_end s (number y)) (place_behind (journal_place s (number y)) new.entries) (version_of new) opened (sector_at d (place_behind (journal_place s (number y)) new.entries)) → ⊥)
    → IsIntactIn Two 0 y → ((at : ℕ) → snapshot_place s (number y) ≤ at → at < bank_end s (number y) → IsIntactIn Two at (sector_at d at)) → clear y ≡ 0
    → OpensBy s (slice_set d 0 y) y parts new
converted_opens s d y parts new opened size valid base bank count are snapshot zeros parts_stand entries_stand batch ends root_own bank_own not_clear =
    turned_opens s d y parts new opened size valid base bank count are snapshot zeros parts_stand entries_stand batch ends
    (λ at lt kept. ⊎_elim
    (λ (here : at ≡ 0). subst (λ n. IsIntactIn Two n (sector_at (slice_set d 0 y) n)) (sym here) (subst (λ (z : List ℕ). IsIntactIn Two 0 z) (sym (at_set-same d 0 y (omega (arith, size)))) root_own))
    (λ (behind : at ≢ 0).
    let some : 0 < at = omega (arith, behind) in
    ⊎_elim
    (λ inside. subst (λ (z : List ℕ). IsIntactIn Two at z) (sym (at_set-other d 0 at y behind)) (bank_own at inside.0 inside.1))
    (λ old. absurd (kept (record { not_clear = not_clear; from = old.0; to = old.1 })))
    (which_bank s (number y) at valid.bank some lt))
    (same_or_not at 0))

-- ---- the new bank: parts, zeros, entries, zeros

-- each write puts a sector with Q where it goes
abbrev pub Each : (ℕ → List ℕ → Type 0) → List Write → Type 0
Each Q [] = Unit {0}
Each Q (w ∷ ws) = Q w.0 w.1 × Each Q ws

zeros_each : (Q : ℕ → List ℕ → Type 0) → ((at : ℕ) → Q at blank) → (from n : ℕ) → Each Q (zeros_from from n)
zeros_each Q zero_has from zero = tt
zeros_each Q zero_has from (suc n) = append (zeros_from from n) (zeros_each Q zero_has from n)
  where
    append : (ws : List Write) → Each Q ws → Each Q (ws ++ (from + n, replicate 512 0) ∷ [])
    append [] each = (zero_has (from + n), tt)
    append (w ∷ ws) each = (each.0, append ws each.1)

-- what has Q keeps it where such sectors are written
all_each : (Q : ℕ → List ℕ → Type 0) (ws : List Write) (d : Content) (q : ℕ) → q < length d → Each Q ws → Q q (sector_at d q) → Q q (sector_at (after_writes ws d) q)
all_each Q [] d q lt each has = has
all_each Q (w ∷ ws) d q lt each has =
    all_each Q ws (slice_set d w.0 w.1) q (omega (arith, lt, length-set d w.0 w.1)) each.1
    (⊎_elim
    (λ (here : q ≡ w.0). subst (λ n. Q n (sector_at (slice_set d w.0 w.1) n)) (sym here) (subst (λ (y : List ℕ). Q w.0 y) (sym (at_set-same d w.0 w.1 (omega (arith, lt, here)))) each.0))
    (λ (other : q ≢ w.0). subst (λ (y : List ℕ). Q q y) (sym (at_set-other d w.0 q w.1 other)) has)
    (same_or_not q w.0))

size_after : (ws : List Write) (d : Content) → length (after_writes ws d) ≡ length d
size_after ws d = some-length ws d (after_writes ws d) (all_are_some ws d)

-- where they are written, each sector has it
written_each : (Q : ℕ → List ℕ → Type 0) (xs : List (List ℕ)) (at : ℕ) (d : Content) (q : ℕ) → Each Q (writes_from at xs) → at ≤ q → q < at + length xs → at + length xs ≤ length d
    → Q q (sector_at (after_writes (writes_from at xs) d) q)
written_each Q [] at d q each le lt size = absurd (omega (arith, le, lt))
written_each Q (x ∷ xs) at d q each le lt size =
    ⊎_elim
    (λ (here : q ≡ at).
    all_each Q (writes_from (at + 1) xs) (slice_set d at x) q (omega (arith, lt, size, length-set d at x)) each.1
    (subst (λ n. Q n (sector_at (slice_set d at x) n)) (sym here) (subst (λ (z : List ℕ). Q at z) (sym (at_set-same d at x (omega (arith, size)))) each.0)))
    (λ (other : q ≢ at). written_each Q xs (at + 1) (slice_set d at x) q each.1 (omega (arith, le, other)) (omega (arith, lt)) (omega (arith, size, length-set d at x)))
    (same_or_not q at)

zeros_have : (Q : ℕ → List ℕ → Type 0) → ((at : ℕ) → Q at blank) → (from n q : ℕ) (d : Content) → from ≤ q → q < from + n → from + n ≤ length d → Q q (sector_at (after_writes (zeros_from from n) d) q)
zeros_have Q zero_has from n q d le lt size = subst (λ (y : List ℕ). Q q y) (sym (zeros_stand from n q d le lt size)) (zero_has q)

module _ (d : Content) (first journal until : ℕ) (parts entries : List (List ℕ)) (parts_in : first + length parts ≤ journal) (entries_in : journal + length entries ≤ until) (inside : until ≤ length d) where
  abbrev after_parts : Content
  after_parts = after_writes (writes_from first parts) d

  abbrev after_gap : Content
  after_gap = after_writes (zeros_from (first + length parts) (journal - (first + length parts))) after_parts

  abbrev after_entries : Content
  after_entries = after_writes (writes_from journal entries) after_gap

  abbrev after_all : Content
  after_all = after_writes (zeros_from (journal + length entries) (until - (journal + length entries))) after_entries

  size_one : length after_parts ≡ length d
  size_one = size_after (writes_from first parts) d

  size_two : length after_gap ≡ length d
  size_two = size_after (zeros_from (first + length parts) (journal - (first + length parts))) after_parts ∙ size_one

  size_three : length after_entries ≡ length d
  size_three = size_after (writes_from journal entries) after_gap ∙ size_two

  -- Each sector of the new bank has what its parts, its entries and zeros have.
  pub new_bank_each : (Q : ℕ → List ℕ → Type 0) → ((at : ℕ) → Q at blank) → Each Q (writes_from first parts) → Each Q (writes_from journal entries) → (q : ℕ) → first ≤ q → q < until → Q q (sector_at after_all q)
  new_bank_each Q zero_has parts_each entries_each q low high =
      let gap = zeros_each Q zero_has (first + length parts) (journal - (first + length parts)) in
      let rest = zeros_each Q zero_has (journal + length entries) (until - (journal + length entries)) in
      let last : Q q (sector_at after_entries q) → Q q (sector_at after_all q) =
      all_each Q (zeros_from (journal + length entries) (until - (journal + length entries))) after_entries q (omega (arith, high, inside, size_three)) rest in
      let third : Q q (sector_at after_gap q) → Q q (sector_at after_all q) =
      λ is. last (all_each Q (writes_from journal entries) after_gap q (omega (arith, high, inside, size_two)) entries_each is) in
      let second : Q q (sector_at after_parts q) → Q q (sector_at after_all q) =
      λ is. third (all_each Q (zeros_from (first + length parts) (journal - (first + length parts))) after_parts q (omega (arith, high, inside, size_one)) gap is) in
      ⊎_elim
      (λ (in_parts : q < first + length parts). second (written_each Q parts first d q parts_each low in_parts (omega (arith, parts_in, entries_in, inside))))
      (λ behind_parts. ⊎_elim
      (λ (in_gap : q < journal). third (zeros_have Q zero_has (first + length parts) (journal - (first + length parts)) q after_parts behind_parts (omega (arith, in_gap, parts_in)) (omega (arith, parts_in, entries_in, inside, size_one))))
      (λ behind_gap. ⊎_elim
      (λ (in_entries : q < journal + length entries). last (written_each Q entries journal after_gap q entries_each behind_gap in_entries (omega (arith, entries_in, inside, size_two))))
      (λ behind_entries. zeros_have Q zero_has (journal + length entries) (until - (journal + length entries)) q after_entries behind_entries (omega (arith, high, entries_in)) (omega (arith, entries_in, inside, size_three)))
      (cases_lt q (journal + length entries)))
      (cases_lt q journal))
      (cases_lt q (first + length parts))

  -- After the entries there are zeros.
  pub behind_blank : journal + length entries < until → sector_at after_all (journal + length entries) ≡ blank
  behind_blank lt = zeros_stand (journal + length entries) (until - (journal + length entries)) (journal + length entries) after_entries (omega arith) (omega (arith, lt)) (omega (arith, entries_in, inside, size_three))

  -- The parts and the entries are there.
  pub parts_there : Stand after_all first parts
  parts_there =
      stand_same parts first (first + length parts) after_all after_parts (omega arith)
      (λ q from to.
      some_outside (zeros_from (journal + length entries) (until - (journal + length entries))) (journal + length entries) until q after_entries after_all (zeros_between _ _ (journal + length entries) (until - (journal + length entries)) (omega arith) (omega (arith, entries_in))) (inl (omega (arith, to, parts_in))) (all_are_some (zeros_from (journal + length entries) (until - (journal + length entries))) after_entries)
      ∙ some_outside (writes_from journal entries) journal until q after_gap after_entries (between_from journal until journal entries (omega arith) entries_in) (inl (omega (arith, to, parts_in))) (all_are_some (writes_from journal entries) after_gap)
      ∙ some_outside (zeros_from (first + length parts) (journal - (first + length parts))) (first + length parts) journal q after_parts after_gap (zeros_between _ _ (first + length parts) (journal - (first + length parts)) (omega arith) (omega (arith, parts_in))) (inl to) (all_are_some (zeros_from (first + length parts) (journal - (first + length parts))) after_parts))
      (writes_stand parts first d (omega (arith, parts_in, entries_in, inside)))

  pub entries_there : Stand after_all journal entries
  entries_there =
      stand_same entries journal (journal + length entries) after_all after_entries (omega arith)
      (λ q from to.
      some_outside (zeros_from (journal + length entries) (until - (journal + length entries))) (journal + length entries) until q after_entries after_all (zeros_between _ _ (journal + length entries) (until - (journal + length entries)) (omega arith) (omega (arith, entries_in))) (inl to) (all_are_some (zeros_from (journal + length entries) (until - (journal + length entries))) after_entries))
      (writes_stand entries journal after_gap (omega (arith, entries_in, inside, size_two)))
