-- What is in a bank that was written, and a root that names it.
use Rattle.std.proofs.Common.{◌≡◌, ℕ, suc, ◌+◌, ◌≤◌, ◌<◌, List, [], ◌∷◌, ◌++◌, length, take, drop, sym, ◌∙◌, subst, arith, length-append}
use Rattle.std.proofs.lemmas.List.{length-set}
use Rattle.std.specs.Prelude.{slice_set}
use Rattle.std.specs.List.{flat_map}
use Rattle.dns_sectors.specs.Device.{Content}
use Rattle.dns_layout.specs.Sector.{sector_at, AreZeros, sequence_number, number, payload, bank_open, snapshot_length, snapshot_sectors}
use Rattle.dns_layout.specs.Own.{IsIntactIn}
use Rattle.dns_layout.specs.Journal.{Entry, entry_size, IsNextHead, IsBatch, ReadsEntries, Stand, place_behind, version_behind}
use Rattle.dns_layout.specs.Store.{Sizes, Stored, IsRoot, AreParts, OpensBy, IsLeftOver, all_sectors, snapshot_place, journal_place, bank_end, version_of}
use Rattle.dns_layout.specs.declared.format.Format.TheVariants.{Two}
use Rattle.dns_journal.specs.Bank.{sectors_of_entries}
use Rattle.dns_journal.proofs.Places.{at_set-same, at_set-other}
use Rattle.dns_journal.proofs.Reading.{stand_same}
use Rattle.dns_journal.proofs.Between.{root_apart}
use Rattle.dns_journal.proofs.Same.{reads_same}

stand_first : (xs ys : List (List ℕ)) (at : ℕ) (c : Content) → Stand c at (xs ++ ys) → Stand c at xs
stand_first [] ys at c there = tt
stand_first (x ∷ xs) ys at c there = (there.0, stand_first xs ys (at + 1) c there.1)

stand_rest : (xs ys : List (List ℕ)) (at : ℕ) (c : Content) → Stand c at (xs ++ ys) → Stand c (at + length xs) ys
stand_rest [] ys at c there = let same : at ≡ at + 0 = omega arith in subst (λ n. Stand c n ys) same there
stand_rest (x ∷ xs) ys at c there = let same : at + 1 + length xs ≡ at + suc (length xs) = omega arith in subst (λ n. Stand c n ys) same (stand_rest xs ys (at + 1) c there.1)

-- Entries of one open count that are there are read, where no valid head comes after them.
pub stand_reads : (es : List Entry) (until at version opened : ℕ) (c : Content) → IsBatch until at version opened es → Stand c at (sectors_of_entries es)
    → (IsNextHead until (place_behind at es) (version_behind version es) opened (sector_at c (place_behind at es)) → ⊥) → ReadsEntries until c at version opened es
stand_reads [] until at version opened c batch there ends = ends
stand_reads (e ∷ es) until at version opened c batch there ends =
    let same : at + 1 + length e.bodies ≡ at + entry_size e = omega arith in
    let rest : Stand c (at + entry_size e) (sectors_of_entries es) = subst (λ n. Stand c n (sectors_of_entries es)) same (stand_rest e.bodies (sectors_of_entries es) (at + 1) c there.1) in (
      batch.0,
      there.0,
      stand_first e.bodies (sectors_of_entries es) (at + 1) c there.1,
      subst (λ o. ReadsEntries until c (at + entry_size e) (version + 1) o es) (sym batch.1) (stand_reads es until (at + entry_size e) (version + 1) opened c batch.2 rest ends),
    )

-- how far the entries go, and that their sectors are as many
pub sectors_within : (es : List Entry) (until at version opened : ℕ) → at ≤ until → IsBatch until at version opened es → at + length (sectors_of_entries es) ≤ until
sectors_within [] until at version opened le batch = omega (arith, le)
sectors_within (e ∷ es) until at version opened le batch =
    let rest = sectors_within es until (at + entry_size e) (version + 1) opened (omega (arith, batch.0.head.within, batch.0.count)) batch.2 in
    omega (arith, rest, length-append e.bodies (sectors_of_entries es))

-- The bank that was written, and a root that names it.
pub turned_opens : (s : Sizes) (d : Content) (y : List ℕ) (parts : List (List ℕ)) (new : Stored) (opened : ℕ)
    → length d ≡ all_sectors s → IsRoot s y → sequence_number y ≡ new.base → bank_open y ≡ opened → length parts ≡ snapshot_sectors (snapshot_length y) → AreParts y 0 parts
    → take (snapshot_length y) (flat_map payload parts) ≡ new.snapshot → AreZeros (drop (snapshot_length y) (flat_map payload parts))
    → Stand d (snapshot_place s (number y)) parts → Stand d (journal_place s (number y)) (sectors_of_entries new.entries)
    → IsBatch (bank_end s (number y)) (journal_place s (number y)) new.base opened new.entries
    → (IsNextHead (bank_end s (number y)) (place_behind (journal_place s (number y)) new.entries) (version_of new) opened (sector_at d (place_behind (journal_place s (number y)) new.entries)) → ⊥)
    → ((at : ℕ) → at < all_sectors s → (IsLeftOver Two s y at → ⊥) → IsIntactIn Two at (sector_at (slice_set d 0 y) at))
    → OpensBy s (slice_set d 0 y) y parts new
turned_opens s d y parts new opened size valid base bank count are snapshot zeros parts_stand entries_stand batch ends own =
    let first = snapshot_place s (number y) in
    let same : (q : ℕ) → 0 < q → sector_at (slice_set d 0 y) q ≡ sector_at d q = λ q from. at_set-other d 0 q y (λ (is : q ≡ 0). absurd (omega (arith, is, from))) in
    record {
      size = length-set d 0 y ∙ size;
      stands = at_set-same d 0 y (omega (arith, size));
      valid = valid;
      base = base;
      count = count;
      expected = are;
      placed = stand_same parts first (first + length parts) (slice_set d 0 y) d (omega arith) (λ q from _. same q (omega (arith, from, root_apart s (number y)))) parts_stand;
      snapshot = snapshot;
      zeros = zeros;
      journal =
          subst (λ o. ReadsEntries (bank_end s (number y)) (slice_set d 0 y) (journal_place s (number y)) new.base o new.entries) (sym bank)
          (reads_same Two new.entries (bank_end s (number y)) (journal_place s (number y)) new.base opened (slice_set d 0 y) d (λ q from _. same q (omega (arith, from, root_apart s (number y))))
          (stand_reads new.entries (bank_end s (number y)) (journal_place s (number y)) new.base opened d batch entries_stand ends));
      own = own;
    }
