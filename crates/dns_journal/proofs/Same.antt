-- What is in a bank alone decides what is stored in it.
use Rattle.std.proofs.Common.{◌≡◌, ℕ, ◌+◌, ◌≤◌, ◌<◌, List, [], ◌∷◌, length, take, drop, sym, ◌∙◌, ap, subst, arith}
use Rattle.std.specs.List.{flat_map}
use Rattle.dns_sectors.specs.Device.{Content}
use Rattle.dns_sectors.specs.Crash.{Write}
use Rattle.dns_layout.specs.Sector.{sector_at, open_count, sequence_number, number, payload_in, bank_open, AreZeros, snapshot_sectors_in}
use Rattle.dns_layout.specs.Own.{IsIntactIn}
use Rattle.dns_layout.specs.Journal.{Entry, entry_size, IsNextHeadIn, ReadsIn, Stand}
use Rattle.dns_layout.specs.Store.{Sizes, Stored, IsRootIn, ArePartsIn, OpensByIn, IsLeftOver, all_sectors, snapshot_place, journal_place, bank_end}
use Rattle.dns_layout.specs.declared.format.Format.{Format}
use Rattle.dns_journal.specs.Clearing.{NamesSameBank}
use Rattle.dns_journal.proofs.Reading.{stand_same}

module _ (f : Format) where
  -- a head's entry ends within the journal, so reading asks for no sector after it
  pub reads_same : (es : List Entry) (until at version opened : ℕ) (c d : Content) → ((q : ℕ) → at ≤ q → q < until → sector_at c q ≡ sector_at d q) → ReadsIn f until d at version opened es → ReadsIn f until c at version opened es
  reads_same [] until at version opened c d same there = λ next. there (subst (λ (x : List ℕ). IsNextHeadIn f until at version opened x) (same at (omega arith) (omega (arith, next.within))) next)
  reads_same (e ∷ es) until at version opened c d same there =
      let inside : at + entry_size e ≤ until = omega (arith, there.0.head.within, there.0.count) in (
        there.0,
        same at (omega arith) (omega (arith, inside)) ∙ there.1,
        stand_same e.bodies (at + 1) until c d (omega (arith, inside)) (λ q from lt. same q (omega (arith, from)) lt) there.2,
        reads_same es until (at + entry_size e) (version + 1) (open_count e.head) c d (λ q from lt. same q (omega (arith, from)) lt) there.3,
      )

  parts_same : (root root' : List ℕ) (index : ℕ) (parts : List (List ℕ)) → bank_open root' ≡ bank_open root → sequence_number root' ≡ sequence_number root → ArePartsIn f root index parts → ArePartsIn f root' index parts
  parts_same root root' index [] same_open same_base are = tt
  parts_same root root' index (x ∷ xs) same_open same_base are = (
    record { tagged = are.0.tagged; bank_open = are.0.bank_open ∙ sym same_open; base = are.0.base ∙ sym same_base; numbered = are.0.numbered },
    parts_same root root' (index + 1) xs same_open same_base are.1,
  )

  module _ (s : Sizes) (k : Stored) (d : Content) (root : List ℕ) (parts : List (List ℕ)) (opens : OpensByIn f s d root parts k) where
    -- The bank in use is as it was, and a root names it: the same is stored, where each sector that isn't left over is intact.
    pub opens_same : (c : Content) (root' : List ℕ) → length c ≡ length d → sector_at c 0 ≡ root' → IsRootIn f s root' → NamesSameBank root root'
        → ((q : ℕ) → snapshot_place s (number root) ≤ q → q < bank_end s (number root) → sector_at c q ≡ sector_at d q)
        → ((at : ℕ) → at < all_sectors s → (IsLeftOver f s root' at → ⊥) → IsIntactIn f at (sector_at c at))
        → OpensByIn f s c root' parts k
    opens_same c root' size stands valid names same own =
        let inside : snapshot_place s (number root) + length parts ≤ journal_place s (number root) = omega (arith, opens.count, opens.valid.fits) in
        record {
          size = size ∙ opens.size;
          stands = stands;
          valid = valid;
          base = names.base ∙ opens.base;
          count = opens.count ∙ ap (snapshot_sectors_in f) (sym names.length);
          expected = parts_same root root' 0 parts names.bank_open names.base opens.expected;
          placed =
              subst (λ n. Stand c (snapshot_place s n) parts) (sym names.bank)
              (stand_same parts (snapshot_place s (number root)) (journal_place s (number root)) c d inside (λ q from lt. same q from (omega (arith, lt))) opens.placed);
          snapshot = ap (λ n. take n (flat_map (payload_in f) parts)) names.length ∙ opens.snapshot;
          zeros = subst (λ n. AreZeros (drop n (flat_map (payload_in f) parts))) (sym names.length) opens.zeros;
          journal =
              subst (λ n. ReadsIn f (bank_end s n) c (journal_place s n) k.base (bank_open root') k.entries) (sym names.bank)
              (subst (λ o. ReadsIn f (bank_end s (number root)) c (journal_place s (number root)) k.base o k.entries) (sym names.bank_open)
              (reads_same k.entries (bank_end s (number root)) (journal_place s (number root)) k.base (bank_open root) c d (λ q from lt. same q (omega (arith, from)) lt) opens.journal));
          own = own;
        }

    -- which sectors were altered doesn't matter
    pub opens_but : (ws : List Write) → OpensByIn f s d root parts (record k { altered = ws })
    opens_but ws = record {
      size = opens.size;
      stands = opens.stands;
      valid = opens.valid;
      base = opens.base;
      count = opens.count;
      expected = opens.expected;
      placed = opens.placed;
      snapshot = opens.snapshot;
      zeros = opens.zeros;
      journal = opens.journal;
      own = opens.own;
    }
