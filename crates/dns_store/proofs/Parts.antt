-- The parts of a snapshot, one after the other.
use Rattle.std.proofs.Common.{◌≡◌, ⊎_elim, ℕ, zero, suc, ◌+◌, ◌<◌, List, [], ◌∷◌, ◌++◌, length, take, drop, sym, ◌∙◌, ap, subst, arith}
use Rattle.std.proofs.Math.Nat.{eq-or-lt_of_le}
use Rattle.std.specs.List.{flat_map}
use Rattle.dns_sectors.specs.Device.{Content}
use Rattle.dns_layout.specs.Sector.{AreZeros, sector_at, number, payload_in, snapshot_length}
use Rattle.dns_layout.specs.Store.{Sizes, Stored, IsPartIn, ArePartsIn, OpensByIn, snapshot_place}
use Rattle.dns_layout.specs.declared.format.Format.{Format}
use Rattle.dns_journal.specs.Reads.{sectors_from}
use Rattle.dns_journal.proofs.Looking.{from_more, length-from, stand_is}
use Rattle.dns_store.specs.Snapshot.{parts_in, HoldsSnapshotIn, IsWrongPartIn, IsWrongTailIn}

module _ (f : Format) where
  pub are_more : (x : List ℕ) (i : ℕ) (xs : List (List ℕ)) (y : List ℕ) → ArePartsIn f x i xs → IsPartIn f x (i + length xs) y → ArePartsIn f x i (xs ++ y ∷ [])
  are_more x i [] y are is = (subst (λ n. IsPartIn f x n y) (omega arith) is, tt)
  are_more x i (z ∷ xs) y are is = (are.0, are_more x (i + 1) xs y are.1 (subst (λ n. IsPartIn f x n y) (omega arith) is))

  pub are_split : (x : List ℕ) (i : ℕ) (xs : List (List ℕ)) (y : List ℕ) → ArePartsIn f x i (xs ++ y ∷ []) → ArePartsIn f x i xs × IsPartIn f x (i + length xs) y
  are_split x i [] y are = (tt, subst (λ n. IsPartIn f x n y) (omega arith) are.0)
  are_split x i (z ∷ xs) y are = let rest = are_split x (i + 1) xs y are.1 in ((are.0, rest.0), subst (λ n. IsPartIn f x n y) (omega arith) rest.1)

  -- one part more
  pub are_from : (x : List ℕ) (c : Content) (at i : ℕ) → ArePartsIn f x 0 (sectors_from c at i) → IsPartIn f x i (sector_at c (at + i)) → ArePartsIn f x 0 (sectors_from c at (i + 1))
  are_from x c at i are is =
      subst (λ (xs : List (List ℕ)). ArePartsIn f x 0 xs) (sym (from_more c at i)) (are_more x 0 (sectors_from c at i) (sector_at c (at + i)) are (subst (λ n. IsPartIn f x n (sector_at c (at + i))) (omega (arith, length-from c at i)) is))

  -- each of them is a part
  pub are_at : (n : ℕ) (x : List ℕ) (c : Content) (at k : ℕ) → ArePartsIn f x 0 (sectors_from c at n) → k < n → IsPartIn f x k (sector_at c (at + k))
  are_at zero x c at k are lt = absurd (omega (arith, lt))
  are_at (suc n) x c at k are lt =
      let parts = are_split x 0 (sectors_from c at n) (sector_at c (at + n)) are in
      ⊎_elim
      (λ (same : k ≡ n). subst (λ q. IsPartIn f x q (sector_at c (at + q))) (sym same) (subst (λ q. IsPartIn f x q (sector_at c (at + n))) (omega (arith, length-from c at n)) parts.1))
      (λ (less : k < n). are_at n x c at k parts.0 less) (eq-or-lt_of_le (omega (arith, lt)))

  -- a snapshot that is there has no wrong sector
  pub part_held : (x : List ℕ) (at : ℕ) (c : Content) (octets : List ℕ) → HoldsSnapshotIn f x at c octets → (position : ℕ) → IsWrongPartIn f x at c position → ⊥
  part_held x at c octets holds position fault =
      fault.wrong (subst (λ n. IsPartIn f x fault.index (sector_at c n)) (sym fault.place_is) (are_at (parts_in f x) x c at fault.index holds.parts fault.within))

  module _ (s : Sizes) (c : Content) (x : List ℕ) (parts : List (List ℕ)) (k : Stored) (opens : OpensByIn f s c x parts k) where
    parts_are : parts ≡ sectors_from c (snapshot_place s (number x)) (parts_in f x)
    parts_are = stand_is parts c (snapshot_place s (number x)) opens.placed ∙ ap (λ n. sectors_from c (snapshot_place s (number x)) n) opens.count

    -- what is read is what is stored
    pub snapshot_is : (octets : List ℕ) → HoldsSnapshotIn f x (snapshot_place s (number x)) c octets → octets ≡ k.snapshot
    snapshot_is octets holds = holds.octets_are ∙ ap (λ (l : List (List ℕ)). take (snapshot_length x) (flat_map (payload_in f) l)) (sym parts_are) ∙ opens.snapshot

    -- no sector of it is wrong
    pub no_wrong_part : (position : ℕ) → IsWrongPartIn f x (snapshot_place s (number x)) c position → ⊥
    no_wrong_part position fault =
        fault.wrong
        (subst (λ n. IsPartIn f x fault.index (sector_at c n)) (sym fault.place_is)
        (are_at (parts_in f x) x c (snapshot_place s (number x)) fault.index (subst (λ (l : List (List ℕ)). ArePartsIn f x 0 l) parts_are opens.expected) fault.within))

    pub no_wrong_tail : (position : ℕ) → IsWrongTailIn f x (snapshot_place s (number x)) c position → ⊥
    no_wrong_tail position fault = fault.wrong (subst (λ (l : List (List ℕ)). AreZeros (drop (snapshot_length x) (flat_map (payload_in f) l))) parts_are opens.zeros)
