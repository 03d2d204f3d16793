-- Positions of a store: its root, and its two banks.
use Rattle.std.proofs.Common.{◌≡◌, ◌≢◌, ◌⊎◌, inl, inr, ⊎_elim, ℕ, zero, suc, ◌+◌, ◌≤◌, ◌<◌, List, [], ◌∷◌, ◌++◌, length, replicate, ◌∙◌, ap, arith}
use Rattle.std.proofs.lemmas.Bool.{cases_lt}
use Rattle.std.specs.Prelude.{slice_set}
use Rattle.dns_sectors.specs.Device.{Content}
use Rattle.dns_sectors.specs.Crash.{Write, after_writes, SomeApplied}
use Rattle.dns_sectors.specs.Phase.{zeros_from}
use Rattle.dns_sectors.proofs.Phases.{applied-more}
use Rattle.dns_layout.specs.Sector.{sector_at, blank}
use Rattle.dns_layout.specs.Journal.{writes_from}
use Rattle.dns_layout.specs.Store.{Sizes, all_sectors, snapshot_place, bank_end, other_of}
use Rattle.dns_journal.proofs.Places.{at_set-same, at_set-other, some-length, all_are_some}
use Rattle.dns_journal.proofs.Altered.{same_or_not}

-- each write is to a position from the first on, and before the second
abbrev pub AllBetween : ℕ → ℕ → List Write → Type 0
AllBetween low high [] = Unit {0}
AllBetween low high (w ∷ ws) = (low ≤ w.0) × (w.0 < high) × AllBetween low high ws

pub between_append : (low high : ℕ) (xs ys : List Write) → AllBetween low high xs → AllBetween low high ys → AllBetween low high (xs ++ ys)
between_append low high [] ys left right = right
between_append low high (x ∷ xs) ys left right = (left.0, left.1, between_append low high xs ys left.2 right)

pub between_from : (low high at : ℕ) (xs : List (List ℕ)) → low ≤ at → at + length xs ≤ high → AllBetween low high (writes_from at xs)
between_from low high at [] from to = tt
between_from low high at (x ∷ xs) from to = (from, omega (arith, to), between_from low high (at + 1) xs (omega (arith, from)) (omega (arith, to)))

pub some_outside : (ws : List Write) (low high q : ℕ) (d c : Content) → AllBetween low high ws → (q < low) ⊎ (high ≤ q) → SomeApplied ws d c → sector_at c q ≡ sector_at d q
some_outside [] low high q d c between out is = ap (λ (x : Content). sector_at x q) is
some_outside (w ∷ ws) low high q d c between out (inl not) = some_outside ws low high q d c between.2 out not
some_outside (w ∷ ws) low high q d c between out (inr is) =
    let ne : q ≢ w.0 = λ e. ⊎_elim (λ below. absurd (omega (arith, e, below, between.0))) (λ above. absurd (omega (arith, e, above, between.1))) out in
    some_outside ws low high q (slice_set d w.0 w.1) c between.2 out is ∙ at_set-other d w.0 q w.1 ne

pub banks_apart : (s : Sizes) (n q : ℕ) → n ≤ 1 → snapshot_place s n ≤ q → q < bank_end s n → (q < snapshot_place s (other_of n)) ⊎ (bank_end s (other_of n) ≤ q)
banks_apart s zero q le from to = inl (omega (arith, to))
banks_apart s (suc zero) q le from to = inr (omega (arith, from))
banks_apart s (suc (suc n)) q le from to = absurd (omega (arith, le))

pub root_apart : (s : Sizes) (n : ℕ) → 0 < snapshot_place s n
root_apart s n = omega arith

-- each position after the root is in one of the banks
pub which_bank : (s : Sizes) (n q : ℕ) → n ≤ 1 → 0 < q → q < all_sectors s
    → ((snapshot_place s n ≤ q) × (q < bank_end s n)) ⊎ ((snapshot_place s (other_of n) ≤ q) × (q < bank_end s (other_of n)))
which_bank s zero q le some lt =
    ⊎_elim (λ (below : q < 1 + (s.snapshot + s.journal)). inl (omega (arith, some), omega (arith, below))) (λ above. inr (omega (arith, above), omega (arith, lt))) (cases_lt q (1 + (s.snapshot + s.journal)))
which_bank s (suc zero) q le some lt =
    ⊎_elim (λ (below : q < 1 + (s.snapshot + s.journal)). inr (omega (arith, some), omega (arith, below))) (λ above. inl (omega (arith, above), omega (arith, lt))) (cases_lt q (1 + (s.snapshot + s.journal)))
which_bank s (suc (suc n)) q le some lt = absurd (omega (arith, le))

pub zeros_between : (low high from n : ℕ) → low ≤ from → from + n ≤ high → AllBetween low high (zeros_from from n)
zeros_between low high from zero le to = tt
zeros_between low high from (suc n) le to = append (zeros_from from n) (zeros_between low high from n le (omega (arith, to)))
  where
    append : (ws : List Write) → AllBetween low high ws → AllBetween low high (ws ++ (from + n, replicate 512 0) ∷ [])
    append [] all = (omega (arith, le), omega (arith, to), tt)
    append (w ∷ ws) all = (all.0, all.1, append ws all.2)

-- zeros that are all written are there
pub zeros_stand : (from n q : ℕ) (d : Content) → from ≤ q → q < from + n → from + n ≤ length d → sector_at (after_writes (zeros_from from n) d) q ≡ blank
zeros_stand from zero q d le lt size = absurd (omega (arith, le, lt))
zeros_stand from (suc n) q d le lt size =
    let last : after_writes (zeros_from from (suc n)) d ≡ slice_set (after_writes (zeros_from from n) d) (from + n) (replicate 512 0) = applied-more (zeros_from from n) (from + n) (replicate 512 0) d in
    let same_size : length (after_writes (zeros_from from n) d) ≡ length d = some-length (zeros_from from n) d (after_writes (zeros_from from n) d) (all_are_some (zeros_from from n) d) in
    ap (λ (c : Content). sector_at c q) last
    ∙ ⊎_elim
    (λ (here : q ≡ from + n). ap (λ p. sector_at (slice_set (after_writes (zeros_from from n) d) (from + n) (replicate 512 0)) p) here ∙ at_set-same (after_writes (zeros_from from n) d) (from + n) (replicate 512 0) (omega (arith, same_size, size)))
    (λ (other : q ≢ from + n). at_set-other (after_writes (zeros_from from n) d) (from + n) q (replicate 512 0) other ∙ zeros_stand from n q d le (omega (arith, lt, other)) (omega (arith, size)))
    (same_or_not q (from + n))

pub bank_inside : (s : Sizes) (n : ℕ) → bank_end s (other_of n) ≤ all_sectors s
bank_inside s zero = omega arith
bank_inside s (suc n) = omega arith
