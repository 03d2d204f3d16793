-- Contents some of whose sectors were altered.
use Rattle.std.proofs.Common.{◌≡◌, ◌≢◌, ◌⊎◌, inl, inr, ⊎_elim, ℕ, zero, suc, ◌+◌, ◌≤◌, ◌<◌, List, [], ◌∷◌, ◌++◌, length, refl, sym, ◌∙◌, ap, subst, arith}
use Rattle.std.proofs.lemmas.List.{length-set}
use Rattle.std.proofs.lemmas.Bool.{cases_lt}
use Rattle.std.specs.Prelude.{slice_set}
use Rattle.dns_sectors.specs.Device.{Content}
use Rattle.dns_sectors.specs.Crash.{Write, SomeApplied}
use Rattle.dns_layout.specs.Sector.{sector_at, number}
use Rattle.dns_layout.specs.Own.{IsIntactIn, IsAltered, AreOwn}
use Rattle.dns_layout.specs.Store.{Sizes, Stored, OpensByIn, all_sectors, snapshot_place, bank_end, other_of}
use Rattle.dns_layout.specs.declared.format.Format.{Format}
use Rattle.dns_layout.specs.declared.format.Format.TheVariants.{Two}
use Rattle.dns_journal.specs.declared.read.ReadError.{ReadError}
use Rattle.dns_journal.specs.declared.read.ReadError.TheVariants.{Device, Damaged, OutOfMemory}
use Rattle.dns_journal.specs.Reads.{IsSpoilt, NamesSpoilt, AreIntact, IsThat}
use Rattle.dns_journal.proofs.Places.{at_set-same, at_set-other}

-- nothing was altered
pub altered_itself : (f : Format) (c : Content) → IsAltered f c c
altered_itself f c = record { size = refl; same = λ at own. refl }

-- what is read of an altered content was there before
pub was_there : (f : Format) (c d : Content) (at : ℕ) (x : List ℕ) → IsAltered f c d → sector_at d at ≡ x → IsIntactIn f at x → sector_at c at ≡ x
was_there f c d at x altered is own = sym (altered.same at (subst (λ (y : List ℕ). IsIntactIn f at y) (sym is) own)) ∙ is

-- A sector that isn't intact, where those of the content before are, was altered.
pub spoilt_altered : (f : Format) (c d : Content) (at : ℕ) → IsIntactIn f at (sector_at c at) → (IsIntactIn f at (sector_at d at) → ⊥) → sector_at d at ≢ sector_at c at
spoilt_altered f c d at own spoilt same = spoilt (subst (λ (y : List ℕ). IsIntactIn f at y) (sym same) own)

pub same_or_not : (a b : ℕ) → (a ≡ b) ⊎ (a ≢ b)
same_or_not a b =
    ⊎_elim (λ less. inr (λ same. absurd (omega (arith, less, same))))
    (λ more. ⊎_elim (λ less. inr (λ same. absurd (omega (arith, less, same)))) (λ other. inl (omega (arith, more, other))) (cases_lt b a)) (cases_lt a b)

-- the same write to both
pub altered_set : (f : Format) (c d : Content) (at : ℕ) (x : List ℕ) → at < length c → IsAltered f c d → IsAltered f (slice_set c at x) (slice_set d at x)
altered_set f c d at x lt altered = record {
  size = length-set d at x ∙ altered.size ∙ sym (length-set c at x);
  same = λ q own. ⊎_elim
      (λ (here : q ≡ at).
      subst (λ n. sector_at (slice_set d at x) n ≡ sector_at (slice_set c at x) n) (sym here) (at_set-same d at x (omega (arith, lt, altered.size)) ∙ sym (at_set-same c at x lt)))
      (λ (other : q ≢ at).
      at_set-other d at q x other
      ∙ altered.same q (subst (λ (y : List ℕ). IsIntactIn f q y) (at_set-other d at q x other) own)
      ∙ sym (at_set-other c at q x other))
      (same_or_not q at);
}

-- Any of some writes that put intact sectors leave each sector intact that was.
pub some_intact : (ws : List Write) (d c : Content) (q : ℕ) → q < length d → AreOwn ws → IsIntactIn Two q (sector_at d q) → SomeApplied ws d c → IsIntactIn Two q (sector_at c q)
some_intact [] d c q lt own intact is = subst (λ (x : Content). IsIntactIn Two q (sector_at x q)) (sym is) intact
some_intact (w ∷ ws) d c q lt own intact (inl not) = some_intact ws d c q lt own.1 intact not
some_intact (w ∷ ws) d c q lt own intact (inr is) =
    some_intact ws (slice_set d w.0 w.1) c q (omega (arith, lt, length-set d w.0 w.1)) own.1
    (⊎_elim
    (λ (here : q ≡ w.0).
    subst (λ n. IsIntactIn Two n (sector_at (slice_set d w.0 w.1) n)) (sym here)
    (subst (λ (y : List ℕ). IsIntactIn Two w.0 y) (sym (at_set-same d w.0 w.1 (omega (arith, lt, here)))) own.0))
    (λ (other : q ≢ w.0). subst (λ (y : List ℕ). IsIntactIn Two q y) (sym (at_set-other d w.0 q w.1 other)) intact)
    (same_or_not q w.0))
    is

pub own_append : (xs ys : List Write) → AreOwn xs → AreOwn ys → AreOwn (xs ++ ys)
own_append [] ys left right = right
own_append (x ∷ xs) ys left right = (left.0, own_append xs ys left.1 right)

-- a wider range
pub spoilt_within : (f : Format) (d : Content) (low from until high : ℕ) (e : ReadError) → low ≤ from → until ≤ high → NamesSpoilt f d from until e → NamesSpoilt f d low high e
spoilt_within f d low from until high Device a b s = tt
spoilt_within f d low from until high (Damaged position) a b s = record { first = omega (arith, a, s.first); last = omega (arith, b, s.last); spoilt = s.spoilt }
spoilt_within f d low from until high OutOfMemory a b s = tt

-- the same of one content and another that is equal
pub spoilt_same : (f : Format) (d e : Content) (from until : ℕ) (r : ReadError) → d ≡ e → NamesSpoilt f d from until r → NamesSpoilt f e from until r
spoilt_same f d e from until r same = subst (λ (x : Content). NamesSpoilt f x from until r) same

-- In the bank in use nothing is left over: what the content before opened by is intact there.
pub bank_intact : (f : Format) (s : Sizes) (k : Stored) (c : Content) (root : List ℕ) (parts : List (List ℕ)) → OpensByIn f s c root parts k
    → (at : ℕ) → snapshot_place s (number root) ≤ at → at < bank_end s (number root) → IsIntactIn f at (sector_at c at)
bank_intact f s k c root parts opens at from to =
    opens.own at (inside (number root) opens.valid.bank from to) (λ left. apart (number root) opens.valid.bank from to left.from left.to)
  where
    inside : (n : ℕ) → n ≤ 1 → snapshot_place s n ≤ at → at < bank_end s n → at < all_sectors s
    inside zero le low high = omega (arith, high)
    inside (suc zero) le low high = omega (arith, high)
    inside (suc (suc n)) le low high = absurd (omega (arith, le))

    apart : (n : ℕ) → n ≤ 1 → snapshot_place s n ≤ at → at < bank_end s n → snapshot_place s (other_of n) ≤ at → at < bank_end s (other_of n) → ⊥
    apart zero le low high left right = absurd (omega (arith, high, left))
    apart (suc zero) le low high left right = absurd (omega (arith, low, right))
    apart (suc (suc n)) le low high left right = absurd (omega (arith, le))

-- Of sectors that are read one after the other, of which those before one are intact and it isn't: it is the first that is named.
pub first_spoilt : (f : Format) (d : Content) (at i index : ℕ) (e : ReadError) → NamesSpoilt f d (at + i) (at + i + 1) e → AreIntact f d at i → AreIntact f d at index
    → (IsIntactIn f (at + index) (sector_at d (at + index)) → ⊥) → IsThat (at + index) e
first_spoilt f d at i index Device named passed before not = inl refl
first_spoilt f d at i index (Damaged position) named passed before not =
    let here : position ≡ at + i = omega (arith, named.first, named.last) in
    let spoilt : IsIntactIn f (at + i) (sector_at d (at + i)) → ⊥ = λ own. named.spoilt (subst (λ n. IsIntactIn f n (sector_at d n)) (sym here) own) in
    ⊎_elim (λ (less : i < index). absurd (spoilt (before i less)))
    (λ more. ⊎_elim (λ (less : index < i). absurd (not (passed index less)))
    (λ other. let same : position ≡ at + index = omega (arith, here, more, other) in inr (inr (ap (λ n. Damaged n) same)))
    (cases_lt index i)) (cases_lt i index)
first_spoilt f d at i index OutOfMemory named passed before not = inr (inl refl)

-- one more
pub one_more_intact : (f : Format) (d : Content) (at i : ℕ) → AreIntact f d at i → IsIntactIn f (at + i) (sector_at d (at + i)) → AreIntact f d at (i + 1)
one_more_intact f d at i passed own j lt =
    ⊎_elim (λ (less : j < i). passed j less) (λ more. (let same : j ≡ i = omega (arith, lt, more) in subst (λ n. IsIntactIn f (at + n) (sector_at d (at + n))) (sym same) own)) (cases_lt j i)

-- Where the content before opens, no sector of its bank that is named was there so: what is named was altered.
pub names_altered : (f : Format) (s : Sizes) (k : Stored) (c d : Content) (root : List ℕ) (parts : List (List ℕ)) (from until position : ℕ) → OpensByIn f s c root parts k
    → snapshot_place s (number root) ≤ from → until ≤ bank_end s (number root) → IsSpoilt f d from until position → sector_at d position ≢ sector_at c position
names_altered f s k c d root parts from until position opens low high named =
    spoilt_altered f c d position (bank_intact f s k c root parts opens position (omega (arith, low, named.first)) (omega (arith, high, named.last))) named.spoilt

-- On the content itself none is named.
pub none_spoilt : (f : Format) (s : Sizes) (k : Stored) (c : Content) (root : List ℕ) (parts : List (List ℕ)) (from until position : ℕ) → OpensByIn f s c root parts k
    → snapshot_place s (number root) ≤ from → until ≤ bank_end s (number root) → IsSpoilt f c from until position → ⊥
none_spoilt f s k c root parts from until position opens low high named = names_altered f s k c c root parts from until position opens low high named refl
