-- What holds of the elements of two lists at each position.
use Rattle.std.proofs.Common.{◌≡◌, ◌⊎◌, inl, inr, ℕ, zero, suc, ◌<◌, ◌≤◌, Bool, true, false, List, [], ◌∷◌, ◌++◌, length, Some, None, refl, ap, sym, subst, ◌∙◌, slice_set, get_or, arith}
use Rattle.std.specs.Prelude.{nat_eq, slice_get}
use Rattle.std.proofs.lemmas.Bool.{eqb-true, eq-eqb}
use Rattle.std.proofs.lemmas.Option.{slice_get_cases, slice_get_within}

-- what was put at a position is there, and elsewhere nothing changed
put_there : {A : Type 0} (xs : List A) (i : ℕ) (x y : A) → slice_get xs i ≡ Some x → slice_get (slice_set xs i y) i ≡ Some y
put_there [] i x y h = absurd (cc h)
put_there (z ∷ xs) zero x y h = refl
put_there (z ∷ xs) (suc i) x y h = put_there xs i x y h

not_there : {A : Type 0} (xs : List A) (i j : ℕ) (y : A) → (i ≡ j → ⊥) → slice_get (slice_set xs i y) j ≡ slice_get xs j
not_there [] i j y other = refl
not_there (z ∷ xs) zero zero y other = absurd (other refl)
not_there (z ∷ xs) zero (suc j) y other = refl
not_there (z ∷ xs) (suc i) zero y other = refl
not_there (z ∷ xs) (suc i) (suc j) y other = not_there xs i j y (λ same. other (ap suc same))

pub as_long : {A : Type 0} (xs : List A) (i : ℕ) (y : A) → length (slice_set xs i y) ≡ length xs
as_long [] i y = refl
as_long (z ∷ xs) zero y = refl
as_long (z ∷ xs) (suc i) y = ap suc (as_long xs i y)

-- one more after others
pub last_or_before : {A : Type 0} (xs : List A) (x y : A) (i : ℕ) → slice_get (xs ++ x ∷ []) i ≡ Some y → (slice_get xs i ≡ Some y) ⊎ ((i ≡ length xs) × (x ≡ y))
last_or_before [] x y zero h = inr (refl, cc h)
last_or_before [] x y (suc i) h = absurd (cc h)
last_or_before (z ∷ xs) x y zero h = inl h
last_or_before (z ∷ xs) x y (suc i) h = go (last_or_before xs x y i h)
  where
    go : (slice_get xs i ≡ Some y) ⊎ ((i ≡ length xs) × (x ≡ y)) → (slice_get xs i ≡ Some y) ⊎ ((suc i ≡ suc (length xs)) × (x ≡ y))
    go (inl there) = inl there
    go (inr (last, same)) = inr (ap suc last, same)

-- What is there after is there before.
pub was_there : {A : Type 0} (old new : List A) → length new ≡ length old → (i : ℕ) (after : A) → slice_get new i ≡ Some after → (before : A) × (slice_get old i ≡ Some before)
was_there {A} old new count i after now = go (slice_get_cases old i).1
  where
    within : i < length old
    within = omega (arith, slice_get_within new i after now, count)

    go : ((x : A) × (i < length old) × (slice_get old i ≡ Some x) × (get_or old i x ≡ x)) ⊎ ((length old ≤ i) × (slice_get old i ≡ None)) → (before : A) × (slice_get old i ≡ Some before)
    go (inl (x, small, here, e)) = (x, here)
    go (inr (past, e)) = absurd (omega (arith, within, past))

module _ {A : Type 0} (R : ℕ → A → A → Type 0) where
  -- nothing changed
  pub same_each : (old : List A) → ((i : ℕ) (x : A) → R i x x) → (i : ℕ) (before after : A) → slice_get old i ≡ Some before → slice_get old i ≡ Some after → R i before after
  same_each old same i before after there here = (let e : before ≡ after = cc (there, here) in subst (λ (x : A). R i before x) e (same i before))

  -- one was changed
  pub one_each : (old : List A) (index : ℕ) (one new : A) → slice_get old index ≡ Some one → R index one new → ((i : ℕ) (x : A) → (index ≡ i → ⊥) → R i x x)
      → (i : ℕ) (before after : A) → slice_get old i ≡ Some before → slice_get (slice_set old index new) i ≡ Some after → R i before after
  one_each old index one new there is others i before after at now = go (nat_eq index i) refl
    where
      go : (b : Bool) → nat_eq index i ≡ b → R i before after
      go true e =
          let same : index ≡ i = eqb-true index i e in
          let first : one ≡ before = (let f : slice_get old index ≡ Some before = subst (λ (n : ℕ). slice_get old n ≡ Some before) (sym same) at in cc (there, f)) in
          let last : new ≡ after =
          (let f : slice_get (slice_set old index new) index ≡ Some after = subst (λ (n : ℕ). slice_get (slice_set old index new) n ≡ Some after) (sym same) now in
          let g = put_there old index one new there in cc (f, g)) in
          subst (λ (n : ℕ). R n before after) same (subst (λ (x : A). R index x after) first (subst (λ (x : A). R index one x) last is))
      go false e =
          let other : index ≡ i → ⊥ = λ same. (let clash : true ≡ false = sym (eq-eqb index i same) ∙ e in cc) in
          let same : before ≡ after = (let f = not_there old index i new other in cc (at, now, f)) in
          subst (λ (x : A). R i before x) same (others i before other)
