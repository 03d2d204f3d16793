-- The one record that passes a test, found by its position among the first records.
use Rattle.std.proofs.Common.{◌≡◌, ℕ, zero, suc, ◌<◌, Bool, true, false, List, [], ◌∷◌, ◌++◌, length, refl, ap, ◌∙◌, arith, cond}
use Rattle.std.specs.Prelude.{Some, filter, slice_get}
use Rattle.std.proofs.lemmas.Option.{slice_get_within}
use Rattle.dns_records.specs.Record.{Record}

some_same : (x r : Record) → Some x ≡ Some r → x ≡ r
some_same x r e = cc

head_same : (x s : Record) (ys : List Record) → x ∷ ys ≡ s ∷ [] → s ≡ x
head_same x s ys e = cc

module _ (p : Record → Bool) (rest : List Record) where
  some_step : (x : Record) (xs : List Record) (b : Bool) → 0 < length (filter p (xs ++ rest)) → 0 < length (cond b (x ∷ filter p (xs ++ rest)) (filter p (xs ++ rest)))
  some_step x xs true h = omega arith
  some_step x xs false h = h

  -- one that passes is among those that pass
  kept_some : (xs : List Record) (i : ℕ) (r : Record) → slice_get xs i ≡ Some r → p r ≡ true → 0 < length (filter p (xs ++ rest))
  kept_some [] i r e h = absurd (let inside = slice_get_within [] i r e in omega (arith, inside))
  kept_some (x ∷ xs) zero r e h = first (p x) (ap p (some_same x r e) ∙ h)
    where
      first : (b : Bool) → b ≡ true → 0 < length (cond b (x ∷ filter p (xs ++ rest)) (filter p (xs ++ rest)))
      first true f = omega arith
      first false f = absurd cc
  kept_some (x ∷ xs) (suc i) r e h = some_step x xs (p x) (kept_some xs i r e h)

  -- where one alone passes, it is that one
  pub one_kept : (xs : List Record) (i : ℕ) (s r : Record) → filter p (xs ++ rest) ≡ s ∷ [] → slice_get xs i ≡ Some r → p r ≡ true → filter p (xs ++ rest) ≡ r ∷ []
  one_kept [] i s r one e h = absurd (let inside = slice_get_within [] i r e in omega (arith, inside))
  one_kept (x ∷ xs) zero s r one e h = first (p x) refl one
    where
      first : (b : Bool) → p x ≡ b → cond b (x ∷ filter p (xs ++ rest)) (filter p (xs ++ rest)) ≡ s ∷ [] → cond b (x ∷ filter p (xs ++ rest)) (filter p (xs ++ rest)) ≡ r ∷ []
      first true f one = one ∙ ap (λ (y : Record). y ∷ []) (head_same x s (filter p (xs ++ rest)) one ∙ some_same x r e)
      first false f one = absurd (let g : p x ≡ true = ap p (some_same x r e) ∙ h in cc)
  one_kept (x ∷ xs) (suc i) s r one e h = first (p x) one (λ alone. one_kept xs i s r alone e h)
    where
      first : (b : Bool) → cond b (x ∷ filter p (xs ++ rest)) (filter p (xs ++ rest)) ≡ s ∷ [] → (filter p (xs ++ rest) ≡ s ∷ [] → filter p (xs ++ rest) ≡ r ∷ []) → cond b (x ∷ filter p (xs ++ rest)) (filter p (xs ++ rest)) ≡ r ∷ []
      first true one next = absurd (let few : length (x ∷ filter p (xs ++ rest)) ≡ length (s ∷ []) = ap length one in let some = kept_some xs i r e h in omega (arith, few, some))
      first false one next = next one
