-- Tests over the elements that another test keeps, and a list of one.
use Rattle.std.proofs.Common.{◌≡◌, ℕ, suc, ◌≤◌, length, get_or, Bool, true, false, not, ◌&&◌, ◌||◌, List, [], ◌∷◌, Some, refl, sym, ap, arith, cond}
use Rattle.std.specs.Prelude.{filter, ◌==◌}
use Rattle.std.proofs.lemmas.Bool.Decides.{nat_tests}
use Rattle.std.specs.List.{list_any, find}

pub any_kept : {X : Type 0} (q p : X → Bool) (xs : List X) → list_any q (filter p xs) ≡ list_any (λ x. p x && q x) xs
any_kept q p [] = refl
any_kept q p (x ∷ xs) = at (p x) (any_kept q p xs)
  where
    at : (b : Bool) → list_any q (filter p xs) ≡ list_any (λ x. p x && q x) xs → list_any q (cond b (x ∷ filter p xs) (filter p xs)) ≡ ((b && q x) || list_any (λ x. p x && q x) xs)
    at true rest = ap (λ b. q x || b) rest
    at false rest = rest

pub find_kept : {X : Type 0} (q p : X → Bool) (xs : List X) → ((x : X) → q x ≡ true → p x ≡ true) → find q (filter p xs) ≡ find q xs
find_kept q p [] h = refl
find_kept q p (x ∷ xs) h = at (p x) (q x) refl refl (find_kept q p xs h)
  where
    at : (b d : Bool) → p x ≡ b → q x ≡ d → find q (filter p xs) ≡ find q xs → find q (cond b (x ∷ filter p xs) (filter p xs)) ≡ cond d (Some x) (find q xs)
    at true d e f rest = (λ i. cond (f i) (Some x) (rest i))
    at false true e f rest = (let kept = h x f in absurd cc)
    at false false e f rest = rest

pub numbers_same : (a b : ℕ) → (a == b) ≡ true → a ≡ b
numbers_same a b e = grind (arith, nat_tests)

pub twice : (b : Bool) → not (not b) ≡ b
twice true = refl
twice false = refl

-- a test keeps no more than there are
pub kept_most : {X : Type 0} (p : X → Bool) (xs : List X) → length (filter p xs) ≤ length xs
kept_most p [] = omega arith
kept_most p (x ∷ xs) = at (p x) (kept_most p xs)
  where
    at : (b : Bool) → length (filter p xs) ≤ length xs → length (cond b (x ∷ filter p xs) (filter p xs)) ≤ suc (length xs)
    at true rest = omega arith
    at false rest = omega arith

pub single : {A : Type 0} (xs : List A) (x d : A) → length xs ≡ 1 → x ≡ get_or xs 0 d → xs ≡ x ∷ []
single [] x d size is = absurd (omega (arith, size))
single (y ∷ []) x d size is = ap (λ z. z ∷ []) (sym is)
single (y ∷ z ∷ rest) x d size is = absurd (omega (arith, size))
