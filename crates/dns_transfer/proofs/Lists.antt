-- An element of a list by its number, and what is after it.
use Rattle.std.proofs.Common.{◌≡◌, ℕ, zero, suc, ◌+◌, ◌-◌, ◌<◌, ◌≤◌, List, [], ◌∷◌, ◌++◌, Some, None, length, get_or, drop, refl, ap, ◌∙◌, arith}
use Rattle.std.specs.Prelude.{slice_get}

pub get_left : {X : Type 0} (xs ys : List X) (k : ℕ) → k < length xs → slice_get (xs ++ ys) k ≡ slice_get xs k
get_left [] ys k h = absurd (omega arith)
get_left (x ∷ xs) ys zero h = refl
get_left (x ∷ xs) ys (suc k) h = get_left xs ys k (omega arith)

pub within : {X : Type 0} (xs : List X) (k : ℕ) (x : X) → slice_get xs k ≡ Some x → k < length xs
within [] k x e = absurd cc
within (y ∷ ys) zero x e = omega arith
within (y ∷ ys) (suc k) x e = omega (arith, within ys k x e)

pub past : {X : Type 0} (xs : List X) (k : ℕ) → slice_get xs k ≡ None → length xs ≤ k
past [] k e = omega arith
past (y ∷ ys) zero e = absurd cc
past (y ∷ ys) (suc k) e = omega (arith, past ys k e)

pub get_at : {X : Type 0} (xs : List X) (k : ℕ) (x : X) → k < length xs → x ≡ get_or xs k x → slice_get xs k ≡ Some x
get_at [] k x h e = absurd (omega (arith, h))
get_at (y ∷ ys) zero x h e = let is : y ≡ x = cc in ap (λ z. Some z) is
get_at (y ∷ ys) (suc k) x h e = get_at ys k x (omega (arith, h)) e

-- from an element on
pub drop_get : {X : Type 0} (xs : List X) (k : ℕ) (x : X) → slice_get xs k ≡ Some x → drop k xs ≡ x ∷ drop (k + 1) xs
drop_get [] k x e = absurd cc
drop_get (y ∷ ys) zero x e = let is : y ≡ x = cc in ap (λ z. z ∷ ys) is
drop_get (y ∷ ys) (suc k) x e =
    let next : suc (k + 1) ≡ suc k + 1 = omega arith in drop_get ys k x e ∙ ap (λ n. x ∷ drop n (y ∷ ys)) next

-- after the last
pub drop_past : {X : Type 0} (xs : List X) (k : ℕ) → length xs ≤ k → drop k xs ≡ []
drop_past [] zero h = refl
drop_past [] (suc k) h = refl
drop_past (x ∷ xs) zero h = absurd (omega arith)
drop_past (x ∷ xs) (suc k) h = drop_past xs k (omega arith)

pub drop_right : {X : Type 0} (xs ys : List X) (k : ℕ) → length xs ≤ k → drop k (xs ++ ys) ≡ drop (k - length xs) ys
drop_right [] ys k h = let same : k ≡ k - 0 = omega arith in ap (λ n. drop n ys) same
drop_right (x ∷ xs) ys zero h = absurd (omega arith)
drop_right (x ∷ xs) ys (suc k) h =
    let same : k - length xs ≡ suc k - length (x ∷ xs) = omega arith in drop_right xs ys k (omega arith) ∙ ap (λ n. drop n ys) same
