-- The tests of names beside the facts.
use Rattle.std.proofs.Common.{◌≡◌, inl, inr, Bool, true, false, [], ◌∷◌, ◌++◌, refl, sym, ap, subst}
use Rattle.std.specs.Prelude.{◌||◌}
use Rattle.std.specs.Cmp.{both_ways}
use Rattle.dns_names.specs.Name.{Labels, IsUnder, under, names_eq}
use Rattle.dns_zone.specs.Order.{names_same, names_itself}
use Rattle.dns_zone.specs.Sets.{either_true}

-- the test is the fact
pub under_from : (a n : Labels) → under a n ≡ true → IsUnder a n
under_from [] n e = ([], names_same [] n e)
under_from (l ∷ a) n e = elim (either_true (names_eq (l ∷ a) n) (under a n) e) [
  | inl same ↦ ([], names_same (l ∷ a) n same)
  | inr more ↦ (let rest = under_from a n more in (l ∷ rest.0, ap (λ (x : Labels). l ∷ x) rest.1))
]

either : (a b : Bool) → b ≡ true → (a || b) ≡ true
either true b e = refl
either false b e = e

at_itself : (n : Labels) → under n n ≡ true
at_itself [] = refl
at_itself (l ∷ n) = ap (λ (b : Bool). b || under n (l ∷ n)) (names_itself (l ∷ n))

pub under_front : (front n : Labels) → under (front ++ n) n ≡ true
under_front [] n = at_itself n
under_front (l ∷ front) n = either (names_eq (l ∷ front ++ n) n) (under (front ++ n) n) (under_front front n)

pub under_with : (a n : Labels) → IsUnder a n → under a n ≡ true
under_with a n h = subst (λ (x : Labels). under x n ≡ true) (sym h.1) (under_front h.0 n)

-- a test tied to the fact is the test
pub tied_under : (b : Bool) (a n : Labels) → (b ≡ true → IsUnder a n)
    → (IsUnder a n → b ≡ true) → b ≡ under a n
tied_under b a n f g = both_ways b (under a n) (λ e. under_with a n (f e)) (λ e. g (under_from a n e))

pub tied_same : (b : Bool) (a n : Labels) → (b ≡ true → a ≡ n) → (a ≡ n → b ≡ true) → b ≡ names_eq a n
tied_same b a n f g =
    both_ways b (names_eq a n) (λ e. subst (λ (x : Labels). names_eq a x ≡ true) (f e) (names_itself a))
    (λ e. g (names_same a n e))
