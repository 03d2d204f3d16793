-- A name below another has more octets.
use Rattle.std.proofs.Common.{◌≡◌, ◌+◌, ◌<◌, ◌≤◌, Bool, true, false, [], ◌∷◌, ◌++◌, length, refl, sym, ap, ◌∙◌, length-append, arith}
use Rattle.std.specs.Prelude.{◌&&◌, not}
use Rattle.dns_names.specs.Name.{Labels, wire, under, names_eq}
use Rattle.dns_zone.specs.Ancestry.{under_from}
use Rattle.dns_zone.specs.Order.{names_same, names_itself}

more : (front n : Labels) → length front + length (wire n) ≤ length (wire (front ++ n))
more [] n = omega arith
more (l ∷ front) n = omega (arith, more front n, length-append l (wire (front ++ n)))

longer : (front n name : Labels) → name ≡ front ++ n → names_eq name n ≡ false → length (wire n) < length (wire name)
longer [] n name is other = (let same : false ≡ true = sym other ∙ ap (λ x. names_eq x n) is ∙ names_itself n in absurd cc)
longer (l ∷ front) n name is other = omega (arith, more (l ∷ front) n, ap (λ x. length (wire x)) is)

-- a name of no more octets is not below the other, whatever else is asked
pub not_below : (name n : Labels) (b : Bool) → length (wire name) ≤ length (wire n) → false ≡ (under name n && not (names_eq name n) && b)
not_below name n b short = by_tests (under name n) (names_eq name n) refl refl
  where
    by_tests : (u s : Bool) → under name n ≡ u → names_eq name n ≡ s → false ≡ (u && not s && b)
    by_tests false s e f = refl
    by_tests true true e f = refl
    by_tests true false e f = (let above = under_from name n e in absurd (omega (arith, short, longer above.0 n name above.1 f)))

-- one of more octets is another
pub below_if_under : (name n : Labels) (b : Bool) → length (wire n) < length (wire name) → b ≡ true → under name n ≡ (under name n && not (names_eq name n) && b)
below_if_under name n b long is = by_tests (under name n) (names_eq name n) b refl is
  where
    by_tests : (u s b : Bool) → names_eq name n ≡ s → b ≡ true → u ≡ (u && not s && b)
    by_tests false s b e f = refl
    by_tests true true b e f = absurd (omega (arith, long, ap (λ x. length (wire x)) (names_same name n e)))
    by_tests true false b e f = sym f
