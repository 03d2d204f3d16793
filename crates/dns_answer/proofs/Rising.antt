-- Names in the order of their octets.
use Rattle.std.proofs.Common.{◌≡◌, Bool, true, false, ◌||◌, List, [], ◌∷◌, ◌++◌, refl, sym, ap, subst, ◌∙◌}
use Rattle.std.specs.List.{list_any}
use Rattle.std.specs.Cmp.{tied_itself}
use Rattle.std.specs.Cmp.Lexicographic.{nat_list_cmp_total}
use Rattle.std.proofs.lemmas.List.Folds.{list_any-append}
use Rattle.dns_names.specs.Name.{Labels, names_eq, wire}
use Rattle.dns_zone.specs.Order.{names_same}
use Rattle.dns_answer.specs.Hosts.{EndWithGreatest, IsAfter}

ended : (names : List Labels) (last : Labels) → [] ≡ names ++ last ∷ [] → ⊥
ended [] last e = absurd cc
ended (n ∷ names) last e = absurd cc

last_is : (xs ys : List Labels) (x y : Labels) → xs ++ x ∷ [] ≡ ys ++ y ∷ [] → x ≡ y
last_is [] [] x y e = cc
last_is [] (b ∷ ys) x y e = absurd (ended ys y cc)
last_is (a ∷ xs) [] x y e = absurd (ended xs x cc)
last_is (a ∷ xs) (b ∷ ys) x y e = last_is xs ys x y cc

-- a name after another is not that name
apart : (name other : Labels) → IsAfter name other → names_eq name other ≡ false
apart name other after = by_test (names_eq name other) refl
  where
    by_test : (b : Bool) → names_eq name other ≡ b → names_eq name other ≡ false
    by_test true e =
        let same = names_same name other e in
        let tied = tied_itself nat_list_cmp_total (wire other) in
        absurd cc
    by_test false e = e

pushed : (names : List Labels) (next : Labels)
    → ((name : Labels) → IsAfter name next → list_any (names_eq name) names ≡ false)
    → EndWithGreatest (names ++ next ∷ [])
pushed names next none front last name e after =
    let is : next ≡ last = last_is names front next last e in
    let after_next : IsAfter name next = subst (λ (n : Labels). IsAfter name n) (sym is) after in
    list_any-append (names_eq name) names (next ∷ [])
    ∙ (λ i. none name after_next i || (apart name next after_next i || false))

-- a first name
pub first_rising : (names : List Labels) (next : Labels)
    → names ≡ []
    → (list_any (names_eq next) names ≡ false) × EndWithGreatest (names ++ next ∷ [])
first_rising names next e =
    let none : (name : Labels) → list_any (names_eq name) names ≡ false = λ name. ap (list_any (names_eq name)) e in
    (none next, pushed names next (λ name after. none name))

-- a name after the last one
pub next_rising : (names front : List Labels) (last next : Labels)
    → names ≡ front ++ last ∷ []
    → EndWithGreatest names
    → IsAfter next last
    → (list_any (names_eq next) names ≡ false) × EndWithGreatest (names ++ next ∷ [])
next_rising names front last next e rising after = (
  rising front last next e after,
  pushed names next (λ name later. rising front last name e (nat_list_cmp_total.trans (wire last) (wire next) (wire name) after later)),
)
