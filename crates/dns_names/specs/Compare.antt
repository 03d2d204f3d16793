-- Laws of equality and order of names.
use Rattle.std.proofs.Common.{◌≡◌, ℕ, Bool, ◌&&◌, List, [], ◌∷◌, reverse, refl, sym, ap, subst, ◌∙◌}
use Rattle.std.specs.Prelude.{◌==◌}
use Rattle.std.specs.Bool.{Decides, one_answer}
use Rattle.std.specs.Ordering.{nat_cmp, eq_by_cmp, as_partial_cmp}
use Rattle.std.specs.declared.cmp.Ordering.TheVariants.{Equal}
use Rattle.std.specs.Cmp.{IsPartialEquivalence, IsEquivalence, IsPartialOrder, IsTotalOrder}
use Rattle.std.specs.Cmp.{partial_equiv_from_equiv, po, on_total, Equal-is}
use Rattle.std.specs.Cmp.Lexicographic.{pointwise, slice_cmp, pointwise_decides, bytes_decides, lists_equiv}
use Rattle.std.specs.Cmp.Lexicographic.{lists_total, lists_ties, texts_ties, nat_list_cmp_total}
use Rattle.std.specs.Cmp.Lexicographic.{nat_list_eq_equiv}
use Rattle.std.proofs.lemmas.List.{reverse-reverse}
use Rattle.dns_names.specs.Name.{Labels, wire, labels_of, name_cmp, names_eq}
use Rattle.dns_names.specs.Plain.{IsPlain}

-- the test of names compares them label by label
names_eq-pointwise : (a b : Labels) → names_eq a b ≡ pointwise (pointwise ◌==◌) a b
names_eq-pointwise [] [] = refl
names_eq-pointwise [] (b ∷ bs) = refl
names_eq-pointwise (a ∷ as') [] = refl
names_eq-pointwise (a ∷ as') (b ∷ bs) = ap (λ (t : Bool). pointwise ◌==◌ a b && t) (names_eq-pointwise as' bs)

pub names_eq-Decides : (a b : Labels) → Decides (names_eq a b) (a ≡ b)
names_eq-Decides a b =
    subst (λ (t : Bool). Decides t (a ≡ b)) (sym (names_eq-pointwise a b))
    (pointwise_decides bytes_decides a b)

pub names_eq-equiv : IsEquivalence names_eq
names_eq-equiv =
    let pairs = lists_equiv nat_list_eq_equiv in
    let is = names_eq-pointwise in
    record {
      refl = λ x. is x x ∙ pairs.refl x;
      symm = λ x y. is x y ∙ pairs.symm x y ∙ sym (is y x);
      congr = λ x y z e. is x z ∙ pairs.congr x y z (sym (is x y) ∙ e) ∙ sym (is y z);
    }

pub names_eq-per : IsPartialEquivalence names_eq
names_eq-per = partial_equiv_from_equiv names_eq-equiv

-- plain forms are compared in place of their names
pub same_plain : (p q : List ℕ) → IsPlain p → IsPlain q
    → Decides (pointwise ◌==◌ p q) (labels_of p ≡ labels_of q)
same_plain p q h k =
    let d = bytes_decides p q in
    (λ t. ap labels_of (d.0 t), λ e. d.1 (sym h.whole ∙ ap wire e ∙ k.whole))

pub same_plain-labels : (p q : List ℕ) → IsPlain p → IsPlain q
    → pointwise ◌==◌ p q ≡ names_eq (labels_of p) (labels_of q)
same_plain-labels p q h k =
    one_answer {P = labels_of p ≡ labels_of q} (pointwise ◌==◌ p q) (names_eq (labels_of p) (labels_of q))
    (same_plain p q h k) (names_eq-Decides (labels_of p) (labels_of q))

reversed_once : (a b : Labels) → reverse a ≡ reverse b → a ≡ b
reversed_once a b e = sym (reverse-reverse a) ∙ ap reverse e ∙ reverse-reverse b

same_reversed : (a b : Labels) → names_eq a b ≡ names_eq (reverse a) (reverse b)
same_reversed a b =
    let d = names_eq-Decides (reverse a) (reverse b) in
    one_answer {P = a ≡ b} (names_eq a b) (names_eq (reverse a) (reverse b)) (names_eq-Decides a b)
    (λ t. reversed_once a b (d.0 t), λ e. d.1 (ap reverse e))

pub name_cmp-total : IsTotalOrder name_cmp
name_cmp-total = on_total reverse (lists_total nat_list_cmp_total)

pub name_cmp-ties : (a b : Labels) → names_eq a b ≡ eq_by_cmp name_cmp a b
name_cmp-ties a b = same_reversed a b ∙ lists_ties (slice_cmp nat_cmp) texts_ties (reverse a) (reverse b)

pub name_cmp-po : IsPartialOrder names_eq (as_partial_cmp name_cmp)
name_cmp-po = po name_cmp-total name_cmp-ties

-- names that tie are one name
pub name_cmp-same : (a b : Labels) → name_cmp a b ≡ Equal → a ≡ b
name_cmp-same a b e = (names_eq-Decides a b).0 (name_cmp-ties a b ∙ (Equal-is (name_cmp a b)).1 e)
