-- Two names in order: labels taken from the longer until the same name is left of both.
use Rattle.std.proofs.Common.{◌≡◌, ℕ, ◌<◌, ◌≤◌, List, [], ◌∷◌, ◌++◌, length, reverse, refl, sym, ap, subst, ◌∙◌, arith}
use Rattle.std.specs.Ordering.{nat_cmp, ordering_then, ordering_reverse}
use Rattle.std.specs.declared.cmp.Ordering.{Ordering}
use Rattle.std.specs.declared.cmp.Ordering.TheVariants.{Less, Equal, Greater}
use Rattle.std.specs.Cmp.{tied_itself}
use Rattle.std.specs.Cmp.Lexicographic.{slice_cmp, nat_list_cmp_total}
use Rattle.std.specs.FinMap.{nat_cmp-IsAntisymmetric, slice_cmp-IsAntisymmetric}
use Rattle.std.proofs.lemmas.List.{append-nil, length-append, reverse-append, reverse-reverse}
use Rattle.dns_names.specs.Name.{Labels, IsName, IsUnder, wire, labels_of, name_cmp}
use Rattle.dns_names.specs.Plain.{IsPlain}
use Rattle.dns_names.specs.Compare.{name_cmp-total}
use Rattle.dns_names.specs.PlainOctets.{wire_some}
use Rattle.dns_names.proofs.Order.{under_shorter}

abbrev labels_cmp : Labels → Labels → Ordering
labels_cmp x y = slice_cmp (slice_cmp nat_cmp) x y

-- what follows labels that the other list does not begin with, decides nothing
longer : (p q y : Labels) → ((t : Labels) → y ≡ p ++ t → ⊥) → labels_cmp (p ++ q) y ≡ labels_cmp p y
longer [] q y apart = absurd (apart y refl)
longer (l ∷ p) q [] apart = refl
longer (l ∷ p) q (k ∷ y) apart = step (slice_cmp nat_cmp l k) refl (λ n. longer p q y n)
  where
    step : (o : Ordering) → slice_cmp nat_cmp l k ≡ o → (((t : Labels) → y ≡ p ++ t → ⊥) → labels_cmp (p ++ q) y ≡ labels_cmp p y) → labels_cmp (l ∷ p ++ q) (k ∷ y) ≡ labels_cmp (l ∷ p) (k ∷ y)
    step Less is inner = ap (λ (o : Ordering). ordering_then o (labels_cmp (p ++ q) y)) is ∙ sym (ap (λ (o : Ordering). ordering_then o (labels_cmp p y)) is)
    step Greater is inner = ap (λ (o : Ordering). ordering_then o (labels_cmp (p ++ q) y)) is ∙ sym (ap (λ (o : Ordering). ordering_then o (labels_cmp p y)) is)
    step Equal is inner =
        let same : l ≡ k = slice_cmp-IsAntisymmetric nat_cmp-IsAntisymmetric l k is in
        ap (ordering_then (slice_cmp nat_cmp l k)) (inner (λ t e. apart t (ap (λ (z : Labels). k ∷ z) e ∙ ap (λ (z : List ℕ). z ∷ (p ++ t)) (sym same))))

-- a label before a name that the other is not under decides nothing
pub before_decides : (l : List ℕ) (n y : Labels) → (IsUnder y n → ⊥) → name_cmp (l ∷ n) y ≡ name_cmp n y
before_decides l n y apart =
    ap (λ (z : Labels). labels_cmp z (reverse y)) (reverse-append (l ∷ []) n) ∙ longer (reverse n) (l ∷ []) (reverse y) (λ t e. apart (reverse t, back t e))
  where
    back : (t : Labels) → reverse y ≡ reverse n ++ t → y ≡ reverse t ++ n
    back t e = sym (reverse-reverse y) ∙ ap reverse e ∙ reverse-append (reverse n) t ∙ ap (λ (z : Labels). reverse t ++ z) (reverse-reverse n)

-- lists that begin with the same labels go by what follows
same_front : (p s t : Labels) → labels_cmp (p ++ s) (p ++ t) ≡ labels_cmp s t
same_front [] s t = refl
same_front (l ∷ p) s t = ap (λ (o : Ordering). ordering_then o (labels_cmp (p ++ s) (p ++ t))) (tied_itself nat_list_cmp_total l) ∙ same_front p s t

-- the label taken last, if one was, before what is left
abbrev pub onto : List ℕ → Labels → Labels
onto [] rest = rest
onto (c ∷ label) rest = (c ∷ label) ∷ rest

abbrev listed : List ℕ → Labels
listed [] = []
listed (c ∷ label) = (c ∷ label) ∷ []

-- with the label taken last, one side is no shorter than what is left of the other, and another name
pub record Passed (label : List ℕ) (rest other : Labels) : Type 0 where
  pub size : 0 < length label → length (wire other) ≤ length (wire (label ∷ rest))
  pub apart : 0 < length label → label ∷ rest ≡ other → ⊥

-- what is left of two names, and the labels taken last, tell their order
pub record Walked (a b : Labels) (x : List ℕ) (left : Labels) (y : List ℕ) (right : Labels) : Type 0 where
  pub order : name_cmp a b ≡ name_cmp (onto x left) (onto y right)
  pub first : Passed x left right
  pub second : Passed y right left

pub begins : (a b : Labels) → Walked a b [] a [] b
begins a b = record {
  order = refl;
  first = record { size = λ h. absurd (omega arith); apart = λ h e. absurd (omega (arith, h)) };
  second = record { size = λ h. absurd (omega arith); apart = λ h e. absurd (omega (arith, h)) };
}

swapped : (a b : Labels) (x : List ℕ) (left : Labels) (y : List ℕ) (right : Labels) → Walked a b x left y right → Walked b a y right x left
swapped a b x left y right w = record {
  order = name_cmp-total.antisymm b a ∙ ap ordering_reverse w.order ∙ sym (name_cmp-total.antisymm (onto y right) (onto x left));
  first = w.second;
  second = w.first;
}

put_back : (p : List ℕ) (rest : Labels) → 0 < length p → onto p rest ≡ p ∷ rest
put_back [] rest some = absurd (omega (arith, some))
put_back (c ∷ p) rest some = refl

outside : (y : List ℕ) (left right : Labels) → length (wire right) ≤ length (wire left) → (left ≡ right → ⊥) → Passed y right left → IsUnder (onto y right) left → ⊥
outside [] left right short other p u = other (sym (under_shorter right left short u))
outside (c ∷ y) left right short other p (front, e) = go front e
  where
    go : (f : Labels) → (c ∷ y) ∷ right ≡ f ++ left → ⊥
    go [] same = p.apart (omega arith) same
    go (k ∷ ks) same = (let tails : right ≡ ks ++ left = cc in other (sym (under_shorter right left short (ks, tails))))

-- one label more of the first
taken : (a b : Labels) (x p : List ℕ) (rest : Labels) (y : List ℕ) (right : Labels) → 0 < length p → length (wire right) ≤ length (wire (p ∷ rest)) → (p ∷ rest ≡ right → ⊥) → Walked a b x (p ∷ rest) y right → Walked a b p rest y right
taken a b x p rest y right some short other w = record {
  order = w.order ∙ without x ∙ ap (λ (n : Labels). name_cmp n (onto y right)) (sym (put_back p rest some));
  first = record { size = λ h. short; apart = λ h. other };
  second = record { size = λ h. less (w.second.size h); apart = λ h e. never (w.second.size h) (ap (λ (n : Labels). length (wire n)) e) };
}
  where
    without : (z : List ℕ) → name_cmp (onto z (p ∷ rest)) (onto y right) ≡ name_cmp (p ∷ rest) (onto y right)
    without [] = refl
    without (c ∷ z) = before_decides (c ∷ z) (p ∷ rest) (onto y right) (outside y (p ∷ rest) right short other w.second)

    less : length (wire (p ∷ rest)) ≤ length (wire (y ∷ right)) → length (wire rest) ≤ length (wire (y ∷ right))
    less h = omega (arith, h, length-append p (wire rest))

    never : length (wire (p ∷ rest)) ≤ length (wire (y ∷ right)) → length (wire (y ∷ right)) ≡ length (wire rest) → ⊥
    never h e = omega (arith, h, e, length-append p (wire rest))

-- the same over plain forms
pub left_taken : (a b : Labels) (x left y right label rest : List ℕ) → IsPlain left → IsPlain right → length right ≤ length left → (left ≡ right → ⊥) → labels_of left ≡ label ∷ labels_of rest
    → Walked a b x (labels_of left) y (labels_of right) → Walked a b label (labels_of rest) y (labels_of right)
left_taken a b x left y right label rest h k short other parts w =
    let valid : IsName (label ∷ labels_of rest) = subst IsName parts h.valid in
    let size : length (wire (label ∷ labels_of rest)) ≡ length left = ap (λ (n : Labels). length (wire n)) (sym parts) ∙ ap length h.whole in
    let width : length (wire (labels_of right)) ≡ length right = ap length k.whole in
    taken a b x label (labels_of rest) y (labels_of right) (valid.labels.0.some) (omega (arith, size, width, short)) (λ e. other (sym h.whole ∙ ap wire (parts ∙ e) ∙ k.whole)) (subst (λ (n : Labels). Walked a b x n y (labels_of right)) parts w)

pub right_taken : (a b : Labels) (x left y right label rest : List ℕ) → IsPlain left → IsPlain right → length left ≤ length right → (left ≡ right → ⊥) → labels_of right ≡ label ∷ labels_of rest
    → Walked a b x (labels_of left) y (labels_of right) → Walked a b x (labels_of left) label (labels_of rest)
right_taken a b x left y right label rest h k short other parts w =
    swapped b a label (labels_of rest) x (labels_of left) (left_taken b a y right x left label rest k h short (λ e. other (sym e)) parts (swapped a b x (labels_of left) y (labels_of right) w))

-- the longer of two forms that differ has a label
pub some_label : (left right : List ℕ) → IsPlain left → IsPlain right → length right ≤ length left → (left ≡ right → ⊥) → 1 < length left
some_label left right h k short other = go (labels_of left) (labels_of right) h.whole k.whole
  where
    go : (l r : Labels) → wire l ≡ left → wire r ≡ right → 1 < length left
    go (p ∷ l) r e f = omega (arith, ap length e, length-append p (wire l), wire_some l)
    go [] [] e f = absurd (other (sym e ∙ f))
    go [] (q ∷ r) e f = absurd (omega (arith, short, ap length e, ap length f, length-append q (wire r), wire_some r))

-- nothing is left to take
pub ends : (a b : Labels) (x y : List ℕ) (rest : Labels) → Walked a b x rest y rest → name_cmp a b ≡ slice_cmp nat_cmp x y
ends a b x y rest w = w.order ∙ (λ i. labels_cmp (turned x i) (turned y i)) ∙ same_front (reverse rest) (listed x) (listed y) ∙ single x y
  where
    turned : (z : List ℕ) → reverse (onto z rest) ≡ reverse rest ++ listed z
    turned [] = sym (append-nil (reverse rest))
    turned (c ∷ z) = reverse-append ((c ∷ z) ∷ []) rest

    then_equal : (o : Ordering) → ordering_then o Equal ≡ o
    then_equal Less = refl
    then_equal Equal = refl
    then_equal Greater = refl

    single : (x y : List ℕ) → labels_cmp (listed x) (listed y) ≡ slice_cmp nat_cmp x y
    single [] [] = refl
    single [] (q ∷ y) = refl
    single (p ∷ x) [] = refl
    single (p ∷ x) (q ∷ y) = then_equal (slice_cmp nat_cmp (p ∷ x) (q ∷ y))
