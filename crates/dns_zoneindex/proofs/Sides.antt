-- Children in order, around one of them.
use Rattle.std.proofs.Common.{◌≡◌, ℕ, ◌<◌, List, [], ◌∷◌, ◌++◌, length, Some, None, refl, ap, ◌∙◌}
use Rattle.std.specs.Ordering.{ordering_reverse}
use Rattle.std.specs.Cmp.{IsTotalOrder}
use Rattle.std.specs.Cmp.Lexicographic.{nat_list_cmp_total}
use Rattle.std.specs.FinMap.Entries.{by_order}
use Rattle.std.specs.declared.cmp.Ordering.{Ordering}
use Rattle.std.specs.declared.cmp.Ordering.TheVariants.{Less, Equal, Greater}
use Rattle.dns_zoneindex.specs.Entries.{Child}
use Rattle.dns_zoneindex.specs.Children.{label_cmp, AllChildren, AreChildren}
use Rattle.dns_zoneindex.specs.Assoc.{child_of, put_child, without_child}

pub label_total : IsTotalOrder label_cmp
label_total = nat_list_cmp_total

pub all_map : (P Q : Child → Type 0) → ((y : Child) → P y → Q y) → (t : List Child) → AllChildren P t → AllChildren Q t
all_map P Q f [] a = tt
all_map P Q f (y ∷ t) a = (f y a.0, all_map P Q f t a.1)

pub all_front : (P : Child → Type 0) (l m : List Child) → AllChildren P (l ++ m) → AllChildren P l
all_front P [] m a = tt
all_front P (x ∷ l) m a = (a.0, all_front P l m a.1)

pub all_back : (P : Child → Type 0) (l m : List Child) → AllChildren P (l ++ m) → AllChildren P m
all_back P [] m a = a
all_back P (x ∷ l) m a = all_back P l m a.1

pub children_front : (l m : List Child) → AreChildren (l ++ m) → AreChildren l
children_front [] m s = tt
children_front (x ∷ l) m s = (s.0, all_front _ l m s.1, children_front l m s.2)

pub children_back : (l m : List Child) → AreChildren (l ++ m) → AreChildren m
children_back [] m s = s
children_back (x ∷ l) m s = children_back l m s.2

-- greater than what is below something not above it
greater : (q y k : List ℕ) → label_cmp y k ≡ Less → (label_cmp q k ≡ Less → ⊥) → label_cmp q y ≡ Greater
greater q y k h nl = label_total.antisymm q y ∙ ap ordering_reverse (below (label_cmp q k) refl)
  where
    below : (o : Ordering) → label_cmp q k ≡ o → label_cmp y q ≡ Less
    below Less e = absurd (nl e)
    below Equal e = label_total.antisymm y q ∙ ap ordering_reverse (label_total.congr q k y e ∙ label_total.antisymm k y ∙ ap ordering_reverse h)
    below Greater e = label_total.trans y k q h (label_total.antisymm k q ∙ ap ordering_reverse e)

pub past : (q : List ℕ) (l : List Child) (k : Child) (r : List Child) → AreChildren (l ++ k ∷ r) → (label_cmp q k.label ≡ Less → ⊥) → AllChildren (λ y. label_cmp q y.label ≡ Greater) l
past q [] k r s nl = tt
past q (y ∷ t) k r s nl = (greater q y.label k.label (all_back _ t (k ∷ r) s.1).0 nl, past q t k r s.2 nl)

pub child_past : (q : List ℕ) (l m : List Child) → AllChildren (λ y. label_cmp q y.label ≡ Greater) l → child_of q (l ++ m) ≡ child_of q m
child_past q [] m a = refl
child_past q (y ∷ t) m a = rw a.0 (child_past q t m a.1)

pub put_past : (c : Child) (l m : List Child) → AllChildren (λ y. label_cmp c.label y.label ≡ Greater) l → put_child c (l ++ m) ≡ l ++ put_child c m
put_past c [] m a = refl
put_past c (y ∷ t) m a = rw a.0 (ap (λ z. y ∷ z) (put_past c t m a.1))

pub without_past : (q : List ℕ) (l m : List Child) → AllChildren (λ y. label_cmp q y.label ≡ Greater) l → without_child q (l ++ m) ≡ l ++ without_child q m
without_past q [] m a = refl
without_past q (y ∷ t) m a = rw a.0 (ap (λ z. y ∷ z) (without_past q t m a.1))

-- what is after children that are greater is not touched
pub child_before : (q : List ℕ) (l m : List Child) → AllChildren (λ y. label_cmp q y.label ≡ Less) m → child_of q (l ++ m) ≡ child_of q l
child_before q [] [] a = refl
child_before q [] (y ∷ m) a = rw a.0 refl
child_before q (y ∷ t) m a = ap (λ z. by_order (label_cmp q y.label) None (Some y) z) (child_before q t m a)

put_step : (o : Ordering) (c y : Child) (t m u v : List Child) → v ≡ u ++ m → by_order o (c ∷ y ∷ (t ++ m)) (c ∷ (t ++ m)) (y ∷ v) ≡ by_order o (c ∷ y ∷ t) (c ∷ t) (y ∷ u) ++ m
put_step Less c y t m u v e = refl
put_step Equal c y t m u v e = refl
put_step Greater c y t m u v e = ap (λ z. y ∷ z) e

pub put_before : (c : Child) (l m : List Child) → AllChildren (λ y. label_cmp c.label y.label ≡ Less) m → put_child c (l ++ m) ≡ put_child c l ++ m
put_before c [] [] a = refl
put_before c [] (y ∷ m) a = rw a.0 refl
put_before c (y ∷ t) m a = put_step (label_cmp c.label y.label) c y t m (put_child c t) _ (put_before c t m a)

without_step : (o : Ordering) (y : Child) (t m u v : List Child) → v ≡ u ++ m → by_order o (y ∷ (t ++ m)) (t ++ m) (y ∷ v) ≡ by_order o (y ∷ t) t (y ∷ u) ++ m
without_step Less y t m u v e = refl
without_step Equal y t m u v e = refl
without_step Greater y t m u v e = ap (λ z. y ∷ z) e

pub without_before : (q : List ℕ) (l m : List Child) → AllChildren (λ y. label_cmp q y.label ≡ Less) m → without_child q (l ++ m) ≡ without_child q l ++ m
without_before q [] [] a = refl
without_before q [] (y ∷ m) a = rw a.0 refl
without_before q (y ∷ t) m a = without_step (label_cmp q y.label) y t m (without_child q t) _ (without_before q t m a)

-- in order still
all_put : (P : Child → Type 0) (c : Child) (xs : List Child) → P c → AllChildren P xs → AllChildren P (put_child c xs)
all_put P c [] p a = (p, tt)
all_put P c (y ∷ t) p a = elim (label_cmp c.label y.label) as (λ o. AllChildren P (by_order o (c ∷ y ∷ t) (c ∷ t) (y ∷ put_child c t))) [
  | Less ↦ (p, a)
  | Equal ↦ (p, a.1)
  | Greater ↦ (a.0, all_put P c t p a.1)
]

pub children_put : (c : Child) (xs : List Child) → 0 < length c.own → AreChildren xs → AreChildren (put_child c xs)
children_put c [] p s = (p, tt, tt)
children_put c (y ∷ t) p s = elim (label_cmp c.label y.label) as (λ o. label_cmp c.label y.label ≡ o → AreChildren (by_order o (c ∷ y ∷ t) (c ∷ t) (y ∷ put_child c t))) [
  | Less ↦ λ e. (p, (e, all_map _ _ (λ z less. label_total.trans c.label y.label z.label e less) t s.1), s)
  | Equal ↦ λ e. (p, all_map _ _ (λ z less. label_total.congr c.label y.label z.label e ∙ less) t s.1, s.2)
  | Greater ↦ λ e. (s.0, all_put _ c t (label_total.antisymm y.label c.label ∙ ap ordering_reverse e) s.1, children_put c t p s.2)
] refl

all_without : (P : Child → Type 0) (q : List ℕ) (xs : List Child) → AllChildren P xs → AllChildren P (without_child q xs)
all_without P q [] a = tt
all_without P q (y ∷ t) a = elim (label_cmp q y.label) as (λ o. AllChildren P (by_order o (y ∷ t) t (y ∷ without_child q t))) [
  | Less ↦ a
  | Equal ↦ a.1
  | Greater ↦ (a.0, all_without P q t a.1)
]

pub children_without : (q : List ℕ) (xs : List Child) → AreChildren xs → AreChildren (without_child q xs)
children_without q [] s = tt
children_without q (y ∷ t) s = elim (label_cmp q y.label) as (λ o. AreChildren (by_order o (y ∷ t) t (y ∷ without_child q t))) [
  | Less ↦ s
  | Equal ↦ s.2
  | Greater ↦ (s.0, all_without _ q t s.1, children_without q t s.2)
]
