-- What is under the child of a label is what that child has.
use Rattle.std.proofs.Common.{◌≡◌, ℕ, Bool, true, false, cond, inl, inr, List, [], ◌∷◌, ◌++◌, map, Some, None, refl, sym, ap, ◌∙◌, subst}
use Rattle.std.specs.Str.{bytes_eq}
use Rattle.std.specs.Cmp.{tied_itself}
use Rattle.std.specs.FinMap.{nat_cmp-IsAntisymmetric, slice_cmp-IsAntisymmetric}
use Rattle.std.specs.FinMap.Entries.{by_order}
use Rattle.std.specs.declared.cmp.Ordering.{Ordering}
use Rattle.std.specs.declared.cmp.Ordering.TheVariants.{Less, Equal, Greater}
use Rattle.dns_records.specs.Record.{Record}
use Rattle.dns_zone.specs.Order.{bytes_same, bytes_itself}
use Rattle.dns_zone.specs.Sets.{true_or_false}
use Rattle.dns_zoneindex.specs.Entries.{PathRecord, Child, here, pushed, flat, under_label, below, here_of, own_at}
use Rattle.dns_zoneindex.specs.Children.{label_cmp, AllChildren, AreChildren}
use Rattle.dns_zoneindex.specs.Assoc.{child_of}
use Rattle.dns_zoneindex.proofs.Sides.{label_total, all_map}

pub labels_same : (l m : List ℕ) → label_cmp l m ≡ Equal → l ≡ m
labels_same l m e = slice_cmp-IsAntisymmetric nat_cmp-IsAntisymmetric l m e

pub apart : (l m : List ℕ) (o : Ordering) → label_cmp l m ≡ o → (o ≡ Equal → ⊥) → bytes_eq l m ≡ false
apart l m o h never = elim (true_or_false (bytes_eq l m)) [
  | inl e ↦ absurd (never (sym h ∙ ap (λ x. label_cmp l x) (sym (bytes_same l m e)) ∙ tied_itself label_total l))
  | inr e ↦ e
]

pub less_apart : (l m : List ℕ) → label_cmp l m ≡ Less → bytes_eq l m ≡ false
less_apart l m h = apart l m Less h (λ e. absurd cc)

pub greater_apart : (l m : List ℕ) → label_cmp l m ≡ Greater → bytes_eq l m ≡ false
greater_apart l m h = apart l m Greater h (λ e. absurd cc)

pub step-append : (l : List ℕ) (a b : List PathRecord) → under_label l (a ++ b) ≡ under_label l a ++ under_label l b
step-append l [] b = refl
step-append l (e ∷ a) b = elim (e.path) as (λ p. (elim p [ [] ↦ under_label l (a ++ b) | m ∷ rest ↦ cond (bytes_eq l m) (record { path = rest; record_there = e.record_there } ∷ under_label l (a ++ b)) (under_label l (a ++ b)) ]) ≡ (elim p [ [] ↦ under_label l a | m ∷ rest ↦ cond (bytes_eq l m) (record { path = rest; record_there = e.record_there } ∷ under_label l a) (under_label l a) ]) ++ under_label l b) [
  | [] ↦ step-append l a b
  | m ∷ rest ↦ one (bytes_eq l m) (record { path = rest; record_there = e.record_there }) (under_label l (a ++ b)) (under_label l a) (under_label l b) (step-append l a b)
]
  where
    one : (t : Bool) (x : PathRecord) (u v w : List PathRecord) → u ≡ v ++ w → cond t (x ∷ u) u ≡ cond t (x ∷ v) v ++ w
    one true x u v w h = ap (λ z. x ∷ z) h
    one false x u v w h = h

pub step-here : (l : List ℕ) (rs : List Record) → under_label l (map here rs) ≡ []
step-here l [] = refl
step-here l (r ∷ rs) = step-here l rs

step-same : (l m : List ℕ) (own : List PathRecord) → bytes_eq l m ≡ true → under_label l (map (pushed m) own) ≡ own
step-same l m [] h = refl
step-same l m (e ∷ own) h = rw h (ap (λ z. e ∷ z) (step-same l m own h))

step-other : (l m : List ℕ) (own : List PathRecord) → bytes_eq l m ≡ false → under_label l (map (pushed m) own) ≡ []
step-other l m [] h = refl
step-other l m (e ∷ own) h = rw h (step-other l m own h)

step-none : (l : List ℕ) (cs : List Child) → AllChildren (λ y. label_cmp l y.label ≡ Less) cs → under_label l (flat cs) ≡ []
step-none l [] h = refl
step-none l (c ∷ cs) h = step-append l (map (pushed c.label) c.own) (flat cs) ∙ (λ i. step-other l c.label c.own (less_apart l c.label h.0) i ++ step-none l cs h.1 i)

pub step-flat : (l : List ℕ) (cs : List Child) → AreChildren cs → under_label l (flat cs) ≡ own_at (child_of l cs)
step-flat l [] h = refl
step-flat l (c ∷ cs) h = elim (label_cmp l c.label) as (λ o. label_cmp l c.label ≡ o → under_label l (map (pushed c.label) c.own ++ flat cs) ≡ own_at (by_order o None (Some c) (child_of l cs))) [
  | Less ↦ λ e. step-append l (map (pushed c.label) c.own) (flat cs) ∙ (λ i. step-other l c.label c.own (less_apart l c.label e) i ++ step-none l cs (all_map (λ y. label_cmp c.label y.label ≡ Less) (λ y. label_cmp l y.label ≡ Less) (λ z less. label_total.trans l c.label z.label e less) cs h.1) i)
  | Equal ↦ λ e. step-append l (map (pushed c.label) c.own) (flat cs) ∙ (λ i. step-same l c.label c.own (subst (λ x. bytes_eq l x ≡ true) (labels_same l c.label e) (bytes_itself l)) i ++ step-none l cs (all_map (λ y. label_cmp c.label y.label ≡ Less) (λ y. label_cmp l y.label ≡ Less) (λ z less. label_total.congr l c.label z.label e ∙ less) cs h.1) i) ∙ nothing c.own
  | Greater ↦ λ e. step-append l (map (pushed c.label) c.own) (flat cs) ∙ (λ i. step-other l c.label c.own (greater_apart l c.label e) i ++ step-flat l cs h.2 i)
] refl
  where
    nothing : (xs : List PathRecord) → xs ++ [] ≡ xs
    nothing [] = refl
    nothing (x ∷ xs) = ap (λ z. x ∷ z) (nothing xs)

pub step-own : (l : List ℕ) (rs : List Record) (cs : List Child) → AreChildren cs → under_label l (map here rs ++ flat cs) ≡ own_at (child_of l cs)
step-own l rs cs h = step-append l (map here rs) (flat cs) ∙ (λ i. step-here l rs i ++ step-flat l cs h i)

-- under nothing there is nothing
pub below-none : (path : List (List ℕ)) → below path [] ≡ []
below-none [] = refl
below-none (l ∷ path) = below-none path

-- the records of the name are those that no label leads to
here_of-here : (rs : List Record) (es : List PathRecord) → here_of (map here rs ++ es) ≡ rs ++ here_of es
here_of-here [] es = refl
here_of-here (r ∷ rs) es = ap (λ z. r ∷ z) (here_of-here rs es)

here_of-pushed : (l : List ℕ) (own rest : List PathRecord) → here_of (map (pushed l) own ++ rest) ≡ here_of rest
here_of-pushed l [] rest = refl
here_of-pushed l (e ∷ own) rest = here_of-pushed l own rest

here_of-flat : (cs : List Child) → here_of (flat cs) ≡ []
here_of-flat [] = refl
here_of-flat (c ∷ cs) = here_of-pushed c.label c.own (flat cs) ∙ here_of-flat cs

pub here_of-own : (rs : List Record) (cs : List Child) → here_of (map here rs ++ flat cs) ≡ rs
here_of-own rs cs = here_of-here rs (flat cs) ∙ ap (λ z. rs ++ z) (here_of-flat cs) ∙ nothing rs
  where
    nothing : (xs : List Record) → xs ++ [] ≡ xs
    nothing [] = refl
    nothing (x ∷ xs) = ap (λ z. x ∷ z) (nothing xs)

-- a label that leads to nothing
-- the child that is found has the label
pub found-label : (l : List ℕ) (cs : List Child) (d : Child) → child_of l cs ≡ Some d → d.label ≡ l
found-label l [] d h = absurd cc
found-label l (c ∷ cs) d h = elim (label_cmp l c.label) as (λ o. label_cmp l c.label ≡ o → by_order o None (Some c) (child_of l cs) ≡ Some d → d.label ≡ l) [
  | Less ↦ λ e k. absurd cc
  | Equal ↦ λ e k. (let same : c ≡ d = cc in sym (labels_same l c.label e ∙ ap (λ x. x.label) same))
  | Greater ↦ λ e k. found-label l cs d k
] refl h
