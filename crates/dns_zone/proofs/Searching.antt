-- Searching by halves.
use Rattle.std.proofs.Common.{◌≡◌, ℕ, zero, suc, ◌+◌, ◌-◌, ◌<◌, ◌≤◌, Bool, true, false, ◌⊎◌, inl, inr, List, [], ◌∷◌, length, get_or, take, drop, refl, sym, ap, subst, ◌∙◌, arith, cond}
use Rattle.std.specs.Prelude.{filter, nat_lt}
use Rattle.std.proofs.lemmas.List.{get_or_default}
use borrow.Author.Tests.{ltb-true, ltb-false}
use Rattle.std.specs.List.{AllWithin}
use Rattle.std.specs.Ordering.{is_lt, is_eq, is_gt, nat_cmp, ordering_then}
use Rattle.std.specs.Cmp.{alike_right, nat_cmp_total, then_total, on_total, IsTotalOrder}
use Rattle.std.specs.declared.cmp.Ordering.{Ordering}
use Rattle.std.specs.declared.cmp.Ordering.TheVariants.{Less, Equal, Greater}
use Rattle.dns_names.specs.Name.{Labels, name_cmp}
use Rattle.dns_records.specs.Record.{Record, record_cmp}
use Rattle.dns_zone.specs.Records.{is_ordered}
use Rattle.dns_zone.specs.Order.{record_total, name_total}
use Rattle.dns_zone.specs.Sets.{Sorted, Below, sorted_from, true_or_false, less_is}
use Rattle.dns_zone.specs.Side.{side_of}
use Rattle.dns_zone.specs.declared.search.Key.{Key}
use Rattle.dns_zone.specs.declared.search.Key.TheVariants as key

-- a record before another is no later than it
pub record IsCut (side : Record → Ordering) : Type 0 where
  pub less : (r s : Record) → record_cmp r s ≡ Less → is_lt (side s) ≡ true → is_lt (side r) ≡ true
  pub most : (r s : Record) → record_cmp r s ≡ Less → is_gt (side s) ≡ false → is_gt (side r) ≡ false

pub below_at : (r d : Record) (xs : List Record) (j : ℕ) → Below r xs → j < length xs → record_cmp r (get_or xs j d) ≡ Less
below_at r d [] j h lt = absurd (omega arith)
below_at r d (x ∷ xs) zero h lt = h.0
below_at r d (x ∷ xs) (suc j) h lt = below_at r d xs j h.1 (omega arith)

-- of two positions the record at the first is the lesser
pub in_order : (xs : List Record) (i j : ℕ) (d : Record) → Sorted xs → i < j → j < length xs → record_cmp (get_or xs i d) (get_or xs j d) ≡ Less
in_order [] i j d h lt inside = absurd (omega arith)
in_order (x ∷ xs) i zero d h lt inside = absurd (omega arith)
in_order (x ∷ xs) zero (suc j) d h lt inside = below_at x d xs j h.0 (omega arith)
in_order (x ∷ xs) (suc i) (suc j) d h lt inside = in_order xs i j d h.1 (omega arith) (omega arith)

-- what comes first in an order by two, comes no later in the first
pub then_less : (a b : Ordering) → ordering_then a b ≡ Less → (a ≡ Less) ⊎ (a ≡ Equal)
then_less Less b e = inl refl
then_less Equal b e = inr refl
then_less Greater b e = absurd cc

lesser : {K : Type 0} (R : K → K → Ordering) → IsTotalOrder R → (x y z : K) → (R x y ≡ Less) ⊎ (R x y ≡ Equal) → is_lt (R y z) ≡ true → is_lt (R x z) ≡ true
lesser R o x y z (inl l) e = ap is_lt (o.trans x y z l (less_is (R y z) e))
lesser R o x y z (inr q) e = ap is_lt (o.congr x y z q) ∙ e

not_past : {K : Type 0} (R : K → K → Ordering) → IsTotalOrder R → (x y z : K) (at : Ordering) → R y z ≡ at → (R x y ≡ Less) ⊎ (R x y ≡ Equal) → is_gt at ≡ false → is_gt (R x z) ≡ false
not_past R o x y z at is (inr q) e = ap is_gt (o.congr x y z q ∙ is) ∙ e
not_past R o x y z Less is (inl l) e = ap is_gt (o.trans x y z l is)
not_past R o x y z Equal is (inl l) e = ap is_gt (sym (alike_right o y z x is) ∙ l)
not_past R o x y z Greater is (inl l) e = absurd cc

cut_of : {K : Type 0} (R : K → K → Ordering) → IsTotalOrder R → (f : Record → K) (z : K) → ((r s : Record) → record_cmp r s ≡ Less → (R (f r) (f s) ≡ Less) ⊎ (R (f r) (f s) ≡ Equal)) → IsCut (λ r. R (f r) z)
cut_of R o f z keeps = record {
  less = λ r s h e. lesser R o (f r) (f s) z (keeps r s h) e;
  most = λ r s h e. not_past R o (f r) (f s) z (R (f s) z) refl (keeps r s h) e;
}

abbrev OwnerAndType : Type 0
OwnerAndType = Labels × ℕ

abbrev type_cmp : OwnerAndType → OwnerAndType → Ordering
type_cmp a b = ordering_then (name_cmp a.0 b.0) (nat_cmp a.1 b.1)

then_assoc : (a b c : Ordering) → ordering_then (ordering_then a b) c ≡ ordering_then a (ordering_then b c)
then_assoc Less b c = refl
then_assoc Equal b c = refl
then_assoc Greater b c = refl

pub key_cut : (k : Key) → IsCut (side_of k)
key_cut (key.Owner name) = cut_of name_cmp name_total (λ (r : Record). r.owner) name (λ r s e. then_less (name_cmp r.owner s.owner) _ e)
key_cut (key.Type name t) =
    cut_of type_cmp (then_total (on_total (λ (p : OwnerAndType). p.0) name_total) (on_total (λ (p : OwnerAndType). p.1) nat_cmp_total)) (λ (r : Record). (r.owner, r.rtype)) (name, t)
    (λ r s e. then_less (type_cmp (r.owner, r.rtype) (s.owner, s.rtype)) _ (then_assoc (name_cmp r.owner s.owner) (nat_cmp r.rtype s.rtype) _ ∙ e))
key_cut (key.Data q) = cut_of record_cmp record_total (λ (r : Record). r) q.now (λ r s e. inl e)
key_cut (key.Parts name t octets) = cut_of record_cmp record_total (λ (r : Record). r) (record { owner = name; rtype = t; ttl = 0; rdata = octets.now }) (λ r s e. inl e)

-- the halves
pub told_nat : (i j : ℕ) → (i < j) ⊎ (j ≤ i)
told_nat i j = elim (true_or_false (nat_lt i j)) [ inl e ↦ inl (ltb-true i j e) | inr e ↦ inr (ltb-false i j e) ]

-- what holds of a record and of each before it, holds up to the middle
pub low_half : (P : Record → Type 0) (xs : List Record) (middle : ℕ) → ((r s : Record) → record_cmp r s ≡ Less → P s → P r) → is_ordered xs ≡ true → middle < length xs
    → (r : Record) → r ≡ get_or xs middle r → P r → AllWithin P xs 0 (middle + 1)
low_half P xs middle cut ordered inside r is h = λ k d from to.
    elim (told_nat k middle) [
      | inl lt ↦ cut (get_or xs k d) (get_or xs middle d) (in_order xs k middle d (sorted_from xs ordered) lt inside) (at_middle d)
      | inr ge ↦ (let here : k ≡ middle = omega arith in subst (λ (n : ℕ). P (get_or xs n d)) (sym here) (at_middle d))
    ]
  where
    at_middle : (d : Record) → P (get_or xs middle d)
    at_middle d = subst P (is ∙ get_or_default xs middle r d inside) h

-- what holds of a record and of each after it, holds from the middle on
pub high_half : (P : Record → Type 0) (xs : List Record) (middle : ℕ) → ((r s : Record) → record_cmp r s ≡ Less → P r → P s) → is_ordered xs ≡ true → middle < length xs
    → (r : Record) → r ≡ get_or xs middle r → P r → AllWithin P xs middle (length xs)
high_half P xs middle cut ordered inside r is h = λ k d from to.
    elim (told_nat middle k) [
      | inl lt ↦ cut (get_or xs middle d) (get_or xs k d) (in_order xs middle k d (sorted_from xs ordered) lt to) (at_middle d)
      | inr ge ↦ (let here : k ≡ middle = omega arith in subst (λ (n : ℕ). P (get_or xs n d)) (sym here) (at_middle d))
    ]
  where
    at_middle : (d : Record) → P (get_or xs middle d)
    at_middle d = subst P (is ∙ get_or_default xs middle r d inside) h

-- the same tests, turned
pub not_less : (side : Record → Ordering) → IsCut side → (r s : Record) → record_cmp r s ≡ Less → is_lt (side r) ≡ false → is_lt (side s) ≡ false
not_less side cut r s h e = elim (true_or_false (is_lt (side s))) [ inl up ↦ (let back = cut.less r s h up in absurd cc) | inr other ↦ other ]

pub past : (side : Record → Ordering) → IsCut side → (r s : Record) → record_cmp r s ≡ Less → is_gt (side r) ≡ true → is_gt (side s) ≡ true
past side cut r s h e = elim (true_or_false (is_gt (side s))) [ inl up ↦ up | inr other ↦ (let back = cut.most r s h other in absurd cc) ]

-- what passes a test from one position up to another and nowhere else
pub filter_range : (p : Record → Bool) (xs : List Record) (low high : ℕ) → low ≤ high → high ≤ length xs
    → AllWithin (λ r. p r ≡ false) xs 0 low → AllWithin (λ r. p r ≡ true) xs low high → AllWithin (λ r. p r ≡ false) xs high (length xs)
    → take (high - low) (drop low xs) ≡ filter p xs
filter_range p [] zero high met inside f g h = let none : high - 0 ≡ 0 = omega arith in ap (λ (n : ℕ). take n []) none
filter_range p [] (suc low) high met inside f g h = absurd (omega arith)
filter_range p (x ∷ xs) (suc low) zero met inside f g h = absurd (omega arith)
filter_range p (x ∷ xs) (suc low) (suc high) met inside f g h =
    let first : p x ≡ false = f 0 x (omega arith) (omega arith) in
    let rest = filter_range p xs low high (omega arith) (omega arith) (λ k d from to. f (suc k) d (omega arith) (omega arith)) (λ k d from to. g (suc k) d (omega arith) (omega arith)) (λ k d from to. h (suc k) d (omega arith) (omega arith)) in
    let width : suc high - suc low ≡ high - low = omega arith in
    ap (λ (n : ℕ). take n (drop low xs)) width ∙ rest ∙ ap (λ (b : Bool). cond b (x ∷ filter p xs) (filter p xs)) (sym first)
filter_range p (x ∷ xs) zero zero met inside f g h =
    let first : p x ≡ false = h 0 x (omega arith) (omega arith) in
    let rest = filter_range p xs 0 0 (omega arith) (omega arith) (λ k d from to. absurd (omega arith)) (λ k d from to. absurd (omega arith)) (λ k d from to. h (suc k) d (omega arith) (omega arith)) in
    rest ∙ ap (λ (b : Bool). cond b (x ∷ filter p xs) (filter p xs)) (sym first)
filter_range p (x ∷ xs) zero (suc high) met inside f g h =
    let first : p x ≡ true = g 0 x (omega arith) (omega arith) in
    let rest = filter_range p xs 0 high (omega arith) (omega arith) (λ k d from to. absurd (omega arith)) (λ k d from to. g (suc k) d (omega arith) (omega arith)) (λ k d from to. h (suc k) d (omega arith) (omega arith)) in
    let width : suc high - 0 ≡ suc (high - 0) = omega arith in
    ap (λ (n : ℕ). take n (x ∷ xs)) width ∙ ap (λ (ys : List Record). x ∷ ys) rest ∙ ap (λ (b : Bool). cond b (x ∷ filter p xs) (filter p xs)) (sym first)

lt_apart : (o : Ordering) → is_lt o ≡ true → is_eq o ≡ false
lt_apart Less e = refl
lt_apart Equal e = absurd cc
lt_apart Greater e = refl

gt_apart : (o : Ordering) → is_gt o ≡ true → is_eq o ≡ false
gt_apart Less e = refl
gt_apart Equal e = absurd cc
gt_apart Greater e = refl

pub above : (o : Ordering) → is_lt o ≡ false → is_eq o ≡ false → is_gt o ≡ true
above Less e f = absurd cc
above Equal e f = absurd cc
above Greater e f = refl

-- after those that are what is looked for, none is
pub past_match : (side : Record → Ordering) → IsCut side → (xs : List Record) (at : ℕ) → is_ordered xs ≡ true → at < length xs → (r : Record) → r ≡ get_or xs at r → is_lt (side (get_or xs at r)) ≡ false → is_eq (side r) ≡ false → AllWithin (λ s. is_eq (side s) ≡ false) xs at (length xs)
past_match side cut xs at ordered inside r is low other =
    let here : is_gt (side r) ≡ true = above (side r) (ap (λ s. is_lt (side s)) is ∙ low) other in
    let all = high_half (λ s. is_gt (side s) ≡ true) xs at (past side cut) ordered inside r is here in
    λ k d from to. gt_apart (side (get_or xs k d)) (all k d from to)

between : (o : Ordering) → is_lt o ≡ false → is_gt o ≡ false → is_eq o ≡ true
between Less e f = absurd cc
between Equal e f = refl
between Greater e f = absurd cc

pub not_past_equal : (o : Ordering) → is_eq o ≡ true → is_gt o ≡ false
not_past_equal Less e = absurd cc
not_past_equal Equal e = refl
not_past_equal Greater e = absurd cc

-- up to one that is what is looked for, all are that are not before it
pub match_so_far : (side : Record → Ordering) → IsCut side → (xs : List Record) (begin at : ℕ) → is_ordered xs ≡ true → at < length xs → (r : Record) → r ≡ get_or xs at r → AllWithin (λ s. is_lt (side s) ≡ false) xs begin (length xs) → is_eq (side r) ≡ true → AllWithin (λ s. is_eq (side s) ≡ true) xs begin (at + 1)
match_so_far side cut xs begin at ordered inside r is behind here =
    let up = low_half (λ s. is_gt (side s) ≡ false) xs at cut.most ordered inside r is (not_past_equal (side r) here) in
    λ k d from to. between (side (get_or xs k d)) (behind k d from (omega arith)) (up k d (omega arith) to)

pub matches : (side : Record → Ordering) (xs : List Record) (low high : ℕ) → low ≤ high → high ≤ length xs → AllWithin (λ r. is_lt (side r) ≡ true) xs 0 low → AllWithin (λ r. is_eq (side r) ≡ true) xs low high → AllWithin (λ r. is_eq (side r) ≡ false) xs high (length xs)
    → take (high - low) (drop low xs) ≡ filter (λ r. is_eq (side r)) xs
matches side xs low high met inside f g h = filter_range (λ r. is_eq (side r)) xs low high met inside (λ k d from to. lt_apart _ (f k d from to)) g h
