-- The owners beside the position of a name tell which of its ancestors exist.
use Rattle.std.proofs.Common.{◌≡◌, ℕ, zero, suc, ◌-◌, ◌<◌, ◌≤◌, Bool, true, false, ◌&&◌, ◌||◌, ◌⊎◌, inl, inr, List, [], ◌∷◌, length, get_or, refl, sym, ap, subst, ◌∙◌, arith}
use Rattle.std.specs.Prelude.{nat_lt, slice_get, Option, Some, None}
use borrow.Author.Tests.{lt-ltb}
use Rattle.std.specs.List.{AllWithin}
use Rattle.std.proofs.lemmas.Option.{slice_get_past}
use Rattle.std.specs.Ordering.{is_lt, ordering_reverse}
use Rattle.std.specs.declared.cmp.Ordering.{Ordering}
use Rattle.std.specs.declared.cmp.Ordering.TheVariants.{Less, Equal, Greater}
use Rattle.dns_names.specs.Name.{Labels, under, name_cmp}
use Rattle.dns_names.specs.Compare.{name_cmp-same}
use Rattle.dns_records.specs.Record.{Record, record_cmp}
use Rattle.dns_zone.specs.Records.{exists, is_ordered}
use Rattle.dns_zone.specs.Order.{name_total}
use Rattle.dns_zone.specs.Place.{IsPlaceOf, is_owned_at, is_owned_beside}
use Rattle.dns_zone.specs.Sets.{Sorted, sorted_from, true_or_false, less_is}
use Rattle.dns_zone.specs.declared.search.Key.TheVariants as key
use Rattle.dns_zone.proofs.Searching.{key_cut, not_less, told_nat}
use Rattle.dns_zone.proofs.Under.{before_apart, convex, none_under, exists_some, exists_none, or_none}

no_less : (o : Ordering) → (is_lt o ≡ true → ⊥) → is_lt o ≡ false
no_less o h = elim (true_or_false (is_lt o)) [ inl e ↦ absurd (h e) | inr e ↦ e ]

-- a name under another is not before it
under_behind : (a n : Labels) → under a n ≡ true → is_lt (name_cmp a n) ≡ false
under_behind a n e = no_less (name_cmp a n) (λ l. (let apart = before_apart a n l in cc))

reversed : (o r : Ordering) → r ≡ ordering_reverse o → is_lt o ≡ false → (r ≡ Less) ⊎ (r ≡ Equal)
reversed Less r e f = absurd cc
reversed Equal r e f = inr e
reversed Greater r e f = inl e

before_both : (a h n : Labels) → name_cmp a h ≡ Less → (name_cmp h n ≡ Less) ⊎ (name_cmp h n ≡ Equal) → name_cmp a n ≡ Less
before_both a h n l (inl m) = name_total.trans a h n l m
before_both a h n l (inr m) = subst (λ (x : Labels). name_cmp a x ≡ Less) (name_cmp-same h n m) l

-- what is not before a name is not before its ancestors
not_before : (a n here : Labels) → is_lt (name_cmp a n) ≡ false → under n here ≡ true → is_lt (name_cmp a here) ≡ false
not_before a n here e u = no_less (name_cmp a here) (λ l. (
    let order = reversed (name_cmp n here) (name_cmp here n) (name_total.antisymm here n) (under_behind n here u) in
    let less : is_lt (name_cmp a n) ≡ true = ap is_lt (before_both a here n (less_is (name_cmp a here) l) order) in
    cc))

or_false : (b : Bool) → (b || false) ≡ b
or_false true = refl
or_false false = refl

or_turned : (a b : Bool) → (a || b) ≡ (b || a)
or_turned true true = refl
or_turned true false = refl
or_turned false true = refl
or_turned false false = refl

or_kept : (b c : Bool) → (b ≡ true → c ≡ true) → c ≡ (b || c)
or_kept true c h = h refl
or_kept false c h = refl

or_first : (b c : Bool) → b ≡ true → (b || c) ≡ true
or_first true c e = refl
or_first false c e = absurd cc

later : (x : Record) (xs : List Record) (name : Labels) (position : ℕ) → IsPlaceOf name (x ∷ xs) (suc position) → IsPlaceOf name xs position
later x xs name position h = record {
  inside = (let i = h.inside in omega (arith, i));
  before = λ k d from to. h.before (suc k) d (omega arith) (omega arith);
  behind = λ k d from to. h.behind (suc k) d (omega arith) (omega arith);
}

-- at the front no record is before the name
at_front : (xs : List Record) (name here : Labels) → Sorted xs → IsPlaceOf name xs 0 → under name here ≡ true → is_owned_at xs 0 here ≡ exists xs here
at_front [] name here s h u = refl
at_front (x ∷ xs) name here s h u =
    let low = not_before x.owner name here (h.behind 0 x (omega arith) (omega arith)) u in
    or_none (under x.owner here) (exists xs here) (none_under x here xs s.0 low)

-- of a record before the name that is under its ancestor the next one is too
next_under : (x y : Record) (ys : List Record) (name here : Labels) → record_cmp x y ≡ Less → is_lt (name_cmp y.owner name) ≡ true → under name here ≡ true → under x.owner here ≡ true → exists (y ∷ ys) here ≡ true
next_under x y ys name here order before u e =
    let low = not_less (λ (r : Record). name_cmp r.owner here) (key_cut (key.Owner here)) x y order (under_behind x.owner here e) in
    or_first (under y.owner here) (exists ys here) (convex y.owner name here low (inl (less_is (name_cmp y.owner name) before)) u)

beside_at : (xs : List Record) (name here : Labels) (position : ℕ) → Sorted xs → IsPlaceOf name xs position → under name here ≡ true → is_owned_beside xs position here ≡ exists xs here
beside_at [] name here zero s h u = refl
beside_at [] name here (suc position) s h u = absurd (let i = h.inside in omega (arith, i))
beside_at (x ∷ xs) name here zero s h u = or_false (under x.owner here) ∙ at_front (x ∷ xs) name here s h u
beside_at (x ∷ xs) name here (suc zero) s h u =
    ap (λ (b : Bool). b || under x.owner here) (at_front xs name here s.1 (later x xs name 0 h) u) ∙ or_turned (exists xs here) (under x.owner here)
beside_at (x ∷ []) name here (suc (suc position)) s h u = absurd (let i = h.inside in omega (arith, i))
beside_at (x ∷ y ∷ ys) name here (suc (suc position)) s h u =
    let rest = beside_at (y ∷ ys) name here (suc position) s.1 (later x (y ∷ ys) name (suc position) h) u in
    steps position ∙ rest
    ∙ or_kept (under x.owner here) (exists (y ∷ ys) here) (next_under x y ys name here s.0.0 (h.before 1 y (omega arith) (omega arith)) u)
  where
    steps : (p : ℕ) → is_owned_beside (x ∷ y ∷ ys) (suc (suc p)) here ≡ is_owned_beside (y ∷ ys) (suc p) here
    steps p = λ i. is_owned_at (y ∷ ys) (suc p) here || (above p i && is_owned_at (x ∷ y ∷ ys) (less p i) here)
      where
        above : (p : ℕ) → nat_lt 0 (suc (suc p)) ≡ nat_lt 0 (suc p)
        above p = lt-ltb 0 (suc (suc p)) (omega arith) ∙ sym (lt-ltb 0 (suc p) (omega arith))

        less : (p : ℕ) → suc (suc p) - 1 ≡ suc (suc p - 1)
        less p = omega arith

pub beside_is : (xs : List Record) (name here : Labels) (position : ℕ) → is_ordered xs ≡ true → IsPlaceOf name xs position → under name here ≡ true → is_owned_beside xs position here ≡ exists xs here
beside_is xs name here position order h u = beside_at xs name here position (sorted_from xs order) h u

abbrev owned : Labels → Option Record → Bool
owned n o = elim o [ Some r ↦ under r.owner n | None ↦ false ]

-- the owner at the position of a name tells whether it exists
pub place_tells : (xs : List Record) (name : Labels) (position : ℕ) → is_ordered xs ≡ true → IsPlaceOf name xs position → is_owned_at xs position name ≡ exists xs name
place_tells xs name position order h = elim (told_nat position (length xs)) [
  | inl inside ↦ (let there = slice_get_found xs position inside in
      ap (owned name) there.1 ∙ exists_some xs name position there.0 (sorted_from xs order) inside h.before h.behind there.2)
  | inr past ↦ ap (owned name) (slice_get_past xs position past) ∙ exists_none xs name position past h.before
]
  where
    slice_get_found : (ys : List Record) (k : ℕ) → k < length ys → (r : Record) × (slice_get ys k ≡ Some r) × (r ≡ get_or ys k r)
    slice_get_found [] k lt = absurd (omega (arith, lt))
    slice_get_found (y ∷ ys) zero lt = (y, refl, refl)
    slice_get_found (y ∷ ys) (suc k) lt = slice_get_found ys k (omega (arith, lt))

pub place_from : (name n : Labels) (xs : List Record) (position : ℕ) → n ≡ name → position ≤ length xs → AllWithin (λ r. is_lt (name_cmp r.owner n) ≡ true) xs 0 position → AllWithin (λ r. is_lt (name_cmp r.owner n) ≡ false) xs position (length xs) → IsPlaceOf name xs position
place_from name n xs position e inside f g = subst (λ (x : Labels). IsPlaceOf x xs position) e (record { inside = inside; before = f; behind = g })
