-- Records in order: what is found by a key.
use Rattle.std.proofs.Common.{◌≡◌, ◌≢◌, Bool, true, false, ◌||◌, ◌⊎◌, inl, inr, List, [], ◌∷◌, Option, Some}
use Rattle.std.proofs.Common.{None, refl, sym, ap, subst, ◌∙◌}
use Rattle.std.specs.Prelude.{cond, filter}
use Rattle.std.specs.List.{find}
use Rattle.std.specs.Ordering.{is_eq, is_lt, ordering_reverse}
use Rattle.std.specs.FinMap.Entries.{by_order}
use Rattle.std.specs.Cmp.{alike_right, tied_itself}
use Rattle.std.specs.declared.cmp.Ordering.{Ordering}
use Rattle.std.specs.declared.cmp.Ordering.TheVariants.{Less, Equal, Greater}
use Rattle.dns_records.specs.Record.{Record, record_cmp}
use Rattle.dns_zone.specs.Records.{is_ordered, put}
use Rattle.dns_zone.specs.Records.{same, contains, united}
use Rattle.dns_zone.specs.Order.{record_total, both_true, same_is, same_itself}

-- the record of the query's owner, type and data
abbrev pub ties : Record → Record → Bool
ties q r = is_eq (record_cmp q r)

abbrev pub found : Record → List Record → Option Record
found q records = find (ties q) records

-- each is greater than the first
abbrev pub Below : Record → List Record → Type 0
Below r [] = Unit {0}
Below r (s ∷ rest) = (record_cmp r s ≡ Less) × Below r rest

abbrev pub Sorted : List Record → Type 0
Sorted [] = Unit {0}
Sorted (r ∷ rest) = Below r rest × Sorted rest

pub equal_is : (o : Ordering) → is_eq o ≡ true → o ≡ Equal
equal_is Less e = absurd cc
equal_is Equal e = refl
equal_is Greater e = absurd cc

pub less_is : (o : Ordering) → is_lt o ≡ true → o ≡ Less
less_is Less e = refl
less_is Equal e = absurd cc
less_is Greater e = absurd cc

pub below_less : (r s : Record) (xs : List Record) → record_cmp r s ≡ Less → Below s xs → Below r xs
below_less r s [] e h = tt
below_less r s (x ∷ xs) e h = (record_total.trans r s x e h.0, below_less r s xs e h.1)

pub below_tied : (r s : Record) (xs : List Record) → record_cmp r s ≡ Equal → Below s xs → Below r xs
below_tied r s [] e h = tt
below_tied r s (x ∷ xs) e h = (record_total.congr r s x e ∙ h.0, below_tied r s xs e h.1)

pub sorted_from : (xs : List Record) → is_ordered xs ≡ true → Sorted xs
sorted_from [] e = tt
sorted_from (x ∷ []) e = (tt, tt)
sorted_from (x ∷ y ∷ xs) e =
    let both = both_true (is_lt (record_cmp x y)) (is_ordered (y ∷ xs)) e in
    let rest = sorted_from (y ∷ xs) both.1 in
    let less = less_is (record_cmp x y) both.0 in
    ((less, below_less x y xs less rest.0), rest)

-- by cases on a test
pub true_or_false : (b : Bool) → (b ≡ true) ⊎ (b ≡ false)
true_or_false true = inl refl
true_or_false false = inr refl

pub not_found : (q : Record) (xs : List Record) → Below q xs → found q xs ≡ None
not_found q [] h = refl
not_found q (x ∷ xs) h = ap (λ o. cond (is_eq o) (Some x) (found q xs)) h.0 ∙ not_found q xs h.1

found_head : (x : Record) (xs : List Record) → found x (x ∷ xs) ≡ Some x
found_head x xs = ap (λ o. cond (is_eq o) (Some x) (found x xs)) (tied_itself record_total x)

pub found_tied : (q a : Record) → ties q a ≡ true → (xs : List Record) → found q xs ≡ found a xs
found_tied q a t [] = refl
found_tied q a t (x ∷ xs) =
    λ i. cond (is_eq (record_total.congr q a x (equal_is (record_cmp q a) t) i)) (Some x)
    (found_tied q a t xs i)

-- lists in order that find the same are the same
missed : (x y : Record) (xs ys : List Record) → record_cmp x y ≡ Less → Below y ys
    → found x (x ∷ xs) ≢ found x (y ∷ ys)
missed x y xs ys e h is =
    let none : found x (y ∷ ys) ≡ None = not_found x (y ∷ ys) (e, below_less x y ys e h) in
    let some : found x (x ∷ xs) ≡ Some x = found_head x xs in
    absurd cc

tails : (x q : Record) (xs ys : List Record)
    → Below x xs
    → Below x ys
    → found q (x ∷ xs) ≡ found q (x ∷ ys)
    → found q xs ≡ found q ys
tails x q xs ys g h e = elim (true_or_false (ties q x)) [
  | inl t ↦ (let tied = equal_is (record_cmp q x) t in not_found q xs (below_tied q x xs tied g)
      ∙ sym (not_found q ys (below_tied q x ys tied h)))
  | inr t ↦ (let left : found q (x ∷ xs) ≡ found q xs = ap (λ b. cond b (Some x) (found q xs)) t in
      let right : found q (x ∷ ys) ≡ found q ys = ap (λ b. cond b (Some x) (found q ys)) t in
      sym left ∙ e ∙ right)
]

greater_back : (x y : Record) → record_cmp x y ≡ Greater → record_cmp y x ≡ Less
greater_back x y e = record_total.antisymm y x ∙ ap ordering_reverse e

pub same_sets : (xs ys : List Record) → Sorted xs → Sorted ys
    → ((q : Record) → found q xs ≡ found q ys) → xs ≡ ys
same_sets [] [] g h is = refl
same_sets [] (y ∷ ys) g h is = (let one = is y in let two = found_head y ys in absurd cc)
same_sets (x ∷ xs) [] g h is = (let one = is x in let two = found_head x xs in absurd cc)
same_sets (x ∷ xs) (y ∷ ys) g h is =
    elim (record_cmp x y) as (λ o. record_cmp x y ≡ o → x ∷ xs ≡ y ∷ ys) [
      | Less ↦ λ e. absurd (missed x y xs ys e h.0 (is x))
      | Greater ↦ λ e. absurd (missed y x ys xs (greater_back x y e) g.0 (sym (is y)))
      | Equal ↦ λ e.
          let at : found x (y ∷ ys) ≡ Some y = ap (λ o. cond (is_eq o) (Some y) (found x ys)) e in
          let some : Some x ≡ Some y = sym (found_head x xs) ∙ is x ∙ at in
          let heads : x ≡ y = cc in
          let rest =
          same_sets xs ys g.1 h.1 (λ q. tails x q xs ys g.0 (below_tied x y ys e h.0)
          (is q ∙ ap (λ r. found q (r ∷ ys)) (sym heads))) in
          λ i. heads i ∷ rest i
    ] refl

-- a record at its position
shadowed : (b : Bool) (x y z : Option Record) → cond b x z ≡ cond b x (cond b y z)
shadowed true x y z = refl
shadowed false x y z = refl

swapped : (a b : Bool) (x y z : Option Record) → (a ≡ true → b ≡ true → ⊥)
    → cond a x (cond b y z) ≡ cond b y (cond a x z)
swapped true true x y z apart = absurd (apart refl refl)
swapped true false x y z apart = refl
swapped false b x y z apart = refl

pub joins : (q x y : Record) → ties q x ≡ true → ties q y ≡ true → record_cmp x y ≡ Equal
joins q x y a b = sym (record_total.congr q x y (equal_is (record_cmp q x) a)) ∙ equal_is (record_cmp q y) b

pub found_put : (q r : Record) (xs : List Record) → found q (put r xs) ≡ cond (ties q r) (Some r) (found q xs)
found_put q r [] = refl
found_put q r (x ∷ xs) =
    elim (record_cmp r x) as (λ o. record_cmp r x ≡ o
    → found q (by_order o (r ∷ x ∷ xs) (r ∷ xs) (x ∷ put r xs))
    ≡ cond (ties q r) (Some r) (found q (x ∷ xs))) [
      | Less ↦ λ e. refl
      | Equal ↦ λ e. shadowed (ties q r) (Some r) (Some x) (found q xs)
          ∙ ap (λ o. cond (ties q r) (Some r) (cond (is_eq o) (Some x) (found q xs)))
          (alike_right record_total r x q e)
      | Greater ↦ λ e. ap (cond (ties q x) (Some x)) (found_put q r xs)
          ∙ swapped (ties q x) (ties q r) (Some x) (Some r) (found q xs)
          (λ a b. (let tied = joins q r x b a in absurd cc))
    ] refl

below_put : (y r : Record) (xs : List Record) → record_cmp y r ≡ Less → Below y xs → Below y (put r xs)
below_put y r [] e h = (e, tt)
below_put y r (x ∷ xs) e h =
    elim (record_cmp r x) as (λ o. Below y (by_order o (r ∷ x ∷ xs) (r ∷ xs) (x ∷ put r xs)))
    [ Less ↦ (e, h) | Equal ↦ (e, h.1) | Greater ↦ (h.0, below_put y r xs e h.1) ]

pub sorted_put : (r : Record) (xs : List Record) → Sorted xs → Sorted (put r xs)
sorted_put r [] h = (tt, tt)
sorted_put r (x ∷ xs) h =
    elim (record_cmp r x) as (λ o. record_cmp r x ≡ o
    → Sorted (by_order o (r ∷ x ∷ xs) (r ∷ xs) (x ∷ put r xs))) [
      | Less ↦ λ e. ((e, below_less r x xs e h.0), h)
      | Equal ↦ λ e. (below_tied r x xs e h.0, h.1)
      | Greater ↦ λ e. (below_put x r xs (greater_back r x e) h.0, sorted_put r xs h.1)
    ] refl

-- those that pass a test
abbrev pub only : (Record → Bool) → Option Record → Option Record
only test None = None
only test (Some r) = cond (test r) (Some r) None

below_filter : (y : Record) (test : Record → Bool) (xs : List Record) → Below y xs → Below y (filter test xs)
below_filter y test [] h = tt
below_filter y test (x ∷ xs) h =
    let rest = below_filter y test xs h.1 in
    elim (test x) as (λ b. Below y (cond b (x ∷ filter test xs) (filter test xs)))
    [ true ↦ (h.0, rest) | false ↦ rest ]

pub sorted_filter : (test : Record → Bool) (xs : List Record) → Sorted xs → Sorted (filter test xs)
sorted_filter test [] h = tt
sorted_filter test (x ∷ xs) h =
    let rest = sorted_filter test xs h.1 in
    elim (test x) as (λ b. Sorted (cond b (x ∷ filter test xs) (filter test xs)))
    [ true ↦ (below_filter x test xs h.0, rest) | false ↦ rest ]

found_passed : (q x : Record) (test : Record → Bool) (xs : List Record) (b t : Bool)
    → test x ≡ b
    → ties q x ≡ t
    → Below x xs
    → found q (filter test xs) ≡ only test (found q xs)
    → found q (cond b (x ∷ filter test xs) (filter test xs)) ≡ only test (cond t (Some x) (found q xs))
found_passed q x test xs true true e f h is = ap (λ c. cond c (Some x) (found q (filter test xs))) f
    ∙ sym (ap (λ c. cond c (Some x) None) e)
found_passed q x test xs true false e f h is = ap (λ c. cond c (Some x) (found q (filter test xs))) f ∙ is
found_passed q x test xs false true e f h is =
    let none : found q (filter test xs) ≡ None =
    not_found q (filter test xs)
    (below_tied q x (filter test xs) (equal_is (record_cmp q x) f) (below_filter x test xs h)) in
    none ∙ sym (ap (λ c. cond c (Some x) None) e)
found_passed q x test xs false false e f h is = is

pub found_filter : (q : Record) (test : Record → Bool) (xs : List Record)
    → Sorted xs
    → found q (filter test xs) ≡ only test (found q xs)
found_filter q test [] h = refl
found_filter q test (x ∷ xs) h =
    found_passed q x test xs (test x) (ties q x) refl refl h.0 (found_filter q test xs h.1)

-- others put among them
abbrev pub or_else : Option Record → Option Record → Option Record
or_else None b = b
or_else (Some a) b = Some a

cond_else : (t : Bool) (r : Record) (a b : Option Record)
    → cond t (Some r) (or_else a b) ≡ or_else (cond t (Some r) a) b
cond_else true r a b = refl
cond_else false r a b = refl

pub found_united : (q : Record) (xs rs : List Record)
    → found q (united xs rs) ≡ or_else (found q rs) (found q xs)
found_united q xs [] = refl
found_united q xs (r ∷ rs) =
    found_put q r (united xs rs) ∙ ap (cond (ties q r) (Some r)) (found_united q xs rs)
    ∙ cond_else (ties q r) r (found q rs) (found q xs)

pub sorted_united : (xs rs : List Record) → Sorted xs → Sorted (united xs rs)
sorted_united xs [] h = h
sorted_united xs (r ∷ rs) h = sorted_put r (united xs rs) (sorted_united xs rs h)

-- what is found is contained, and what is contained is found
pub found_contains : (q a : Record) (xs : List Record) → found q xs ≡ Some a
    → (ties q a ≡ true) × (contains xs a ≡ true)
found_contains q a [] e = absurd cc
found_contains q a (x ∷ xs) e = elim (true_or_false (ties q x)) [
  | inl t ↦ (let at : found q (x ∷ xs) ≡ Some x = ap (λ b. cond b (Some x) (found q xs)) t in
      let is : x ≡ a = cc in
      let self : same a x ≡ true = subst (λ r. same a r ≡ true) (sym is) (same_itself a) in
      (subst (λ r. ties q r ≡ true) is t, ap (λ b. b || contains xs a) self))
  | inr t ↦ (let at : found q (x ∷ xs) ≡ found q xs = ap (λ b. cond b (Some x) (found q xs)) t in
      let rest = found_contains q a xs (sym at ∙ e) in
      (rest.0, or_right (same a x) (contains xs a) rest.1))
]
  where
    or_right : (b c : Bool) → c ≡ true → (b || c) ≡ true
    or_right true c e = refl
    or_right false c e = e

pub either_true : (a b : Bool) → (a || b) ≡ true → (a ≡ true) ⊎ (b ≡ true)
either_true true b e = inl refl
either_true false b e = inr e

below_apart : (x a : Record) (xs : List Record) → Below x xs → contains xs a ≡ true → record_cmp x a ≡ Less
below_apart x a [] h e = absurd cc
below_apart x a (y ∷ ys) h e = elim (either_true (same a y) (contains ys a) e) [
  | inl s ↦ (let is = same_is a y s in subst (λ r. record_cmp x r ≡ Less) (sym is) h.0)
  | inr s ↦ below_apart x a ys h.1 s
]

pub contains_found : (a : Record) (xs : List Record) → Sorted xs → contains xs a ≡ true → found a xs ≡ Some a
contains_found a [] h e = absurd cc
contains_found a (x ∷ xs) h e = elim (either_true (same a x) (contains xs a) e) [
  | inl s ↦ (let is = same_is a x s in subst (λ r. found a (r ∷ xs) ≡ Some a) is (found_head a xs))
  | inr s ↦ (let less = below_apart x a xs h.0 s in
      let other : record_cmp a x ≡ Greater = record_total.antisymm a x ∙ ap ordering_reverse less in
      ap (λ o. cond (is_eq o) (Some x) (found a xs)) other ∙ contains_found a xs h.1 s)
]

-- contained among those that pass a test
pub filter_contains : (a : Record) (test : Record → Bool) (xs : List Record)
    → contains (filter test xs) a ≡ true
    → (test a ≡ true) × (contains xs a ≡ true)
filter_contains a test [] e = absurd cc
filter_contains a test (x ∷ xs) e =
    elim (test x) as (λ b. test x ≡ b → contains (cond b (x ∷ filter test xs) (filter test xs)) a ≡ true
    → (test a ≡ true) × (contains (x ∷ xs) a ≡ true)) [
      | true ↦ λ t c. elim (either_true (same a x) (contains (filter test xs) a) c) [
        | inl s ↦ (subst (λ r. test r ≡ true) (sym (same_is a x s)) t, ap (λ b. b || contains xs a) s)
        | inr s ↦ (let rest = filter_contains a test xs s in (rest.0, grow (same a x) (contains xs a) rest.1))
      ]
      | false ↦
          λ t c. (let rest = filter_contains a test xs c in (rest.0, grow (same a x) (contains xs a) rest.1))
    ] refl e
  where
    grow : (b c : Bool) → c ≡ true → (b || c) ≡ true
    grow true c e = refl
    grow false c e = e

pub contains_filter : (a : Record) (test : Record → Bool) (xs : List Record)
    → contains xs a ≡ true
    → test a ≡ true
    → contains (filter test xs) a ≡ true
contains_filter a test [] e t = absurd cc
contains_filter a test (x ∷ xs) e t = elim (either_true (same a x) (contains xs a) e) [
  | inl s ↦ (let is = same_is a x s in
      let passes : test x ≡ true = subst (λ r. test r ≡ true) is t in
      rw passes (ap (λ b. b || contains (filter test xs) a) s))
  | inr s ↦ (let rest = contains_filter a test xs s t in
      elim (test x) as (λ b. contains (cond b (x ∷ filter test xs) (filter test xs)) a ≡ true)
      [ true ↦ grow (same a x) (contains (filter test xs) a) rest | false ↦ rest ])
]
  where
    grow : (b c : Bool) → c ≡ true → (b || c) ≡ true
    grow true c e = refl
    grow false c e = e
