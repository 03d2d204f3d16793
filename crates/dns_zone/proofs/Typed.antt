-- The records of one name rise by their types.
use Rattle.std.proofs.Common.{◌≡◌, ℕ, zero, suc, ◌+◌, ◌-◌, ◌<◌, ◌≤◌, Bool, true, false, ◌⊎◌, inl, inr, List, [], ◌∷◌, length, get_or, take, drop, refl, sym, ap, subst, ◌∙◌, arith, cond, length-drop}
use Rattle.std.specs.Prelude.{filter, nat_lt, ◌==◌, ◌&&◌}
use Rattle.std.specs.List.{AllWithin}
use Rattle.std.specs.List.Sorted.{IsPartitionedBy}
use Rattle.std.specs.Ordering.{nat_cmp, ordering_then}
use Rattle.std.specs.Cmp.{tied_itself}
use Rattle.std.specs.Cmp.Lexicographic.{slice_cmp}
use Rattle.std.specs.declared.cmp.Ordering.{Ordering}
use Rattle.std.specs.declared.cmp.Ordering.TheVariants.{Less, Equal, Greater}
use Rattle.std.proofs.lemmas.Bool.Decides.{nat_tests}
use Rattle.std.proofs.lemmas.List.{get_or-drop}
use borrow.Author.Tests.{ltb-true, ltb-false}
use Rattle.dns_names.specs.Name.{Labels, names_eq, name_cmp}
use Rattle.dns_records.specs.Record.{Record, record_cmp}
use Rattle.dns_zone.specs.Records.{is_ordered, records_at, rrset}
use Rattle.dns_zone.specs.Order.{name_total, names_same}
use Rattle.dns_zone.specs.Sets.{sorted_from, sorted_filter}
use Rattle.dns_zone.proofs.Kept.{single}
use Rattle.dns_zone.proofs.Searching.{in_order, then_less, told_nat, filter_range}

-- what a test keeps passes it
kept : (p : Record → Bool) (xs : List Record) (k : ℕ) (d : Record) → k < length (filter p xs) → p (get_or (filter p xs) k d) ≡ true
kept p [] k d lt = absurd (omega arith)
kept p (x ∷ xs) k d lt = step (p x) refl k lt (λ j h. kept p xs j d h)
  where
    step : (b : Bool) → p x ≡ b → (k : ℕ) → k < length (cond b (x ∷ filter p xs) (filter p xs)) → ((j : ℕ) → j < length (filter p xs) → p (get_or (filter p xs) j d) ≡ true) → p (get_or (cond b (x ∷ filter p xs) (filter p xs)) k d) ≡ true
    step true e zero lt inner = e
    step true e (suc k) lt inner = inner k (omega arith)
    step false e k lt inner = inner k lt

-- what two tests keep, one after the other
pub kept_twice : (p q : Record → Bool) (xs : List Record) → filter q (filter p xs) ≡ filter (λ r. p r && q r) xs
kept_twice p q [] = refl
kept_twice p q (x ∷ xs) = step (p x) (kept_twice p q xs)
  where
    step : (b : Bool) → filter q (filter p xs) ≡ filter (λ r. p r && q r) xs → filter q (cond b (x ∷ filter p xs) (filter p xs)) ≡ cond (b && q x) (x ∷ filter (λ r. p r && q r) xs) (filter (λ r. p r && q r) xs)
    step true e = ap (λ (ys : List Record). cond (q x) (x ∷ ys) ys) e
    step false e = e

at_most : (m n : ℕ) → (nat_cmp m n ≡ Less) ⊎ (nat_cmp m n ≡ Equal) → m ≤ n
at_most m n h = elim (told_nat n m) [ inr le ↦ le | inl lt ↦ absurd (apart h (cmp_more lt)) ]
  where
    cmp_more : n < m → nat_cmp m n ≡ Greater
    cmp_more lt = grind (arith, nat_tests)

    apart : (nat_cmp m n ≡ Less) ⊎ (nat_cmp m n ≡ Equal) → nat_cmp m n ≡ Greater → ⊥
    apart (inl e) f = cc
    apart (inr e) f = cc

types_rise : (name : Labels) (a b : Record) → names_eq a.owner name ≡ true → names_eq b.owner name ≡ true → record_cmp a b ≡ Less → a.rtype ≤ b.rtype
types_rise name a b f g e =
    let tied : name_cmp a.owner b.owner ≡ Equal = (λ i. name_cmp (names_same a.owner name f i) (names_same b.owner name g i)) ∙ tied_itself name_total name in
    at_most a.rtype b.rtype (then_less (nat_cmp a.rtype b.rtype) (slice_cmp nat_cmp a.rdata b.rdata) (sym (ap (λ (o : Ordering). ordering_then o (ordering_then (nat_cmp a.rtype b.rtype) (slice_cmp nat_cmp a.rdata b.rdata))) tied) ∙ e))

abbrev pub Rises : List Record → Type 0
Rises xs = (i j : ℕ) (d : Record) → i ≤ j → j < length xs → (get_or xs i d).rtype ≤ (get_or xs j d).rtype

pub owned_rise : (set : List Record) (name : Labels) → is_ordered set ≡ true → Rises (records_at set name)
owned_rise set name ordered = λ i j d met inside.
    elim (told_nat i j) [
      | inl lt ↦ types_rise name (get_or xs i d) (get_or xs j d) (kept at set i d (omega arith)) (kept at set j d inside) (in_order xs i j d (sorted_filter at set (sorted_from set ordered)) lt inside)
      | inr ge ↦ (let same : i ≡ j = omega arith in subst (λ (n : ℕ). (get_or xs i d).rtype ≤ (get_or xs n d).rtype) same (omega arith))
    ]
  where
    at : Record → Bool
    at r = names_eq r.owner name

    xs : List Record
    xs = records_at set name

-- the types below one come first
pub below_first : (t : ℕ) (xs : List Record) → Rises xs → IsPartitionedBy (λ r. nat_lt r.rtype t) xs
below_first t xs rises = λ i j d met inside h.
    let met_types : (get_or xs i d).rtype ≤ (get_or xs j d).rtype = rises i j d met inside in
    let less : (get_or xs j d).rtype < t = ltb-true _ t h in
    less_is (get_or xs i d).rtype t (omega arith)
  where
    less_is : (m n : ℕ) → m < n → nat_lt m n ≡ true
    less_is m n h = grind (arith, nat_tests)

same_number : (m n : ℕ) → (m == n) ≡ true → m ≡ n
same_number m n e = grind (arith, nat_tests)

is_number : (m n : ℕ) → m ≡ n → (m == n) ≡ true
is_number m n e = grind (arith, nat_tests)

other_number : (m n : ℕ) → m < n → (m == n) ≡ false
other_number m n e = grind (arith, nat_tests)

-- and then that type
pub here_first : (t : ℕ) (xs : List Record) (at : ℕ) → Rises xs → AllWithin (λ r. nat_lt r.rtype t ≡ false) xs at (length xs) → IsPartitionedBy (λ r. r.rtype == t) (drop at xs)
here_first t xs at rises past = λ i j d met inside h.
    let within : at + j < length xs = omega (arith, length-drop at xs) in
    let there : (get_or xs (at + j) d).rtype ≡ t = same_number _ t (rw get_or-drop at h) in
    let met_types : (get_or xs (at + i) d).rtype ≤ (get_or xs (at + j) d).rtype = rises (at + i) (at + j) d (omega arith) within in
    let low : t ≤ (get_or xs (at + i) d).rtype = ltb-false _ t (past (at + i) d (omega arith) (omega arith)) in
    rw get_or-drop (is_number _ t (omega (arith, there, met_types, low)))

-- what is from the one position up to the other has the type
pub typed : (set : List Record) (name : Labels) (t : ℕ) (xs : List Record) → xs ≡ records_at set name → (at : ℕ) → at ≤ length xs → AllWithin (λ r. nat_lt r.rtype t ≡ true) xs 0 at → (n : ℕ) → n ≤ length (drop at xs)
    → AllWithin (λ r. (r.rtype == t) ≡ true) (drop at xs) 0 n → AllWithin (λ r. (r.rtype == t) ≡ false) (drop at xs) n (length (drop at xs)) → take n (drop at xs) ≡ rrset set name t
typed set name t xs held at inside before n fits here past =
    let width : at + n - at ≡ n = omega arith in
    let size = length-drop at xs in
    ap (λ (k : ℕ). take k (drop at xs)) (sym width)
    ∙ filter_range (λ r. r.rtype == t) xs at (at + n) (omega arith) (omega (arith, size)) (λ k d from to. other_number _ t (ltb-true _ t (before k d from to))) (λ k d from to. moved (λ b. b ≡ true) k d from (here (k - at) d (omega arith) (omega arith)))
    (λ k d from to. moved (λ b. b ≡ false) k d (omega arith) (past (k - at) d (omega arith) (omega (arith, size))))
    ∙ ap (filter (λ r. r.rtype == t)) held
    ∙ kept_twice (λ r. names_eq r.owner name) (λ r. r.rtype == t) set
  where
    moved : (P : Bool → Type 0) (k : ℕ) (d : Record) → at ≤ k → P ((get_or (drop at xs) (k - at) d).rtype == t) → P ((get_or xs k d).rtype == t)
    moved P k d from h =
        let there : at + (k - at) ≡ k = omega arith in
        subst (λ (m : ℕ). P ((get_or xs m d).rtype == t)) there (rw get_or-drop at h)

-- those of a type, where the name owns one record
pub typed_one : (set : List Record) (name : Labels) (t : ℕ) (xs : List Record) (r : Record) → length xs ≡ 1 → r ≡ get_or xs 0 r
    → xs ≡ records_at set name → cond (r.rtype == t) xs [] ≡ rrset set name t
typed_one set name t xs r size first held =
    let alone : xs ≡ r ∷ [] = single xs r r size first in
    ap (λ (ys : List Record). cond (r.rtype == t) ys []) alone ∙ ap (filter (λ (r : Record). r.rtype == t)) (sym alone ∙ held)
    ∙ kept_twice (λ r. names_eq r.owner name) (λ r. r.rtype == t) set
