-- Lists that have the same records in another order.
use Rattle.std.proofs.Common.{◌≡◌, inl, inr, ℕ, zero, suc, ◌+◌, ◌<◌, ◌≤◌, Bool, true, false, List, [], ◌∷◌, length, get_or, refl, sym, ap, subst, ◌∙◌, arith, cond}
use Rattle.std.specs.Prelude.{filter, ◌&&◌, ◌||◌, ◌==◌, not, nat_lt, Some, None, Option, if◌then◌else◌}
use Rattle.std.specs.List.{list_any, list_all, IsDistinct, AllByRecursion, IsAllAdjacentAnswer}
use Rattle.std.specs.List.Sorted.{IsPermutation, IsSorted}
use Rattle.std.specs.Ordering.{is_lt, ordering_reverse}
use Rattle.std.specs.Cmp.{both_ways, IsStrictWeakOrder}
use Rattle.std.specs.declared.cmp.Ordering.{Ordering}
use Rattle.std.specs.declared.cmp.Ordering.TheVariants.{Less, Equal, Greater}
use Rattle.std.proofs.lemmas.List.MinMax.{ranks_by}
use Rattle.std.proofs.lemmas.List.Sorted.{IsPermutation-sym, Contains-permutation, list_any-IsPermutation, length_permutation, sum_by-IsPermutation}
use Rattle.std.proofs.lemmas.List.Sums.{length-filter}
use Rattle.std.proofs.lemmas.Bool.Decides.{nat_tests}
use Rattle.std.proofs.lemmas.Map.Keys.{IsDistinct-IsPermutation}
use Rattle.dns_names.specs.Name.{Labels, names_eq, under}
use Rattle.dns_records.specs.Types.{type_soa, type_ns, type_cname}
use Rattle.dns_records.specs.Record.{Record, record_cmp}
use Rattle.dns_zone.specs.Records.{is_ordered, alike, owns_type, records_at}
use Rattle.dns_zone.specs.Zone.{has_twice, has_cname_and_other, is_wildcard, soas, zone_fault}
use Rattle.dns_zone.specs.Made.{IsSetOf}
use Rattle.dns_zone.specs.declared.ZoneError.{ZoneError}
use Rattle.dns_zone.specs.declared.ZoneError.TheVariants.{NoSoa, ManySoa, NoNs, OutOfZone, Duplicate, CnameAndOther, WildcardNs, TooMany}
use Rattle.dns_zone.specs.Order.{record_total}
use Rattle.dns_zone.specs.Sets.{true_or_false}
use Rattle.dns_zone.specs.Twice.{tied_alike, alike_flips, any_by}

-- the order of records ranks them
pub strict : IsStrictWeakOrder (λ (x y : Record). is_lt (record_cmp x y))
strict = ranks_by record_total (λ (r : Record). r)

-- ---- what another order keeps
all_is : (p : Record → Bool) (xs : List Record) → list_all p xs ≡ not (list_any (λ r. not (p r)) xs)
all_is p [] = refl
all_is p (x ∷ xs) = ap (λ b. p x && b) (all_is p xs) ∙ turned (p x) (list_any (λ r. not (p r)) xs)
  where
    turned : (a b : Bool) → (a && not b) ≡ not (not a || b)
    turned true b = refl
    turned false b = refl

count_same : (p : Record → Bool) (xs ys : List Record) → IsPermutation xs ys → length (filter p xs) ≡ length (filter p ys)
count_same p xs ys h = length-filter p xs ∙ sym (sum_by-IsPermutation (λ x. cond (p x) 1 0) xs ys h) ∙ sym (length-filter p ys)

distinct_from : (xs : List Record) → has_twice xs ≡ false → IsDistinct alike xs
unfolding IsDistinct
distinct_from [] e = tt
distinct_from (x ∷ xs) e = (none_of xs (either_false (list_any (alike x) xs) (has_twice xs) e).0, distinct_from xs (either_false (list_any (alike x) xs) (has_twice xs) e).1)
  where
    either_false : (a b : Bool) → (a || b) ≡ false → (a ≡ false) × (b ≡ false)
    either_false true b f = absurd cc
    either_false false b f = (refl, f)

    none_of : (ys : List Record) → list_any (alike x) ys ≡ false → AllByRecursion (λ y. alike x y ≡ false) ys
    none_of [] f = tt
    none_of (y ∷ ys) f = ((either_false (alike x y) (list_any (alike x) ys) f).0, none_of ys (either_false (alike x y) (list_any (alike x) ys) f).1)

distinct_none : (xs : List Record) → IsDistinct alike xs → has_twice xs ≡ false
unfolding IsDistinct
distinct_none [] h = refl
distinct_none (x ∷ xs) h = ap (λ b. b || has_twice xs) (no_other xs h.0) ∙ distinct_none xs h.1
  where
    no_other : (ys : List Record) → AllByRecursion (λ y. alike x y ≡ false) ys → list_any (alike x) ys ≡ false
    no_other [] g = refl
    no_other (y ∷ ys) g = ap (λ b. b || list_any (alike x) ys) g.0 ∙ no_other ys g.1

once_more : (xs ys : List Record) → IsPermutation xs ys → has_twice xs ≡ true → has_twice ys ≡ true
once_more xs ys h e = elim (true_or_false (has_twice ys)) [
  | inl t ↦ t
  | inr f ↦ (let none = distinct_none xs (IsDistinct-IsPermutation alike alike_flips ys xs (IsPermutation-sym xs ys h) (distinct_from ys f)) in absurd cc)
]

twice_same : (xs ys : List Record) → IsPermutation xs ys → has_twice xs ≡ has_twice ys
twice_same xs ys h = both_ways (has_twice xs) (has_twice ys) (once_more xs ys h) (once_more ys xs (IsPermutation-sym xs ys h))

cname_same : (xs ys : List Record) → IsPermutation xs ys → has_cname_and_other xs ≡ has_cname_and_other ys
cname_same xs ys h =
    any_by (λ r. r.rtype == type_cname && nat_lt 1 (length (records_at xs r.owner))) (λ r. r.rtype == type_cname && nat_lt 1 (length (records_at ys r.owner)))
    (λ r. ap (λ n. r.rtype == type_cname && nat_lt 1 n) (count_same (λ s. names_eq s.owner r.owner) xs ys h)) xs
    ∙ list_any-IsPermutation (λ r. r.rtype == type_cname && nat_lt 1 (length (records_at ys r.owner))) xs ys h

-- the order of records makes no difference to why they are no zone
pub fault_same : (apex : Labels) (xs ys : List Record) → IsPermutation xs ys → zone_fault apex xs ≡ zone_fault apex ys
fault_same apex xs ys h =
    let soa : owns_type xs apex type_soa ≡ owns_type ys apex type_soa = list_any-IsPermutation (λ r. names_eq r.owner apex && r.rtype == type_soa) xs ys h in
    let ns : owns_type xs apex type_ns ≡ owns_type ys apex type_ns = list_any-IsPermutation (λ r. names_eq r.owner apex && r.rtype == type_ns) xs ys h in
    let many : length (soas xs) ≡ length (soas ys) = count_same (λ r. r.rtype == type_soa) xs ys h in
    let inside : list_all (λ r. under r.owner apex) xs ≡ list_all (λ r. under r.owner apex) ys = all_is (λ r. under r.owner apex) xs ∙ ap not (list_any-IsPermutation (λ r. not (under r.owner apex)) xs ys h) ∙ sym (all_is (λ r. under r.owner apex) ys) in
    let twice = twice_same xs ys h in
    let cname = cname_same xs ys h in
    let wild : list_any (λ r. r.rtype == type_ns && is_wildcard r.owner) xs ≡ list_any (λ r. r.rtype == type_ns && is_wildcard r.owner) ys = list_any-IsPermutation (λ r. r.rtype == type_ns && is_wildcard r.owner) xs ys h in
    let large : length xs ≡ length ys = sym (length_permutation xs ys h) in
    λ i. if not (soa i) then Some NoSoa else if nat_lt 1 (many i) then Some ManySoa else if not (ns i) then Some NoNs else if not (inside i) then Some OutOfZone else if twice i then Some Duplicate else if cname i then Some CnameAndOther else if wild i then Some WildcardNs else if nat_lt 65536 (large i) then Some TooMany else None

-- ---- records in order
pub set_is : (xs ys : List Record) → IsPermutation xs ys → is_ordered ys ≡ true → IsSetOf xs ys
set_is xs ys h e = record { ordered = e; same = λ r. (Contains-permutation xs ys r h, Contains-permutation ys xs r (IsPermutation-sym xs ys h)) }

not_apart : (a b : Ordering) → b ≡ ordering_reverse a → is_lt a ≡ false → is_lt b ≡ false → a ≡ Equal
not_apart Less b r e f = absurd cc
not_apart Equal b r e f = refl
not_apart Greater b r e f = absurd (let less : is_lt b ≡ true = ap is_lt r in cc)

sorted_rest : (x : Record) (xs : List Record) → IsSorted record_cmp (x ∷ xs) → IsSorted record_cmp xs
sorted_rest x xs h = λ k d low lt. (let next : suc k + 1 ≡ suc (k + 1) = omega arith in subst (λ (n : ℕ). is_lt (record_cmp (get_or (x ∷ xs) n d) (get_or xs k d)) ≡ false) next (h (suc k) d (omega arith) (omega arith)))

-- of records in order that don't rise two are alike
pub twice_from : (xs : List Record) → IsSorted record_cmp xs → is_ordered xs ≡ false → has_twice xs ≡ true
twice_from [] h e = absurd cc
twice_from (x ∷ []) h e = absurd cc
twice_from (x ∷ y ∷ xs) h e = elim (true_or_false (is_lt (record_cmp x y))) [
  | inl t ↦ (let rest : is_ordered (y ∷ xs) ≡ false = ap (λ b. b && is_ordered (y ∷ xs)) (sym t) ∙ e in
      later (list_any (alike x) (y ∷ xs)) (has_twice (y ∷ xs)) (twice_from (y ∷ xs) (sorted_rest x (y ∷ xs) h) rest))
  | inr f ↦ (let up : is_lt (record_cmp y x) ≡ false = h 0 x (omega arith) (omega arith) in
      let tied : record_cmp x y ≡ Equal = not_apart (record_cmp x y) (record_cmp y x) (record_total.antisymm y x) f up in
      ap (λ b. (b || list_any (alike x) xs) || has_twice (y ∷ xs)) (tied_alike x y tied))
]
  where
    later : (b c : Bool) → c ≡ true → (b || c) ≡ true
    later true c g = refl
    later false c g = g

-- ---- neighbours
and_false : (b : Bool) → (b && false) ≡ false
and_false true = refl
and_false false = refl

rising : (xs : List Record) → ((k : ℕ) (d : Record) → k + 1 < length xs → true ≡ is_lt (record_cmp (get_or xs k d) (get_or xs (k + 1) d))) → is_ordered xs ≡ true
rising [] h = refl
rising (x ∷ []) h = refl
rising (x ∷ y ∷ xs) h =
    let first : is_lt (record_cmp x y) ≡ true = sym (h 0 x (omega arith)) in
    ap (λ b. b && is_ordered (y ∷ xs)) first
    ∙ rising (y ∷ xs) (λ k d lt. (let next : suc k + 1 ≡ suc (k + 1) = omega arith in subst (λ (n : ℕ). true ≡ is_lt (record_cmp (get_or (y ∷ xs) k d) (get_or (x ∷ y ∷ xs) n d))) next (h (suc k) d (omega arith))))

broken : (xs : List Record) (k : ℕ) → k + 1 < length xs → ((d : Record) → false ≡ is_lt (record_cmp (get_or xs k d) (get_or xs (k + 1) d))) → is_ordered xs ≡ false
broken [] k lt h = absurd (omega arith)
broken (x ∷ []) k lt h = absurd (omega arith)
broken (x ∷ y ∷ xs) zero lt h = ap (λ b. b && is_ordered (y ∷ xs)) (sym (h x))
broken (x ∷ y ∷ xs) (suc k) lt h =
    let next : suc k + 1 ≡ suc (k + 1) = omega arith in
    ap (λ b. is_lt (record_cmp x y) && b) (broken (y ∷ xs) k (omega arith) (λ d. subst (λ (n : ℕ). false ≡ is_lt (record_cmp (get_or (y ∷ xs) k d) (get_or (x ∷ y ∷ xs) n d))) next (h d)))
    ∙ and_false (is_lt (record_cmp x y))

-- what is told of each two neighbours is the test of order
pub neighbours : (xs : List Record) (r : Bool) → IsAllAdjacentAnswer (λ x y b. b ≡ is_lt (record_cmp x y)) xs r → r ≡ is_ordered xs
neighbours xs true h = sym (rising xs h)
neighbours xs false h = sym (broken xs h.0 h.1 h.2)

-- ---- the refusal of a list in which records occur twice and no lower one applies
pub doubled : (apex : Labels) (xs : List Record) → true ≡ owns_type xs apex type_soa → length (soas xs) ≤ 1 → true ≡ owns_type xs apex type_ns → true ≡ list_all (λ r. under r.owner apex) xs → has_twice xs ≡ true → zone_fault apex xs ≡ Some Duplicate
doubled apex xs soa one ns inside twice =
    let many : nat_lt 1 (length (soas xs)) ≡ false = grind (arith, nat_tests) in
    let last : Option ZoneError = if has_cname_and_other xs then Some CnameAndOther else if list_any (λ r. r.rtype == type_ns && is_wildcard r.owner) xs then Some WildcardNs else if nat_lt 65536 (length xs) then Some TooMany else None in
    λ i. if not (sym soa i) then Some NoSoa else if many i then Some ManySoa else if not (sym ns i) then Some NoNs else if not (sym inside i) then Some OutOfZone else if twice i then Some Duplicate else last
