-- What the sorted list answers, and that it stays in order.
use Rattle.std.proofs.Common.{◌≡◌, ℕ, zero, suc, ◌+◌, ◌≤◌, Bool, true, false, List, [], ◌∷◌, ◌++◌, length, refl, sym, ap, subst, ◌∙◌, arith, cond}
use Rattle.std.specs.Prelude.{filter, ◌&&◌, ◌||◌, ◌==◌, not, nat_lt, Some, None, Option, slice_get, if◌then◌else◌}
use Rattle.std.specs.List.{AllWithin, AllByRecursion, list_any, list_all, find}
use Rattle.std.specs.Ordering.{is_lt, is_eq, is_gt, nat_cmp, ordering_then, ordering_reverse}
use Rattle.std.specs.FinMap.Entries.{by_order}
use Rattle.std.specs.FinMap.{nat_cmp-IsAntisymmetric}
use Rattle.std.specs.Cmp.{both_ways, tied_itself, nat_cmp_total}
use Rattle.std.specs.declared.cmp.Ordering.{Ordering}
use Rattle.std.specs.declared.cmp.Ordering.TheVariants.{Less, Equal, Greater}
use Rattle.std.proofs.lemmas.Bool.Decides.{nat_tests}
use Rattle.dns_names.specs.Name.{Labels, names_eq, under, name_cmp}
use Rattle.dns_names.specs.Compare.{name_cmp-same}
use Rattle.dns_records.specs.Record.{Record, record_cmp, IsRecord}
use Rattle.dns_zone.specs.Records.{is_ordered, put, without, owns_type, records_at, rrset, next_after}
use Rattle.dns_zone.specs.Zone.{has_cname_and_other, soas, zone_fault}
use Rattle.dns_zone.specs.Survey.{Surveys, is_wildcard_ns, fault_found}
use Rattle.dns_zone.specs.declared.survey.Survey.{Survey}
use Rattle.dns_zone.specs.declared.ZoneError.{ZoneError}
use Rattle.dns_zone.specs.declared.ZoneError.TheVariants.{NoSoa, ManySoa, NoNs, OutOfZone, Duplicate, CnameAndOther, WildcardNs, TooMany}
use Rattle.dns_records.specs.Types.{type_soa, type_ns}
use Rattle.dns_zone.specs.Order.{name_total, record_total, names_same, names_itself, number_itself}
use Rattle.dns_zone.specs.Twice.{once}
use Rattle.dns_zone.specs.Sets.{Sorted, Below, sorted_from, sorted_put, sorted_filter, equal_is}

pub filter_same : (p q : Record → Bool) → ((r : Record) → p r ≡ q r) → (xs : List Record) → filter p xs ≡ filter q xs
filter_same p q h [] = refl
filter_same p q h (x ∷ xs) = λ i. cond (h x i) (x ∷ filter_same p q h xs i) (filter_same p q h xs i)

pub names_tie : (a b : Labels) → is_eq (name_cmp a b) ≡ names_eq a b
names_tie a b = both_ways (is_eq (name_cmp a b)) (names_eq a b) (λ e. (let same = name_cmp-same a b (equal_is (name_cmp a b) e) in subst (λ n. names_eq a n ≡ true) same (names_itself a)))
    (λ e. (let same = names_same a b e in subst (λ n. is_eq (name_cmp a n) ≡ true) same (ap is_eq (tied_itself name_total a))))

pub numbers_tie : (a b : ℕ) → is_eq (nat_cmp a b) ≡ (a == b)
numbers_tie a b = both_ways (is_eq (nat_cmp a b)) (a == b) (λ e. (let same = nat_cmp-IsAntisymmetric a b (equal_is (nat_cmp a b) e) in subst (λ n. (a == n) ≡ true) same (number_itself a)))
    (λ e. (let same : a ≡ b = grind (arith, nat_tests, e) in subst (λ n. is_eq (nat_cmp a n) ≡ true) same (ap is_eq (tied_itself nat_cmp_total a))))

pub both_tie : (a b : Ordering) → is_eq (ordering_then a b) ≡ (is_eq a && is_eq b)
both_tie Less b = refl
both_tie Equal b = refl
both_tie Greater b = refl

pub owned_is : (name : Labels) (xs : List Record) → filter (λ r. is_eq (name_cmp r.owner name)) xs ≡ records_at xs name
owned_is name = filter_same (λ r. is_eq (name_cmp r.owner name)) (λ r. names_eq r.owner name) (λ r. names_tie r.owner name)

pub typed_is : (name : Labels) (t : ℕ) (xs : List Record) → filter (λ r. is_eq (ordering_then (name_cmp r.owner name) (nat_cmp r.rtype t))) xs ≡ rrset xs name t
typed_is name t = filter_same (λ r. is_eq (ordering_then (name_cmp r.owner name) (nat_cmp r.rtype t))) (λ r. names_eq r.owner name && r.rtype == t)
    (λ r. both_tie (name_cmp r.owner name) (nat_cmp r.rtype t) ∙ (λ i. names_tie r.owner name i && numbers_tie r.rtype t i))

-- what is in order as a fact, and as the test
pub ordered_from : (xs : List Record) → Sorted xs → is_ordered xs ≡ true
ordered_from [] h = refl
ordered_from (x ∷ []) h = refl
ordered_from (x ∷ y ∷ xs) h = λ i. is_lt (h.0.0 i) && ordered_from (y ∷ xs) h.1 i

pub put_ordered : (r : Record) (xs : List Record) → is_ordered xs ≡ true → is_ordered (put r xs) ≡ true
put_ordered r xs h = ordered_from (put r xs) (sorted_put r xs (sorted_from xs h))

pub without_ordered : (r : Record) (xs : List Record) → is_ordered xs ≡ true → is_ordered (without r xs) ≡ true
without_ordered r xs h = ordered_from (without r xs) (sorted_filter (λ s. not (is_eq (record_cmp r s))) xs (sorted_from xs h))

-- records in order in two parts, one after the other
pub below_parts : (r : Record) (xs ys : List Record) → Below r (xs ++ ys) → Below r xs × Below r ys
below_parts r [] ys h = (tt, h)
below_parts r (x ∷ xs) ys h = (let rest = below_parts r xs ys h.1 in ((h.0, rest.0), rest.1))

pub sorted_parts : (xs ys : List Record) → Sorted (xs ++ ys) → Sorted xs × Sorted ys
sorted_parts [] ys h = (tt, h)
sorted_parts (x ∷ xs) ys h = (let rest = sorted_parts xs ys h.1 in (((below_parts x xs ys h.0).0, rest.0), rest.1))

pub ordered_parts : (all xs ys : List Record) → all ≡ xs ++ ys → is_ordered all ≡ true → (is_ordered xs ≡ true) × (is_ordered ys ≡ true)
ordered_parts all xs ys e h =
    let both = sorted_parts xs ys (sorted_from (xs ++ ys) (subst (λ (rs : List Record). is_ordered rs ≡ true) e h)) in
    (ordered_from xs both.0, ordered_from ys both.1)

pub put_valid : (r : Record) (xs : List Record) → IsRecord r → AllByRecursion IsRecord xs → AllByRecursion IsRecord (put r xs)
put_valid r [] v h = (v, tt)
put_valid r (x ∷ xs) v h =
    elim (record_cmp r x) as (λ o. AllByRecursion IsRecord (by_order o (r ∷ x ∷ xs) (r ∷ xs) (x ∷ put r xs))) [ Less ↦ (v, h) | Equal ↦ (v, h.1) | Greater ↦ (h.0, put_valid r xs v h.1) ]

pub without_valid : (r : Record) (xs : List Record) → AllByRecursion IsRecord xs → AllByRecursion IsRecord (without r xs)
without_valid r [] h = tt
without_valid r (x ∷ xs) h =
    elim (not (is_eq (record_cmp r x))) as (λ b. AllByRecursion IsRecord (cond b (x ∷ without r xs) (without r xs))) [ true ↦ (h.0, without_valid r xs h.1) | false ↦ without_valid r xs h.1 ]

-- the first record after another
greater_is : (a b : Ordering) → b ≡ ordering_reverse a → is_lt b ≡ is_gt a
greater_is Less b e = ap is_lt e
greater_is Equal b e = ap is_lt e
greater_is Greater b e = ap is_lt e

pub next_is : (r : Record) (xs : List Record) (at : ℕ) → at ≤ length xs → AllWithin (λ s. is_gt (record_cmp s r) ≡ false) xs 0 at → AllWithin (λ s. is_gt (record_cmp s r) ≡ true) xs at (length xs) → slice_get xs at ≡ next_after (Some r) xs
next_is r [] at inside f g = refl
next_is r (x ∷ xs) zero inside f g =
    let past : is_lt (record_cmp r x) ≡ true = greater_is (record_cmp x r) (record_cmp r x) (record_total.antisymm r x) ∙ g 0 x (omega arith) (omega arith) in
    ap (λ (b : Bool). cond b (Some x) (find (λ s. is_lt (record_cmp r s)) xs)) (sym past)
next_is r (x ∷ xs) (suc at) inside f g =
    let here : is_lt (record_cmp r x) ≡ false = greater_is (record_cmp x r) (record_cmp r x) (record_total.antisymm r x) ∙ f 0 x (omega arith) (omega arith) in
    next_is r xs at (omega arith) (λ k d from to. f (suc k) d (omega arith) (omega arith)) (λ k d from to. g (suc k) d (omega arith) (omega arith))
    ∙ ap (λ (b : Bool). cond b (Some x) (find (λ s. is_lt (record_cmp r s)) xs)) (sym here)

and_true : (b : Bool) → (b && true) ≡ b
and_true true = refl
and_true false = refl

or_false : (b : Bool) → (b || false) ≡ b
or_false true = refl
or_false false = refl

-- the refusal that is told is the refusal
pub fault_is : (apex : Labels) (xs : List Record) (s : Survey) (a b : Bool) → Sorted xs → a ≡ not (owns_type xs apex type_soa) → b ≡ not (owns_type xs apex type_ns) → Surveys apex xs [] s → fault_found s a b ≡ zone_fault apex xs
fault_is apex xs s a b h no_soa no_ns tells =
    let zero_soas : s.soas + 0 ≡ s.soas = omega arith in
    let zero_count : s.count + 0 ≡ s.count = omega arith in
    let many = sym (ap (nat_lt 1) zero_soas) ∙ tells.soas_of in
    let outside = ap not (sym (and_true s.inside) ∙ tells.inside_of) in
    let shared = sym (or_false s.shared_alias) ∙ tells.shared_of in
    let wild = sym (or_false s.wildcard_ns) ∙ tells.wildcard_of in
    let large = sym (ap (nat_lt 65536) zero_count) ∙ tells.count_of in
    let none = sym (once xs h) in
    let last : Option ZoneError = if has_cname_and_other xs then Some CnameAndOther else if list_any is_wildcard_ns xs then Some WildcardNs else if nat_lt 65536 (length xs) then Some TooMany else None in
    (λ i. if no_soa i then Some NoSoa else if many i then Some ManySoa else if no_ns i then Some NoNs else if outside i then Some OutOfZone else if shared i then Some CnameAndOther else if wild i then Some WildcardNs else if large i then Some TooMany else None)
    ∙ (λ i. if not (owns_type xs apex type_soa) then Some NoSoa else if nat_lt 1 (length (soas xs)) then Some ManySoa else if not (owns_type xs apex type_ns) then Some NoNs else if not (list_all (λ r. under r.owner apex) xs) then Some OutOfZone else if none i then Some Duplicate else last)
