-- A name's records in two parts, one after the other.
use Rattle.std.proofs.Common.{◌≡◌, ℕ, ◌+◌, Bool, true, false, not, ◌&&◌, List, [], ◌∷◌, ◌++◌, Some, None, length, refl, sym, ap, ◌∙◌, arith, length-append}
use Rattle.std.specs.Prelude.{filter, slice_get, ◌==◌}
use Rattle.std.specs.List.{list_any, list_all}
use Rattle.std.specs.Ordering.{is_lt, ordering_reverse}
use Rattle.std.specs.declared.cmp.Ordering.{Ordering}
use Rattle.std.specs.declared.cmp.Ordering.TheVariants.{Less, Equal, Greater}
use Rattle.std.proofs.lemmas.Bool.Decides.{nat_tests}
use Rattle.std.proofs.lemmas.List.Elements.{filter-append}
use Rattle.std.proofs.lemmas.List.Folds.{list_all-append}
use Rattle.dns_names.specs.Name.{Labels, names_eq}
use Rattle.dns_records.specs.Record.{Record, record_cmp}
use Rattle.dns_zone.specs.Order.{record_total, both_true}
use Rattle.dns_zone.specs.Owned.{none_passes}
use Rattle.dns_zone.specs.Records.{are_of, is_ordered, put}
use Rattle.dns_zone.specs.Sets.{Below, Sorted, below_less, less_is, sorted_from}
use Rattle.dns_zone.proofs.Listed.{below_parts}
use Rattle.dns_zone.proofs.Parted.{AllOf, put_before, put_behind}

-- each record is above one
abbrev pub all_above : Record → List Record → Bool
all_above r xs = list_all (λ s. is_lt (record_cmp r s)) xs

below_all : (r : Record) (xs : List Record) → Below r xs → all_above r xs ≡ true
below_all r [] h = refl
below_all r (x ∷ xs) h = λ i. is_lt (h.0 i) && below_all r xs h.1 i

absorbed : (a b : Bool) → (a ≡ true → b ≡ true) → a ≡ (a && b)
absorbed true b h = sym (h refl)
absorbed false b h = refl

-- of records in order the first tells
pub above_first : (r first : Record) (xs : List Record) → is_ordered xs ≡ true → slice_get xs 0 ≡ Some first → is_lt (record_cmp r first) ≡ all_above r xs
above_first r first [] h e = absurd cc
above_first r first (x ∷ xs) h e =
    let same : x ≡ first = cc in
    let below = (sorted_from (x ∷ xs) h).0 in
    ap (λ (s : Record). is_lt (record_cmp r s)) (sym same)
    ∙ absorbed (is_lt (record_cmp r x)) (all_above r xs) (λ f. below_all r xs (below_less r x xs (less_is (record_cmp r x) f) below))

pub none_above : (r : Record) (xs : List Record) → slice_get xs 0 ≡ None → true ≡ all_above r xs
none_above r [] e = refl
none_above r (x ∷ xs) e = absurd cc

-- ---- what holds of both parts
owned_parts : (name : Labels) (xs ys : List Record) → are_of name (xs ++ ys) ≡ true → (are_of name xs ≡ true) × (are_of name ys ≡ true)
owned_parts name xs ys h = both_true (are_of name xs) (are_of name ys) (sym (list_all-append (λ r. names_eq r.owner name) xs ys) ∙ h)

pub front_owned : (name : Labels) (xs ys : List Record) → are_of name (xs ++ ys) ≡ true → are_of name xs ≡ true
front_owned name xs ys h = (owned_parts name xs ys h).0

pub back_owned : (name : Labels) (xs ys : List Record) → are_of name (xs ++ ys) ≡ true → are_of name ys ≡ true
back_owned name xs ys h = (owned_parts name xs ys h).1

-- ---- where a record goes
above_each : (r : Record) (xs : List Record) → all_above r xs ≡ true → AllOf (λ x. record_cmp r x ≡ Less) xs
above_each r [] e = tt
above_each r (x ∷ xs) e = (let both = both_true (is_lt (record_cmp r x)) (all_above r xs) e in (less_is (record_cmp r x) both.0, above_each r xs both.1))

pub put_front : (r : Record) (xs ys : List Record) → all_above r ys ≡ true → put r xs ++ ys ≡ put r (xs ++ ys)
put_front r xs ys e = sym (put_before r xs ys (above_each r ys e))

-- one that is below all of those after a record, but for those above it
reached : (r x : Record) (ys : List Record) → Below x ys → all_above r ys ≡ false → record_cmp r x ≡ Greater
reached r x [] h e = absurd cc
reached r x (y ∷ ys) h e = step (record_cmp r y) refl e (reached r x ys h.1)
  where
    step : (o : Ordering) → record_cmp r y ≡ o → (is_lt o && all_above r ys) ≡ false → (all_above r ys ≡ false → record_cmp r x ≡ Greater) → record_cmp r x ≡ Greater
    step Less f g rest = rest g
    step Equal f g rest = record_total.congr r y x f ∙ record_total.antisymm y x ∙ ap ordering_reverse h.0
    step Greater f g rest =
        let back : record_cmp y r ≡ Less = record_total.antisymm y r ∙ ap ordering_reverse f in
        record_total.antisymm r x ∙ ap ordering_reverse (record_total.trans x y r h.0 back)

all_reached : (r : Record) (xs ys : List Record) → Sorted (xs ++ ys) → all_above r ys ≡ false → AllOf (λ x. record_cmp r x ≡ Greater) xs
all_reached r [] ys h e = tt
all_reached r (x ∷ xs) ys h e = (reached r x ys (below_parts x xs ys h.0).1 e, all_reached r xs ys h.1 e)

pub put_back : (r : Record) (xs ys : List Record) → is_ordered (xs ++ ys) ≡ true → all_above r ys ≡ false → xs ++ put r ys ≡ put r (xs ++ ys)
put_back r xs ys h e = sym (put_behind r xs ys (all_reached r xs ys (sorted_from (xs ++ ys) h) e))

-- ---- how many pass a test
counted : (p : Record → Bool) (xs ys : List Record) → length (filter p (xs ++ ys)) ≡ length (filter p xs) + length (filter p ys)
counted p xs ys = ap length (filter-append p xs ys) ∙ length-append (filter p xs) (filter p ys)

pub one_front : (p : Record → Bool) (xs ys : List Record) → list_any p xs ≡ true → ((length (filter p xs) == 1) && not (list_any p ys)) ≡ (length (filter p (xs ++ ys)) == 1)
one_front p xs ys e =
    ap (λ b. (length (filter p xs) == 1) && b) (sym (none_passes p ys))
    ∙ by (length (filter p xs)) (length (filter p ys)) (none_passes p xs ∙ ap not e)
    ∙ sym (ap (λ (n : ℕ). n == 1) (counted p xs ys))
  where
    by : (m n : ℕ) → (m == 0) ≡ false → ((m == 1) && (n == 0)) ≡ (m + n == 1)
    by m n e = grind (arith, nat_tests)

pub one_back : (p : Record → Bool) (xs ys : List Record) → list_any p xs ≡ false → (length (filter p ys) == 1) ≡ (length (filter p (xs ++ ys)) == 1)
one_back p xs ys e =
    by (length (filter p xs)) (length (filter p ys)) (none_passes p xs ∙ ap not e)
    ∙ sym (ap (λ (n : ℕ). n == 1) (counted p xs ys))
  where
    by : (m n : ℕ) → (m == 0) ≡ true → (n == 1) ≡ (m + n == 1)
    by m n e = grind (arith, nat_tests)
