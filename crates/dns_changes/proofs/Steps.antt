-- Records taken out of a set and put into it one after another.
use Rattle.std.proofs.Common.{◌≡◌, ℕ, zero, suc, ◌+◌, ◌<◌, length, drop, get_or, arith, Bool, true, false, not, ◌&&◌, ◌||◌, inl, inr, List, [], ◌∷◌, Option, Some, None, Ok, Err, refl, sym, ap, subst, ◌∙◌}
use Rattle.std.specs.Prelude.{cond, filter, ◌==◌, is_some, is_ok, Result, IfOk, IfErr, if◌then◌else◌}
use Rattle.std.specs.List.{list_any, list_all}
use Rattle.std.specs.Ordering.{is_eq}
use Rattle.std.proofs.lemmas.List.Folds.{list_any_at}
use Rattle.std.specs.Cmp.{both_ways, tied_itself}
use Rattle.dns_records.specs.Record.{Record, record_cmp}
use Rattle.dns_names.specs.Name.{names_eq}
use Rattle.dns_records.specs.Compare.{same_record, same_record-Decides, same_record-equiv}
use Rattle.dns_zone.specs.Records.{is_ordered, has, put, without, united, same, alike, contains, rrset}
use Rattle.dns_zone.specs.Place.{IsRecordAt, BelongsAt}
use Rattle.dns_zone.specs.Zone.{has_twice}
use Rattle.dns_zone.specs.Order.{record_total, both_true, same_is, same_itself, names_itself, number_itself, tied_key}
use Rattle.dns_zone.specs.Twice.{alike_is, alike_flips, any_by}
use Rattle.dns_zone.specs.Sets.{ties, found, Sorted, true_or_false, sorted_from, equal_is, found_tied, same_sets, sorted_filter, only, found_filter, or_else, found_put, found_united, sorted_put, sorted_united, found_contains, contains_found, filter_contains, contains_filter}
use Rattle.dns_zone.proofs.Kept.{any_kept}
use Rattle.dns_changes.specs.Change.{Change, change_fault, removed_from, are_present, are_new}
use Rattle.dns_changes.specs.declared.ChangeError.TheVariants.{WrongSoa, RemovesAbsent, AddsPresent}

and_both : (a b : Bool) → a ≡ true → b ≡ true → (a && b) ≡ true
and_both true b e f = f
and_both false b e f = absurd cc

-- ---- taking out
pub contains_kept : (a : Record) (test : Record → Bool) (xs : List Record) → contains (filter test xs) a ≡ (contains xs a && test a)
contains_kept a test xs =
    both_ways (contains (filter test xs) a) (contains xs a && test a)
    (λ e. (let h = filter_contains a test xs e in and_both (contains xs a) (test a) h.1 h.0))
    (λ e. (let h = both_true (contains xs a) (test a) e in contains_filter a test xs h.0 h.1))

contains_behind : (r s : Record) (xs : List Record) → contains (without r xs) s ≡ (contains xs s && not (alike r s))
contains_behind r s xs = contains_kept s (λ x. not (is_eq (record_cmp r x))) xs ∙ ap (λ b. contains xs s && not b) (alike_is r s)

all_by : (p q : Record → Bool) → ((r : Record) → p r ≡ q r) → (xs : List Record) → list_all p xs ≡ list_all q xs
all_by p q h [] = refl
all_by p q h (x ∷ xs) = λ i. h x i && all_by p q h xs i

shuffled : (a b c d : Bool) → ((a && not b) && (c && not d)) ≡ ((a && c) && not (b || d))
shuffled true true true d = refl
shuffled true true false d = refl
shuffled true false c d = refl
shuffled false b c d = refl

all_but : (p q : Record → Bool) (xs : List Record) → list_all (λ s. p s && not (q s)) xs ≡ (list_all p xs && not (list_any q xs))
all_but p q [] = refl
all_but p q (x ∷ xs) = ap (λ b. (p x && not (q x)) && b) (all_but p q xs) ∙ shuffled (p x) (q x) (list_all p xs) (list_any q xs)

split_not : (a b c : Bool) → (a && not (b || c)) ≡ ((a && not b) && not c)
split_not true true c = refl
split_not true false c = refl
split_not false b c = refl

-- the first record is there, and the others are held after it
pub present_next : (xs : List Record) (r : Record) (rest : List Record) → contains xs r ≡ true → are_present xs (r ∷ rest) ≡ are_present (without r xs) rest
present_next xs r rest e =
    let others : list_all (contains (without r xs)) rest ≡ (list_all (contains xs) rest && not (list_any (alike r) rest)) =
    all_by (contains (without r xs)) (λ s. contains xs s && not (alike r s)) (λ s. contains_behind r s xs) rest ∙ all_but (contains xs) (alike r) rest in
    ap (λ b. (b && list_all (contains xs) rest) && not (list_any (alike r) rest || has_twice rest)) e
    ∙ split_not (list_all (contains xs) rest) (list_any (alike r) rest) (has_twice rest)
    ∙ ap (λ b. b && not (has_twice rest)) (sym others)

-- of a set the record itself alone ties with it
tie_is_same : (r a : Record) (xs : List Record) → Sorted xs → contains xs r ≡ true → contains xs a ≡ true → same a r ≡ is_eq (record_cmp r a)
tie_is_same r a xs h there present =
    both_ways (same a r) (is_eq (record_cmp r a))
    (λ e. subst (λ (x : Record). is_eq (record_cmp r x) ≡ true) (sym (same_is a r e)) (ap is_eq (tied_itself record_total r)))
    (λ e. (let one = contains_found r xs h there in
    let two = contains_found a xs h present in
    let three = found_tied r a e xs in
    let is : r ≡ a = cc in
    subst (λ (x : Record). same a x ≡ true) (sym is) (same_itself a)))

apart_then : (t c : Bool) (a : Record) (P : Record → Bool) → P a ≡ not c → cond (not (t || c)) (Some a) None ≡ only P (cond (not t) (Some a) None)
apart_then true c a P e = refl
apart_then false c a P e = ap (λ b. cond b (Some a) None) (sym e)

-- it is another record, it is none of those, and it doesn't tie with one
abbrev other_than : Record → List Record → Record → Bool
other_than r rest s = not (same s r || contains rest s)

abbrev none_of : List Record → Record → Bool
none_of rest s = not (contains rest s)

abbrev untied : Record → Record → Bool
untied r s = not (is_eq (record_cmp r s))

removed_at : (xs : List Record) (r : Record) (rest : List Record) → Sorted xs → contains xs r ≡ true → (q : Record) (o : Option Record) → found q xs ≡ o → only (other_than r rest) o ≡ only (none_of rest) (only (untied r) o)
removed_at xs r rest h there q None e = refl
removed_at xs r rest h there q (Some a) e =
    let present = (found_contains q a xs e).1 in
    ap (λ b. cond (not (b || contains rest a)) (Some a) None) (tie_is_same r a xs h there present)
    ∙ apart_then (is_eq (record_cmp r a)) (contains rest a) a (none_of rest) refl

pub removed_next : (xs : List Record) (r : Record) (rest : List Record) → Sorted xs → contains xs r ≡ true → removed_from xs (r ∷ rest) ≡ removed_from (without r xs) rest
removed_next xs r rest h there =
    let kept : Sorted (without r xs) = sorted_filter (untied r) xs h in
    same_sets (removed_from xs (r ∷ rest)) (removed_from (without r xs) rest) (sorted_filter (other_than r rest) xs h) (sorted_filter (none_of rest) (without r xs) kept)
    (λ q. found_filter q (other_than r rest) xs h ∙ removed_at xs r rest h there q (found q xs) refl ∙ sym (found_filter q (none_of rest) (without r xs) kept ∙ ap (only (none_of rest)) (found_filter q (untied r) xs h)))

pub removed_none : (xs : List Record) → removed_from xs [] ≡ xs
removed_none [] = refl
removed_none (x ∷ xs) = ap (λ ys. x ∷ ys) (removed_none xs)

-- ---- putting in
pub has_is : (r : Record) (xs : List Record) → has r xs ≡ is_some (found r xs)
has_is r [] = refl
has_is r (x ∷ xs) = ap (λ b. ties r x || b) (has_is r xs) ∙ one (ties r x) (found r xs)
  where
    one : (t : Bool) (o : Option Record) → (t || is_some o) ≡ is_some (cond t (Some x) o)
    one true o = refl
    one false o = refl

has_put : (s r : Record) (xs : List Record) → has s (put r xs) ≡ (is_eq (record_cmp s r) || has s xs)
has_put s r xs = has_is s (put r xs) ∙ ap is_some (found_put s r xs) ∙ one (ties s r) (found s xs) ∙ ap (λ b. ties s r || b) (sym (has_is s xs))
  where
    one : (t : Bool) (o : Option Record) → is_some (cond t (Some r) o) ≡ (t || is_some o)
    one true o = refl
    one false o = refl

or_shuffled : (a b c d : Bool) → ((a || b) || (c || d)) ≡ ((a || c) || (b || d))
or_shuffled true b c d = refl
or_shuffled false true true d = refl
or_shuffled false true false d = refl
or_shuffled false false c d = refl

any_either : (p q : Record → Bool) (xs : List Record) → list_any (λ s. p s || q s) xs ≡ (list_any p xs || list_any q xs)
any_either p q [] = refl
any_either p q (x ∷ xs) = ap (λ b. (p x || q x) || b) (any_either p q xs) ∙ or_shuffled (p x) (q x) (list_any p xs) (list_any q xs)

joined_not : (a b c : Bool) → (not a && not (b || c)) ≡ (not (b || a) && not c)
joined_not true true c = refl
joined_not true false c = refl
joined_not false true c = refl
joined_not false false c = refl

-- the first record is new, and the others are new after it
pub new_next : (xs : List Record) (r : Record) (rest : List Record) → has r xs ≡ false → are_new xs (r ∷ rest) ≡ are_new (put r xs) rest
new_next xs r rest e =
    let others : list_any (λ s. has s (put r xs)) rest ≡ (list_any (alike r) rest || list_any (λ s. has s xs) rest) =
    any_by (λ s. has s (put r xs)) (λ s. alike r s || has s xs) (λ s. has_put s r xs ∙ ap (λ b. b || has s xs) (alike_is s r ∙ alike_flips s r)) rest ∙ any_either (alike r) (λ s. has s xs) rest in
    ap (λ b. not (b || list_any (λ s. has s xs) rest) && not (list_any (alike r) rest || has_twice rest)) e
    ∙ joined_not (list_any (λ s. has s xs) rest) (list_any (alike r) rest) (has_twice rest)
    ∙ ap (λ b. not b && not (has_twice rest)) (sym others)

pub new_none : (xs : List Record) (r : Record) (rest : List Record) → has r xs ≡ true → are_new xs (r ∷ rest) ≡ false
new_none xs r rest e = ap (λ b. not (b || list_any (λ s. has s xs) rest) && not (list_any (alike r) rest || has_twice rest)) e

unnamed : (r : Record) (xs : List Record) → list_any (alike r) xs ≡ false → found r xs ≡ None
unnamed r [] e = refl
unnamed r (x ∷ xs) e =
    let both = either_false (alike r x) (list_any (alike r) xs) e in
    ap (λ b. cond b (Some x) (found r xs)) (alike_is r x ∙ both.0) ∙ unnamed r xs both.1
  where
    either_false : (a b : Bool) → (a || b) ≡ false → (a ≡ false) × (b ≡ false)
    either_false true b f = absurd cc
    either_false false b f = (refl, f)

first_or_last : (t : Bool) (r : Record) (a b : Option Record) → (t ≡ true → a ≡ None) → cond t (Some r) (or_else a b) ≡ or_else a (cond t (Some r) b)
first_or_last true r a b h = ap (λ o. or_else o (Some r)) (sym (h refl))
first_or_last false r a b h = refl

pub united_with : (xs : List Record) (r : Record) (rest : List Record) → Sorted xs → list_any (alike r) rest ≡ false → united xs (r ∷ rest) ≡ united (put r xs) rest
united_with xs r rest h e =
    same_sets (united xs (r ∷ rest)) (united (put r xs) rest) (sorted_united xs (r ∷ rest) h) (sorted_united (put r xs) rest (sorted_put r xs h))
    (λ q. found_put q r (united xs rest) ∙ ap (cond (ties q r) (Some r)) (found_united q xs rest)
    ∙ first_or_last (ties q r) r (found q rest) (found q xs) (λ t. found_tied q r t rest ∙ unnamed r rest e)
    ∙ sym (found_united q (put r xs) rest ∙ ap (or_else (found q rest)) (found_put q r xs)))

pub united_next : (xs : List Record) (r : Record) (rest : List Record) → Sorted xs → are_new xs (r ∷ rest) ≡ true → united xs (r ∷ rest) ≡ united (put r xs) rest
united_next xs r rest h e = united_with xs r rest h (none_twice (list_any (alike r) rest) (has_twice rest) (both_true (not (has r xs || list_any (λ s. has s xs) rest)) (not (list_any (alike r) rest || has_twice rest)) e).1)
  where
    none_twice : (a b : Bool) → not (a || b) ≡ true → a ≡ false
    none_twice true b f = absurd cc
    none_twice false b f = refl

-- ---- what is asked of the records of one owner and type
of_key : (r : Record) → (names_eq r.owner r.owner && r.rtype == r.rtype) ≡ true
of_key r = λ i. names_itself r.owner i && number_itself r.rtype i

pub present_here : (r : Record) (xs : List Record) → contains (rrset xs r.owner r.rtype) r ≡ contains xs r
present_here r xs = contains_kept r (λ y. names_eq y.owner r.owner && y.rtype == r.rtype) xs ∙ ap (λ b. contains xs r && b) (of_key r) ∙ one (contains xs r)
  where
    one : (b : Bool) → (b && true) ≡ b
    one true = refl
    one false = refl

-- the record of that owner, type and data is the one, or another TTL's
pub among_found : (r a : Record) (xs : List Record) → Sorted xs → found r xs ≡ Some a → contains xs r ≡ same_record a r
among_found r a xs h e =
    both_ways (contains xs r) (same_record a r)
    (λ c. (let one = contains_found r xs h c in
    let is : r ≡ a = cc in
    subst (λ (x : Record). same_record x r ≡ true) is (same_record-equiv.refl r)))
    (λ s. subst (λ (x : Record). contains xs x ≡ true) ((same_record-Decides a r).0 s) (found_contains r a xs e).1)

pub among_here : (r there : Record) (xs : List Record) (at : ℕ) → at < length xs → there ≡ get_or xs at there → there ≡ r → contains xs r ≡ true
among_here r there xs at inside is e = list_any_at (same r) xs at there inside (ap (same r) (sym is ∙ e) ∙ same_itself r)

pub among_none : (r : Record) (xs : List Record) → Sorted xs → has r xs ≡ false → contains xs r ≡ false
among_none r xs h e = elim (true_or_false (contains xs r)) [
  | inr f ↦ f
  | inl c ↦ (let some : is_some (found r xs) ≡ true = ap is_some (contains_found r xs h c) in let none = has_is r xs in absurd cc)
]

pub ok_has : (r : Record) (xs : List Record) (at : Result ℕ ℕ) → IfOk at (IsRecordAt r xs) → IfErr at (BelongsAt r xs) → is_ok at ≡ has r xs
ok_has r xs (Ok at) h k = sym h.there
ok_has r xs (Err at) h k = sym k.absent

pub tied_here : (r : Record) (xs : List Record) → has r (rrset xs r.owner r.rtype) ≡ has r xs
tied_here r xs = any_kept (ties r) (λ y. names_eq y.owner r.owner && y.rtype == r.rtype) xs ∙ any_by (λ y. (names_eq y.owner r.owner && y.rtype == r.rtype) && ties r y) (ties r) each xs
  where
    each : (y : Record) → ((names_eq y.owner r.owner && y.rtype == r.rtype) && ties r y) ≡ ties r y
    each y =
        both_ways ((names_eq y.owner r.owner && y.rtype == r.rtype) && ties r y) (ties r y)
        (λ e. (both_true (names_eq y.owner r.owner && y.rtype == r.rtype) (ties r y) e).1)
        (λ e. (let key = tied_key r y (equal_is (record_cmp r y) e) in
        and_both (names_eq y.owner r.owner && y.rtype == r.rtype) (ties r y) ((λ i. names_eq (sym key.owner i) r.owner && (sym key.rtype i == r.rtype)) ∙ of_key r) e))

-- ---- the loops
pub next_at : (xs : List Record) (i : ℕ) (r : Record) → i < length xs → r ≡ get_or xs i r → drop i xs ≡ r ∷ drop (i + 1) xs
next_at [] i r lt is = absurd (omega arith)
next_at (x ∷ xs) zero r lt is = ap (λ y. y ∷ xs) (sym is)
next_at (x ∷ xs) (suc i) r lt is =
    let next : suc i + 1 ≡ suc (i + 1) = omega arith in
    next_at xs i r (omega arith) is ∙ ap (λ n. r ∷ drop n (x ∷ xs)) (sym next)

-- ---- the whole
pub removes_absent : (c : Change) (xs one : List Record) → contains xs c.old_soa ≡ true → one ≡ without c.old_soa xs → are_present one c.removed ≡ false → change_fault c xs ≡ Some RemovesAbsent
removes_absent c xs one present e f =
    let going : are_present xs (c.old_soa ∷ c.removed) ≡ false = present_next xs c.old_soa c.removed present ∙ ap (λ ys. are_present ys c.removed) (sym e) ∙ f in
    λ i. if not (present i) then Some WrongSoa else if not (going i) then Some RemovesAbsent else if not (are_new (removed_from xs (c.old_soa ∷ c.removed)) (c.new_soa ∷ c.added)) then Some AddsPresent else None

-- ---- one record and others
pub present_both : (xs one : List Record) (r : Record) (rest : List Record) → contains xs r ≡ true → one ≡ without r xs → are_present xs (r ∷ rest) ≡ are_present one rest
present_both xs one r rest there e = present_next xs r rest there ∙ ap (λ ys. are_present ys rest) (sym e)

pub removed_both : (xs one : List Record) (r : Record) (rest : List Record) → is_ordered xs ≡ true → contains xs r ≡ true → one ≡ without r xs → removed_from xs (r ∷ rest) ≡ removed_from one rest
removed_both xs one r rest h there e = removed_next xs r rest (sorted_from xs h) there ∙ ap (λ ys. removed_from ys rest) (sym e)

pub new_both : (xs one : List Record) (r : Record) (rest : List Record) → has r xs ≡ false → one ≡ put r xs → are_new xs (r ∷ rest) ≡ are_new one rest
new_both xs one r rest absent e = new_next xs r rest absent ∙ ap (λ ys. are_new ys rest) (sym e)

pub united_both : (xs one : List Record) (r : Record) (rest : List Record) → is_ordered xs ≡ true → one ≡ put r xs → are_new xs (r ∷ rest) ≡ true → united xs (r ∷ rest) ≡ united one rest
united_both xs one r rest h e new = united_next xs r rest (sorted_from xs h) new ∙ ap (λ ys. united ys rest) (sym e)
