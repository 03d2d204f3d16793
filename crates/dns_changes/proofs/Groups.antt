-- Records taken out of a set and put into it name by name.
use Rattle.std.proofs.Common.{◌≡◌, ℕ, zero, suc, ◌+◌, ◌<◌, length, take, drop, arith, Bool, true, false, not, ◌&&◌, ◌||◌, inl, inr, List, [], ◌∷◌, ◌++◌, Option, Some, None, refl, sym, ap, subst, ◌∙◌, cond, append_assoc}
use Rattle.std.specs.Prelude.{slice_set}
use Rattle.std.specs.List.{list_any, list_all}
use Rattle.std.specs.Ordering.{ordering_reverse}
use Rattle.std.specs.FinMap.Entries.{by_order}
use Rattle.std.specs.declared.cmp.Ordering.TheVariants.{Less, Equal, Greater}
use Rattle.std.proofs.lemmas.List.{take-append-drop}
use Rattle.dns_names.specs.Name.{Labels, names_eq}
use Rattle.dns_records.specs.Record.{Record, record_cmp}
use Rattle.dns_zone.specs.Records.{is_ordered, are_of, has, put, without, others, united, contains, records_at}
use Rattle.dns_zone.specs.Zone.{has_twice}
use Rattle.dns_zone.specs.Order.{record_total, both_true}
use Rattle.dns_zone.specs.Twice.{once, none_alike}
use Rattle.dns_zone.specs.Sets.{Sorted, Below, true_or_false, sorted_from, sorted_filter, sorted_united, same_sets, found, found_filter, found_united, only, or_else}
use Rattle.dns_zone.proofs.Alone.{of_all}
use Rattle.dns_zone.proofs.Listed.{ordered_from, ordered_parts, sorted_parts, put_ordered, without_ordered}
use Rattle.dns_zone.proofs.Parted.{AllOf, put_behind, has_parted}
use Rattle.dns_zone.proofs.Replaced.{at_pass, still_pass, replaced_kept, all_from, AllAt}
use Rattle.dns_changes.specs.Change.{removed_from, are_present, are_new}
use Rattle.dns_changes.proofs.Steps.{contains_kept, present_next, removed_next, removed_none, new_next, new_none, united_next, united_with}

-- ---- the first records, and the others
present_first : (xs : List Record) (r : Record) (g : List Record) → are_present xs (r ∷ g) ≡ true → contains xs r ≡ true
present_first xs r g e = (both_true (contains xs r) (list_all (contains xs) g) (both_true (contains xs r && list_all (contains xs) g) (not (has_twice (r ∷ g))) e).0).0

pub present_group : (xs g rest : List Record) → is_ordered xs ≡ true → are_present xs g ≡ true → are_present xs (g ++ rest) ≡ are_present (removed_from xs g) rest
present_group xs [] rest h e = ap (λ ys. are_present ys rest) (sym (removed_none xs))
present_group xs (r ∷ g) rest h e =
    let there = present_first xs r g e in
    present_next xs r (g ++ rest) there
    ∙ present_group (without r xs) g rest (without_ordered r xs h) (sym (present_next xs r g there) ∙ e)
    ∙ ap (λ ys. are_present ys rest) (sym (removed_next xs r g (sorted_from xs h) there))

pub absent_group : (xs g rest : List Record) → are_present xs g ≡ false → are_present xs (g ++ rest) ≡ false
absent_group xs [] rest e = absurd cc
absent_group xs (r ∷ g) rest e = elim (true_or_false (contains xs r)) [
  | inl t ↦ present_next xs r (g ++ rest) t ∙ absent_group (without r xs) g rest (sym (present_next xs r g t) ∙ e)
  | inr f ↦ ap (λ b. (b && list_all (contains xs) (g ++ rest)) && not (has_twice (r ∷ g ++ rest))) f
]

pub removed_group : (xs g rest : List Record) → is_ordered xs ≡ true → are_present xs g ≡ true → removed_from xs (g ++ rest) ≡ removed_from (removed_from xs g) rest
removed_group xs [] rest h e = ap (λ ys. removed_from ys rest) (sym (removed_none xs))
removed_group xs (r ∷ g) rest h e =
    let there = present_first xs r g e in
    removed_next xs r (g ++ rest) (sorted_from xs h) there
    ∙ removed_group (without r xs) g rest (without_ordered r xs h) (sym (present_next xs r g there) ∙ e)
    ∙ ap (λ ys. removed_from ys rest) (sym (removed_next xs r g (sorted_from xs h) there))

new_first : (xs : List Record) (r : Record) (g : List Record) → are_new xs (r ∷ g) ≡ true → has r xs ≡ false
new_first xs r g e = elim (true_or_false (has r xs)) [
  | inl t ↦ (let none = new_none xs r g t in absurd cc)
  | inr f ↦ f
]

pub new_group : (xs g rest : List Record) → is_ordered xs ≡ true → are_new xs g ≡ true → are_new xs (g ++ rest) ≡ are_new (united xs g) rest
new_group xs [] rest h e = refl
new_group xs (r ∷ g) rest h e =
    let absent = new_first xs r g e in
    new_next xs r (g ++ rest) absent
    ∙ new_group (put r xs) g rest (put_ordered r xs h) (sym (new_next xs r g absent) ∙ e)
    ∙ ap (λ ys. are_new ys rest) (sym (united_next xs r g (sorted_from xs h) e))

pub old_group : (xs g rest : List Record) → are_new xs g ≡ false → are_new xs (g ++ rest) ≡ false
old_group xs [] rest e = absurd cc
old_group xs (r ∷ g) rest e = elim (true_or_false (has r xs)) [
  | inl t ↦ new_none xs r (g ++ rest) t
  | inr f ↦ new_next xs r (g ++ rest) f ∙ old_group (put r xs) g rest (sym (new_next xs r g f) ∙ e)
]

pub united_group : (xs g rest : List Record) → is_ordered xs ≡ true → are_new xs g ≡ true → are_new xs (g ++ rest) ≡ true → united xs (g ++ rest) ≡ united (united xs g) rest
united_group xs [] rest h e all = refl
united_group xs (r ∷ g) rest h e all =
    let absent = new_first xs r g e in
    united_next xs r (g ++ rest) (sorted_from xs h) all
    ∙ united_group (put r xs) g rest (put_ordered r xs h) (sym (new_next xs r g absent) ∙ e) (sym (new_next xs r (g ++ rest) absent) ∙ all)
    ∙ ap (λ ys. united ys rest) (sym (united_next xs r g (sorted_from xs h) e))

-- ---- what the name tells of its own records
and_true : (b c : Bool) → c ≡ true → (b && c) ≡ b
and_true true c e = e
and_true false c e = refl

all_owned : (name : Labels) (xs gone : List Record) → are_of name gone ≡ true → list_all (contains (records_at xs name)) gone ≡ list_all (contains xs) gone
all_owned name xs [] a = refl
all_owned name xs (r ∷ g) a =
    let both = both_true (names_eq r.owner name) (are_of name g) a in
    let here : contains (records_at xs name) r ≡ contains xs r = contains_kept r (λ y. names_eq y.owner name) xs ∙ and_true (contains xs r) (names_eq r.owner name) both.0 in
    λ i. here i && all_owned name xs g both.1 i

pub present_is : (name : Labels) (xs gone : List Record) → is_ordered gone ≡ true → are_of name gone ≡ true → list_all (contains (records_at xs name)) gone ≡ are_present xs gone
present_is name xs gone h a = all_owned name xs gone a ∙ sym (and_true (list_all (contains xs) gone) (not (has_twice gone)) (ap not (once gone (sorted_from gone h))))

pub taken_is : (name : Labels) (xs gone : List Record) → is_ordered xs ≡ true → are_of name gone ≡ true → united (others xs name) (removed_from (records_at xs name) gone) ≡ removed_from xs gone
taken_is name xs gone h a = replaced_kept name (λ r. not (contains gone r)) stays xs (sorted_from xs h)
  where
    stays : (r : Record) → names_eq r.owner name ≡ false → not (contains gone r) ≡ true
    stays r e = elim (true_or_false (contains gone r)) [
      | inl t ↦ (let own = of_all (λ (s : Record). names_eq s.owner name) gone a r t in absurd cc)
      | inr f ↦ ap not f
    ]

pub left_ordered : (xs gone : List Record) → is_ordered xs ≡ true → is_ordered (removed_from xs gone) ≡ true
left_ordered xs gone h = ordered_from (removed_from xs gone) (sorted_filter (λ r. not (contains gone r)) xs (sorted_from xs h))

pub left_owned : (name : Labels) (xs gone : List Record) → are_of name (removed_from (records_at xs name) gone) ≡ true
left_owned name xs gone = still_pass (λ r. names_eq r.owner name) (λ r. not (contains gone r)) (records_at xs name) (at_pass name xs)

any_owned : (name : Labels) (xs come : List Record) → AllAt name come → list_any (λ r. has r (records_at xs name)) come ≡ list_any (λ r. has r xs) come
any_owned name xs [] a = refl
any_owned name xs (r ∷ g) a =
    let here : has r (records_at xs name) ≡ has r xs = subst (λ (n : Labels). has r (records_at xs n) ≡ has r xs) a.0 (has_parted r xs) in
    λ i. here i || any_owned name xs g a.1 i

pub new_is : (name : Labels) (xs come : List Record) → is_ordered come ≡ true → are_of name come ≡ true → not (list_any (λ r. has r (records_at xs name)) come) ≡ are_new xs come
new_is name xs come h a =
    ap not (any_owned name xs come (all_from name come a)) ∙ sym (and_true (not (list_any (λ r. has r xs) come)) (not (has_twice come)) (ap not (once come (sorted_from come h))))

pub put_is : (name : Labels) (xs come : List Record) → is_ordered xs ≡ true → united (others xs name) (united (records_at xs name) come) ≡ united xs come
put_is name xs come h =
    same_sets (united (others xs name) (united (records_at xs name) come)) (united xs come) (sorted_united (others xs name) (united (records_at xs name) come) (sorted_filter (λ r. not (at r)) xs s)) (sorted_united xs come s)
    (λ q. found_united q (others xs name) (united (records_at xs name) come)
    ∙ ap (λ o. or_else o (found q (others xs name))) (found_united q (records_at xs name) come)
    ∙ (λ i. or_else (or_else (found q come) (found_filter q at xs s i)) (found_filter q (λ r. not (at r)) xs s i))
    ∙ each (found q come) (found q xs)
    ∙ sym (found_united q xs come))
  where
    s : Sorted xs
    s = sorted_from xs h

    at : Record → Bool
    at r = names_eq r.owner name

    one : (a : Record) (b : Bool) → or_else (cond b (Some a) None) (cond (not b) (Some a) None) ≡ Some a
    one a true = refl
    one a false = refl

    each : (c o : Option Record) → or_else (or_else c (only at o)) (only (λ r. not (at r)) o) ≡ or_else c o
    each (Some a) o = refl
    each None None = refl
    each None (Some a) = one a (at a)

put_pass : (q : Record → Bool) (r : Record) (xs : List Record) → q r ≡ true → list_all q xs ≡ true → list_all q (put r xs) ≡ true
put_pass q r [] e h = ap (λ b. b && true) e
put_pass q r (x ∷ xs) e h =
    let both = both_true (q x) (list_all q xs) h in
    elim (record_cmp r x) as (λ o. list_all q (by_order o (r ∷ x ∷ xs) (r ∷ xs) (x ∷ put r xs)) ≡ true) [
      | Less ↦ ap (λ b. b && list_all q (x ∷ xs)) e ∙ h
      | Equal ↦ ap (λ b. b && list_all q xs) e ∙ both.1
      | Greater ↦ ap (λ b. b && list_all q (put r xs)) both.0 ∙ put_pass q r xs e both.1
    ]

united_pass : (q : Record → Bool) (xs come : List Record) → list_all q xs ≡ true → list_all q come ≡ true → list_all q (united xs come) ≡ true
united_pass q xs [] h k = h
united_pass q xs (r ∷ rest) h k =
    let both = both_true (q r) (list_all q rest) k in
    put_pass q r (united xs rest) both.0 (united_pass q xs rest h both.1)

pub come_owned : (name : Labels) (xs come : List Record) → are_of name come ≡ true → are_of name (united (records_at xs name) come) ≡ true
come_owned name xs come a = united_pass (λ r. names_eq r.owner name) (records_at xs name) come (at_pass name xs) a

pub come_ordered : (xs come : List Record) → is_ordered xs ≡ true → is_ordered (united xs come) ≡ true
come_ordered xs come h = ordered_from (united xs come) (sorted_united xs come (sorted_from xs h))

-- ---- one list in order put among another
greater_is : (r s : Record) → record_cmp r s ≡ Less → record_cmp s r ≡ Greater
greater_is r s e = record_total.antisymm s r ∙ ap ordering_reverse e

below_at : (x r : Record) (a b : List Record) → Below x (a ++ (r ∷ b)) → record_cmp x r ≡ Less
below_at x r [] b h = h.0
below_at x r (y ∷ a) b h = below_at x r a b h.1

above_all : (r s : Record) (a b : List Record) → Sorted (a ++ (r ∷ b)) → record_cmp r s ≡ Less → AllOf (λ x. record_cmp s x ≡ Greater) (a ++ r ∷ [])
above_all r s [] b h e = (greater_is r s e, tt)
above_all r s (x ∷ a) b h e = (greater_is x s (record_total.trans x r s (below_at x r a b h.0) e), above_all r s a b h.1 e)

united_behind : (r : Record) (a b more : List Record) → Sorted (a ++ (r ∷ b)) → Below r more → united ((a ++ r ∷ []) ++ b) more ≡ (a ++ r ∷ []) ++ united b more
united_behind r a b [] h k = refl
united_behind r a b (s ∷ more) h k = ap (put s) (united_behind r a b more h k.1) ∙ put_behind s (a ++ r ∷ []) (united b more) (above_all r s a b h k.0)

pub merge_step : (rest : List Record) (r : Record) (more a b : List Record) → Sorted rest → Sorted (r ∷ more) → put r rest ≡ a ++ (r ∷ b) → Sorted (put r rest) → united rest (r ∷ more) ≡ (a ++ r ∷ []) ++ united b more
merge_step rest r more a b h k e p =
    let s : Sorted (a ++ (r ∷ b)) = subst Sorted e p in
    united_with rest r more h (none_alike r more k.0)
    ∙ ap (λ ys. united ys more) (e ∙ sym (append_assoc a (r ∷ []) b))
    ∙ united_behind r a b more s k.0

pub merged_next : (rest : List Record) (r : Record) (more a b all next : List Record) → is_ordered rest ≡ true → Sorted (r ∷ more) → put r rest ≡ a ++ (r ∷ b) → next ≡ (all ++ a) ++ r ∷ [] → next ++ united b more ≡ all ++ united rest (r ∷ more)
merged_next rest r more a b all next h k e f =
    ap (λ z. z ++ united b more) (f ∙ append_assoc all a (r ∷ []))
    ∙ append_assoc all (a ++ r ∷ []) (united b more)
    ∙ ap (λ z. all ++ z) (sym (merge_step rest r more a b (sorted_from rest h) k e (sorted_from (put r rest) (put_ordered r rest h))))

pub behind_ordered : (rest : List Record) (r : Record) (a b : List Record) → is_ordered rest ≡ true → put r rest ≡ a ++ (r ∷ b) → is_ordered b ≡ true
behind_ordered rest r a b h e = ordered_from b (sorted_from (r ∷ b) (ordered_parts (put r rest) a (r ∷ b) e (put_ordered r rest h)).1).1

pub set_parts : (xs : List Record) (at : ℕ) (r : Record) → at < length xs → slice_set xs at r ≡ take at xs ++ (r ∷ drop (at + 1) xs)
set_parts [] at r lt = absurd (omega arith)
set_parts (x ∷ xs) zero r lt = refl
set_parts (x ∷ xs) (suc at) r lt =
    let next : suc at + 1 ≡ suc (at + 1) = omega arith in
    ap (λ ys. x ∷ ys) (set_parts xs at r (omega arith)) ∙ ap (λ n. x ∷ (take at xs ++ (r ∷ drop n (x ∷ xs)))) (sym next)

pub sorted_rest : (xs : List Record) (i : ℕ) → is_ordered xs ≡ true → Sorted (drop i xs)
sorted_rest xs i h = (sorted_parts (take i xs) (drop i xs) (subst Sorted (sym (take-append-drop i xs)) (sorted_from xs h))).1

pub none_left : (xs : List Record) → length xs ≡ 0 → xs ≡ []
none_left [] e = refl
none_left (x ∷ xs) e = absurd (omega (arith, e))
