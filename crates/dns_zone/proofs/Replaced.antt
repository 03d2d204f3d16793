-- The records of one name replaced all at once.
use Rattle.std.proofs.Common.{◌≡◌, ℕ, ◌-◌, ◌<◌, ◌≤◌, get_or, Bool, true, false, cond, inl, inr, List, [], ◌∷◌, ◌++◌, length, take, drop, Option, Some, None, refl, sym, ap, ◌∙◌, subst, arith, length-drop}
use Rattle.std.specs.Prelude.{◌&&◌, ◌==◌, filter, not}
use Rattle.std.specs.List.{AllWithin, AllByRecursion, list_all, splice}
use Rattle.std.proofs.lemmas.List.{take_all}
use Rattle.std.specs.Ordering.{is_lt, is_gt, is_eq, ordering_reverse}
use Rattle.std.specs.declared.cmp.Ordering.{Ordering}
use Rattle.std.specs.declared.cmp.Ordering.TheVariants.{Less, Equal, Greater}
use Rattle.dns_names.specs.Name.{Labels, names_eq, name_cmp}
use Rattle.dns_records.specs.Record.{Record, record_cmp, IsRecord}
use Rattle.dns_zone.specs.Records.{is_ordered, put, records_at, rrset, others, are_of, united}
use Rattle.dns_zone.specs.Order.{name_total, both_true, names_same}
use Rattle.dns_zone.specs.Sets.{Sorted, Below, sorted_from, sorted_filter, sorted_united, same_sets, found, found_filter, found_united, only, or_else}
use Rattle.dns_zone.proofs.Listed.{ordered_from, put_valid}
use Rattle.dns_zone.proofs.Parted.{AllOf, fore, past, none_eq, tied_eq, none_fore, behind_all, before_all, put_behind, put_first, put_before}
use Rattle.dns_zone.proofs.Searching.{filter_range, told_nat}

-- whose records they are
abbrev pub AllAt : Labels → List Record → Type 0
AllAt name [] = Unit {0}
AllAt name (r ∷ rs) = (r.owner ≡ name) × AllAt name rs

pub all_from : (name : Labels) (rs : List Record) → are_of name rs ≡ true → AllAt name rs
all_from name [] h = tt
all_from name (r ∷ rs) h =
    let both = both_true (names_eq r.owner name) (are_of name rs) h in
    (names_same r.owner name both.0, all_from name rs both.1)

-- what a test keeps passes a weaker one
pub kept_pass : (q p : Record → Bool) → ((r : Record) → p r ≡ true → q r ≡ true) → (xs : List Record) → list_all q (filter p xs) ≡ true
kept_pass q p f [] = refl
kept_pass q p f (x ∷ xs) = step (p x) refl (kept_pass q p f xs)
  where
    step : (b : Bool) → p x ≡ b → list_all q (filter p xs) ≡ true → list_all q (cond b (x ∷ filter p xs) (filter p xs)) ≡ true
    step true e n = ap (λ b. b && list_all q (filter p xs)) (f x e) ∙ n
    step false e n = n

pub still_pass : (q p : Record → Bool) (xs : List Record) → list_all q xs ≡ true → list_all q (filter p xs) ≡ true
still_pass q p [] h = refl
still_pass q p (x ∷ xs) h =
    let both = both_true (q x) (list_all q xs) h in
    step (p x) both.0 (still_pass q p xs both.1)
  where
    step : (b : Bool) → q x ≡ true → list_all q (filter p xs) ≡ true → list_all q (cond b (x ∷ filter p xs) (filter p xs)) ≡ true
    step true e n = ap (λ b. b && list_all q (filter p xs)) e ∙ n
    step false e n = n

pub at_pass : (name : Labels) (xs : List Record) → are_of name (records_at xs name) ≡ true
at_pass name xs = kept_pass (λ r. names_eq r.owner name) (λ r. names_eq r.owner name) (λ r e. e) xs

pub rrset_pass : (name : Labels) (t : ℕ) (xs : List Record) → are_of name (rrset xs name t) ≡ true
rrset_pass name t xs = kept_pass (λ r. names_eq r.owner name) (λ r. names_eq r.owner name && r.rtype == t) (λ r e. (both_true (names_eq r.owner name) (r.rtype == t) e).0) xs

-- parts of a set are in order
pub at_ordered : (xs : List Record) (name : Labels) → is_ordered xs ≡ true → is_ordered (records_at xs name) ≡ true
at_ordered xs name h = ordered_from (records_at xs name) (sorted_filter (λ r. names_eq r.owner name) xs (sorted_from xs h))

pub rrset_ordered : (xs : List Record) (name : Labels) (t : ℕ) → is_ordered xs ≡ true → is_ordered (rrset xs name t) ≡ true
rrset_ordered xs name t h = ordered_from (rrset xs name t) (sorted_filter (λ r. names_eq r.owner name && r.rtype == t) xs (sorted_from xs h))

-- those of other names are those before the name and those after it
others_parted : (name : Labels) (xs : List Record) → Sorted xs → others xs name ≡ filter (fore name) xs ++ filter (past name) xs
others_parted name [] h = refl
others_parted name (x ∷ xs) h = step (name_cmp name x.owner) refl (others_parted name xs h.1)
  where
    pieces : Bool → Bool → Bool → List Record × List Record
    pieces e f g = (cond (not e) (x ∷ others xs name) (others xs name), cond f (x ∷ filter (fore name) xs) (filter (fore name) xs) ++ cond g (x ∷ filter (past name) xs) (filter (past name) xs))

    step : (o : Ordering) → name_cmp name x.owner ≡ o → others xs name ≡ filter (fore name) xs ++ filter (past name) xs
        → cond (not (names_eq x.owner name)) (x ∷ others xs name) (others xs name)
        ≡ cond (is_gt (name_cmp name x.owner)) (x ∷ filter (fore name) xs) (filter (fore name) xs) ++ cond (is_lt (name_cmp name x.owner)) (x ∷ filter (past name) xs) (filter (past name) xs)
    step Greater e n =
        ap (λ b. cond (not b) (x ∷ others xs name) (others xs name)) (none_eq name x.owner Greater e (λ f. absurd cc))
        ∙ ap (λ z. x ∷ z) n
        ∙ (λ i. cond (is_gt (sym e i)) (x ∷ filter (fore name) xs) (filter (fore name) xs) ++ cond (is_lt (sym e i)) (x ∷ filter (past name) xs) (filter (past name) xs))
    step Equal e n =
        ap (λ b. cond (not b) (x ∷ others xs name) (others xs name)) (tied_eq name x.owner e)
        ∙ n
        ∙ (λ i. cond (is_gt (sym e i)) (x ∷ filter (fore name) xs) (filter (fore name) xs) ++ cond (is_lt (sym e i)) (x ∷ filter (past name) xs) (filter (past name) xs))
    step Less e n =
        let none : filter (fore name) xs ≡ [] = none_fore name x xs (ap is_gt e) h.0 in
        ap (λ b. cond (not b) (x ∷ others xs name) (others xs name)) (none_eq name x.owner Less e (λ f. absurd cc))
        ∙ ap (λ z. x ∷ z) (n ∙ ap (λ z. z ++ filter (past name) xs) none)
        ∙ ap (λ z. z ++ (x ∷ filter (past name) xs)) (sym none)
        ∙ (λ i. cond (is_gt (sym e i)) (x ∷ filter (fore name) xs) (filter (fore name) xs) ++ cond (is_lt (sym e i)) (x ∷ filter (past name) xs) (filter (past name) xs))

less_all : (r : Record) (xs : List Record) → Below r xs → AllOf (λ x. record_cmp r x ≡ Less) xs
less_all r [] h = tt
less_all r (x ∷ xs) h = (h.0, less_all r xs h.1)

-- records of the name are between the two
pub united_parted : (name : Labels) (xs come : List Record) → Sorted xs → Sorted come → AllAt name come → united (others xs name) come ≡ filter (fore name) xs ++ (come ++ filter (past name) xs)
united_parted name xs [] h k all = others_parted name xs h
united_parted name xs (r ∷ rest) h k all =
    let f = filter (fore name) xs in
    let p = filter (past name) xs in
    let behind = subst (λ (n : Labels). AllOf (λ x. record_cmp r x ≡ Greater) (filter (fore n) xs)) all.0 (behind_all r xs) in
    let before = subst (λ (n : Labels). AllOf (λ x. record_cmp r x ≡ Less) (filter (past n) xs)) all.0 (before_all r xs) in
    ap (put r) (united_parted name xs rest h k.1 all.1)
    ∙ put_behind r f (rest ++ p) behind
    ∙ ap (λ z. f ++ z) (put_before r rest p before)
    ∙ ap (λ z. f ++ (z ++ p)) (put_first r rest (less_all r rest k.0))

-- ---- what a test keeps, where it keeps all of other names
pub replaced_kept : (name : Labels) (p : Record → Bool) → ((r : Record) → names_eq r.owner name ≡ false → p r ≡ true) → (xs : List Record) → Sorted xs → united (others xs name) (filter p (records_at xs name)) ≡ filter p xs
replaced_kept name p f xs h =
    let own = sorted_filter at xs h in
    let rest = sorted_filter (λ r. not (at r)) xs h in
    same_sets (united (others xs name) (filter p (records_at xs name))) (filter p xs) (sorted_united (others xs name) (filter p (records_at xs name)) rest) (sorted_filter p xs h)
    (λ q. found_united q (others xs name) (filter p (records_at xs name))
    ∙ (λ i. or_else (found_filter q p (records_at xs name) own i) (found_filter q (λ r. not (at r)) xs h i))
    ∙ ap (λ o. or_else (only p o) (only (λ r. not (at r)) (found q xs))) (found_filter q at xs h)
    ∙ each (found q xs)
    ∙ sym (found_filter q p xs h))
  where
    at : Record → Bool
    at r = names_eq r.owner name

    one : (a : Record) (b : Bool) → names_eq a.owner name ≡ b → or_else (only p (cond b (Some a) None)) (cond (not b) (Some a) None) ≡ cond (p a) (Some a) None
    one a true e = last (p a)
      where
        last : (c : Bool) → or_else (cond c (Some a) None) None ≡ cond c (Some a) None
        last true = refl
        last false = refl
    one a false e = ap (λ c. cond c (Some a) None) (sym (f a e))

    each : (o : Option Record) → or_else (only p (only at o)) (only (λ r. not (at r)) o) ≡ only p o
    each None = refl
    each (Some a) = one a (names_eq a.owner name) refl

-- ---- the set that comes of it
pub replaced_ordered : (name : Labels) (xs come : List Record) → is_ordered xs ≡ true → is_ordered (united (others xs name) come) ≡ true
replaced_ordered name xs come h = ordered_from (united (others xs name) come) (sorted_united (others xs name) come (sorted_filter (λ r. not (names_eq r.owner name)) xs (sorted_from xs h)))

pub kept_valid : (p : Record → Bool) (xs : List Record) → AllByRecursion IsRecord xs → AllByRecursion IsRecord (filter p xs)
kept_valid p [] h = tt
kept_valid p (x ∷ xs) h = elim (p x) as (λ b. AllByRecursion IsRecord (cond b (x ∷ filter p xs) (filter p xs))) [ true ↦ (h.0, kept_valid p xs h.1) | false ↦ kept_valid p xs h.1 ]

united_valid : (xs come : List Record) → AllByRecursion IsRecord xs → AllByRecursion IsRecord come → AllByRecursion IsRecord (united xs come)
united_valid xs [] h k = h
united_valid xs (r ∷ rest) h k = put_valid r (united xs rest) k.0 (united_valid xs rest h k.1)

pub replaced_valid : (name : Labels) (xs come : List Record) → AllByRecursion IsRecord xs → AllByRecursion IsRecord come → AllByRecursion IsRecord (united (others xs name) come)
replaced_valid name xs come h k = united_valid (others xs name) come (kept_valid (λ r. not (names_eq r.owner name)) xs h) k

-- ---- by positions
turned_gt : (o p : Ordering) → p ≡ ordering_reverse o → is_gt p ≡ is_lt o
turned_gt Less p e = ap is_gt e
turned_gt Equal p e = ap is_gt e
turned_gt Greater p e = ap is_gt e

not_past : (o p : Ordering) → p ≡ ordering_reverse o → is_lt o ≡ true → is_lt p ≡ false
not_past Less p e f = ap is_lt e
not_past Equal p e f = absurd cc
not_past Greater p e f = absurd cc

not_past_here : (o p : Ordering) → p ≡ ordering_reverse o → is_eq o ≡ true → is_lt p ≡ false
not_past_here Less p e f = absurd cc
not_past_here Equal p e f = ap is_lt e
not_past_here Greater p e f = absurd cc

is_past : (o p : Ordering) → p ≡ ordering_reverse o → is_lt o ≡ false → is_eq o ≡ false → is_lt p ≡ true
is_past Less p e f g = absurd cc
is_past Equal p e f g = absurd cc
is_past Greater p e f g = ap is_lt e

-- where the records of the name are
pub record StandBetween (name : Labels) (xs ys : List Record) (low high : ℕ) : Type 0 where
  pub met : low ≤ high
  pub inside : high ≤ length ys
  pub before : AllWithin (λ r. is_lt (name_cmp r.owner name) ≡ true) xs 0 low
  pub behind : AllWithin (λ r. is_lt (name_cmp r.owner name) ≡ false) xs low (length xs)
  pub here : AllWithin (λ r. is_eq (name_cmp r.owner name) ≡ true) ys low high
  pub after : AllWithin (λ r. is_eq (name_cmp r.owner name) ≡ false) ys high (length ys)

pub stand_there : (asked name : Labels) (first second xs : List Record) (low high : ℕ) → asked ≡ name → first ≡ xs → second ≡ xs → StandBetween asked first second low high → StandBetween name xs xs low high
stand_there asked name first second xs low high e f g h = subst (λ (n : Labels). StandBetween n xs xs low high) e (subst (λ (ys : List Record). StandBetween asked xs ys low high) g (subst (λ (ys : List Record). StandBetween asked ys second low high) f h))

-- records of the name put in place of those
pub between_is : (name : Labels) (xs come : List Record) (low high : ℕ) → Sorted xs → Sorted come → AllAt name come → StandBetween name xs xs low high → splice xs low high come ≡ united (others xs name) come
between_is name xs come low high h k all p =
    (λ i. front i ++ (come ++ back i)) ∙ sym (united_parted name xs come h k all)
  where
    back_way : (r : Record) → name_cmp name r.owner ≡ ordering_reverse (name_cmp r.owner name)
    back_way r = name_total.antisymm name r.owner

    turned : (r : Record) → is_gt (name_cmp name r.owner) ≡ is_lt (name_cmp r.owner name)
    turned r = turned_gt (name_cmp r.owner name) (name_cmp name r.owner) (back_way r)

    front : take low xs ≡ filter (fore name) xs
    front =
        let met = p.met in
        let inside = p.inside in
        let width : low - 0 ≡ low = omega arith in
        ap (λ (n : ℕ). take n xs) (sym width)
        ∙ filter_range (fore name) xs 0 low (omega arith) (omega (arith, met, inside)) (λ j d from to. absurd (omega (arith, to)))
        (λ j d from to. turned (get_or xs j d) ∙ p.before j d from to)
        (λ j d from to. turned (get_or xs j d) ∙ p.behind j d from to)

    ahead_of : (j : ℕ) (d : Record) → j < high → is_lt (name_cmp name (get_or xs j d).owner) ≡ false
    ahead_of j d to =
        let r = get_or xs j d in
        elim (told_nat j low) [
          | inl less ↦ not_past (name_cmp r.owner name) (name_cmp name r.owner) (back_way r) (p.before j d (omega arith) less)
          | inr more ↦ not_past_here (name_cmp r.owner name) (name_cmp name r.owner) (back_way r) (p.here j d more to)
        ]

    back : drop high xs ≡ filter (past name) xs
    back =
        let size = length-drop high xs in
        let met = p.met in
        sym (take_all (length xs - high) (drop high xs) (omega (arith, size)))
        ∙ filter_range (past name) xs high (length xs) p.inside (omega arith) (λ j d from to. ahead_of j d to)
        (λ j d from to. is_past (name_cmp (get_or xs j d).owner name) (name_cmp name (get_or xs j d).owner) (back_way (get_or xs j d)) (p.behind j d (omega (arith, from, met)) to) (p.after j d from to))
        (λ j d from to. absurd (omega (arith, from, to)))
