-- A record after all others in order.
use Rattle.std.proofs.Common.{◌≡◌, ℕ, zero, suc, ◌+◌, Bool, true, false, ◌&&◌, List, [], ◌∷◌, ◌++◌, length, drop, refl, sym, ap, subst, ◌∙◌, arith, append-nil, append_assoc}
use Rattle.std.specs.Prelude.{◌==◌, Result, Ok}
use Rattle.std.specs.List.{flat_map}
use Rattle.std.proofs.lemmas.Bool.Decides.{nat_tests}
use Rattle.std.proofs.lemmas.List.Concat.{flat_map-append}
use Rattle.std.specs.Ordering.{is_lt, ordering_reverse}
use Rattle.std.specs.declared.cmp.Ordering.{Ordering}
use Rattle.std.specs.declared.cmp.Ordering.TheVariants.{Less, Greater}
use Rattle.dns_records.specs.Record.{Record, record_cmp}
use Rattle.dns_zone.specs.Records.{has, is_ordered, put}
use Rattle.dns_zone.specs.Order.{record_total, both_true}
use Rattle.dns_zone.specs.Sets.{Below, Sorted, sorted_from}
use Rattle.dns_secondary.specs.State.{State, Whole}
use Rattle.dns_secondary.specs.Step.{collect}
use Rattle.dns_secondary.specs.declared.fault.Fault.{Fault}

and_true : (a b : Bool) → a ≡ true → b ≡ true → (a && b) ≡ true
and_true true b p q = q
and_true false b p q = absurd cc

pub ordered_after : (xs : List Record) (s r : Record)
    → is_ordered (xs ++ s ∷ []) ≡ true
    → is_lt (record_cmp s r) ≡ true
    → is_ordered ((xs ++ s ∷ []) ++ r ∷ []) ≡ true
ordered_after [] s r h e = and_true (is_lt (record_cmp s r)) true e refl
ordered_after (x ∷ []) s r h e =
    let both = both_true (is_lt (record_cmp x s)) (is_ordered (s ∷ [])) h in
    and_true (is_lt (record_cmp x s)) (is_ordered ((s ∷ []) ++ r ∷ [])) both.0 (ordered_after [] s r both.1 e)
ordered_after (x ∷ y ∷ ys) s r h e =
    let both = both_true (is_lt (record_cmp x y)) (is_ordered ((y ∷ ys) ++ s ∷ [])) h in
    and_true (is_lt (record_cmp x y)) (is_ordered (((y ∷ ys) ++ s ∷ []) ++ r ∷ [])) both.0
    (ordered_after (y ∷ ys) s r both.1 e)

below_last : (x : Record) (ys : List Record) (r : Record) → Below x (ys ++ r ∷ []) → record_cmp x r ≡ Less
below_last x [] r h = h.0
below_last x (y ∷ ys) r h = below_last x ys r h.1

greater : (x : Record) (ys : List Record) (r : Record) → Below x (ys ++ r ∷ []) → record_cmp r x ≡ Greater
greater x ys r h = record_total.antisymm r x ∙ ap ordering_reverse (below_last x ys r h)

has_sorted : (xs : List Record) (r : Record) → Sorted (xs ++ r ∷ []) → has r xs ≡ false
has_sorted [] r h = refl
has_sorted (x ∷ xs) r h = let above = greater x xs r h.0 in rw above (has_sorted xs r h.1)

put_sorted : (xs : List Record) (r : Record) → Sorted (xs ++ r ∷ []) → put r xs ≡ xs ++ r ∷ []
put_sorted [] r h = refl
put_sorted (x ∷ xs) r h =
    let above = greater x xs r h.0 in rw above (ap (λ (ys : List Record). x ∷ ys) (put_sorted xs r h.1))

-- it is none of them, and put among them it is the last
pub none_after : (xs : List Record) (r : Record) → is_ordered (xs ++ r ∷ []) ≡ true → has r xs ≡ false
none_after xs r h = has_sorted xs r (sorted_from (xs ++ r ∷ []) h)

pub put_after : (xs : List Record) (r : Record) → is_ordered (xs ++ r ∷ []) ≡ true → put r xs ≡ xs ++ r ∷ []
put_after xs r h = put_sorted xs r (sorted_from (xs ++ r ∷ []) h)

abbrev whole : Record → List Record → Result State Fault
whole soa set = Ok (Whole soa set)

-- a record of a whole zone
pub gathered : (soa : Record) (set new : List Record) (r : Record)
    → is_ordered (set ++ r ∷ []) ≡ true
    → new ≡ set ++ r ∷ []
    → collect soa set r ≡ Ok (Whole soa new)
gathered soa set new r h e = rw (none_after set r h) (ap (whole soa) (put_after set r h ∙ sym e))

pub ends : (xs : List Record) (s r : Record) (o : Ordering) (b : Bool)
    → ((front : List Record) × (xs ≡ front ++ s ∷ []))
    → is_ordered xs ≡ true
    → o ≡ record_cmp s r
    → b ≡ is_lt o
    → b ≡ true
    → is_ordered (xs ++ r ∷ []) ≡ true
ends xs s r o b f h c l t =
    let less : is_lt (record_cmp s r) ≡ true = sym (l ∙ ap is_lt c) ∙ t in
    subst (λ (ys : List Record). is_ordered (ys ++ r ∷ []) ≡ true) (sym f.1)
    (ordered_after f.0 s r (subst (λ (ys : List Record). is_ordered ys ≡ true) f.1 h) less)

-- the last of a list
pub last_is : {X : Type 0} (xs : List X) (k : ℕ) (x : X) (rest : List X)
    → length xs ≡ k + 1
    → drop k xs ≡ x ∷ rest
    → (front : List X) × (xs ≡ front ++ x ∷ [])
last_is [] k x rest n e = absurd (omega arith)
last_is (y ∷ []) zero x rest n e = ([], cc)
last_is (y ∷ z ∷ ys) zero x rest n e = absurd (omega arith)
last_is (y ∷ ys) (suc k) x rest n e =
    let more = last_is ys k x rest (omega arith) e in (y ∷ more.0, ap (λ zs. y ∷ zs) more.1)

pub no_items : {X : Type 0} (n : ℕ) (xs : List X) → n ≡ length xs → (n == 0) ≡ true → xs ≡ []
no_items n [] e h = refl
no_items n (x ∷ xs) e h = absurd (grind (arith, nat_tests))

pub last_newest : (before newest front : List Record) (r : Record)
    → newest ≡ front ++ r ∷ []
    → before ++ newest ≡ (before ++ front) ++ r ∷ []
last_newest before newest front r e =
    ap (λ (xs : List Record). before ++ xs) e ∙ sym (append_assoc before front (r ∷ []))

abbrev pub all_of : List (List Record) → List Record
all_of runs = flat_map (λ run. run) runs

-- the last record of the last list
pub last_shared : (runs rest : List (List Record)) (run newest front : List Record) (r : Record)
    → runs ≡ rest ++ run ∷ []
    → run ≡ front ++ r ∷ []
    → newest ≡ []
    → all_of runs ++ newest ≡ (all_of rest ++ front) ++ r ∷ []
last_shared runs rest run newest front r a b n =
    ap (λ (xs : List Record). all_of runs ++ xs) n
    ∙ append-nil (all_of runs)
    ∙ ap all_of a
    ∙ flat_map-append (λ (xs : List Record). xs) rest (run ∷ [])
    ∙ ap (λ (xs : List Record). all_of rest ++ xs) (append-nil run)
    ∙ last_newest (all_of rest) run front r b
