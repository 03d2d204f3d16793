-- What is left of a name's records where some of their types go: their types rise, so that those of a range are together.
use Rattle.std.proofs.Common.{◌≡◌, ℕ, zero, suc, ◌<◌, ◌≤◌, Bool, true, false, not, ◌&&◌, ◌||◌, ◌⊎◌, inl, inr, List, [], ◌∷◌, ◌++◌, length, get_or, take, drop, refl, sym, ap, subst, ◌∙◌, arith, cond}
use Rattle.std.specs.Prelude.{filter, nat_lt, ◌==◌}
use Rattle.std.specs.List.{AllWithin, list_all}
use Rattle.std.specs.List.Sorted.{IsPartitionedBy}
use Rattle.std.proofs.lemmas.Bool.Decides.{nat_tests}
use Rattle.dns_names.specs.Name.{Labels, names_eq}
use Rattle.dns_records.specs.Types.{type_ns, type_soa, type_any}
use Rattle.dns_records.specs.Record.{Record}
use Rattle.dns_zone.specs.Order.{both_true, names_same}
use Rattle.dns_zone.specs.Records.{are_of, is_ordered}
use Rattle.dns_zone.specs.Sets.{sorted_from, sorted_filter}
use Rattle.dns_zone.proofs.Listed.{ordered_from}
use Rattle.dns_zone.proofs.Replaced.{still_pass}
use Rattle.dns_zone.proofs.Typed.{Rises, owned_rise}
use Rattle.dns_zone.proofs.Typed.{kept_twice}
use Rattle.dns_update.specs.Effect.{deleted_set, is_of, is_vital}
use Rattle.dns_update.specs.Ranges.{is_outside}

-- what all pass a test keeps
pub all_kept : (p : Record → Bool) (xs : List Record) → list_all p xs ≡ true → filter p xs ≡ xs
all_kept p [] h = refl
all_kept p (x ∷ xs) h =
    let both = both_true (p x) (list_all p xs) h in
    ap (λ b. cond b (x ∷ filter p xs) (filter p xs)) both.0 ∙ ap (λ (ys : List Record). x ∷ ys) (all_kept p xs both.1)

-- the types of a name's records rise
pub rises_from : (name : Labels) (xs : List Record) → is_ordered xs ≡ true → are_of name xs ≡ true → Rises xs
rises_from name xs h own = subst Rises (all_kept (λ r. names_eq r.owner name) xs own) (owned_rise xs name h)

pub up_to_first : (t : ℕ) (xs : List Record) → Rises xs → IsPartitionedBy (λ r. not (nat_lt t r.rtype)) xs
up_to_first t xs rises = λ i j d met inside h.
    let met_types : (get_or xs i d).rtype ≤ (get_or xs j d).rtype = rises i j d met inside in
    let most : (get_or xs j d).rtype ≤ t = at_most (get_or xs j d).rtype h in
    is_most (get_or xs i d).rtype (omega arith)
  where
    at_most : (m : ℕ) → not (nat_lt t m) ≡ true → m ≤ t
    at_most m h = grind (arith, nat_tests)

    is_most : (m : ℕ) → m ≤ t → not (nat_lt t m) ≡ true
    is_most m h = grind (arith, nat_tests)

-- those up to one type are at least those below a lesser one
pub ends_later : (first last : ℕ) (xs : List Record) (begin end : ℕ) → first ≤ last → begin ≤ length xs → AllWithin (λ r. nat_lt r.rtype first ≡ true) xs 0 begin → AllWithin (λ r. not (nat_lt last r.rtype) ≡ false) xs end (length xs) → begin ≤ end
ends_later first last [] begin end met inside low high = omega arith
ends_later first last (x ∷ xs) begin end met inside low high = elim (nat_dec_lt end begin) [
  | inl lt ↦ absurd (apart (get_or (x ∷ xs) end x).rtype (low end x (omega arith) lt) (high end x (omega arith) (omega arith)))
  | inr ge ↦ ge
]
  where
    nat_dec_lt : (m n : ℕ) → (m < n) ⊎ (n ≤ m)
    nat_dec_lt m zero = inr (omega arith)
    nat_dec_lt zero (suc n) = inl (omega arith)
    nat_dec_lt (suc m) (suc n) = elim (nat_dec_lt m n) [ inl lt ↦ inl (omega arith) | inr ge ↦ inr (omega arith) ]

    apart : (m : ℕ) → nat_lt m first ≡ true → not (nat_lt last m) ≡ false → ⊥
    apart m e f = grind (arith, nat_tests)

-- what a test keeps where it passes up to one position and from another on, and nowhere between
pub range_goes : (p : Record → Bool) (xs : List Record) (low high : ℕ) → low ≤ high → high ≤ length xs
    → AllWithin (λ r. p r ≡ true) xs 0 low → AllWithin (λ r. p r ≡ false) xs low high → AllWithin (λ r. p r ≡ true) xs high (length xs)
    → take low xs ++ drop high xs ≡ filter p xs
range_goes p [] zero zero met inside f g h = refl
range_goes p [] zero (suc high) met inside f g h = absurd (omega arith)
range_goes p [] (suc low) high met inside f g h = absurd (omega arith)
range_goes p (x ∷ xs) (suc low) zero met inside f g h = absurd (omega arith)
range_goes p (x ∷ xs) (suc low) (suc high) met inside f g h =
    let first : p x ≡ true = f 0 x (omega arith) (omega arith) in
    let rest = range_goes p xs low high (omega arith) (omega arith) (λ k d from to. f (suc k) d (omega arith) (omega arith)) (λ k d from to. g (suc k) d (omega arith) (omega arith)) (λ k d from to. h (suc k) d (omega arith) (omega arith)) in
    ap (λ (ys : List Record). x ∷ ys) rest ∙ ap (λ (b : Bool). cond b (x ∷ filter p xs) (filter p xs)) (sym first)
range_goes p (x ∷ xs) zero zero met inside f g h =
    let first : p x ≡ true = h 0 x (omega arith) (omega arith) in
    let rest = range_goes p xs 0 0 (omega arith) (omega arith) (λ k d from to. absurd (omega arith)) (λ k d from to. absurd (omega arith)) (λ k d from to. h (suc k) d (omega arith) (omega arith)) in
    ap (λ (ys : List Record). x ∷ ys) rest ∙ ap (λ (b : Bool). cond b (x ∷ filter p xs) (filter p xs)) (sym first)
range_goes p (x ∷ xs) zero (suc high) met inside f g h =
    let first : p x ≡ false = g 0 x (omega arith) (omega arith) in
    let rest = range_goes p xs 0 high (omega arith) (omega arith) (λ k d from to. absurd (omega arith)) (λ k d from to. g (suc k) d (omega arith) (omega arith)) (λ k d from to. h (suc k) d (omega arith) (omega arith)) in
    rest ∙ ap (λ (b : Bool). cond b (x ∷ filter p xs) (filter p xs)) (sym first)

pub outside_kept : (first last : ℕ) (xs : List Record) (begin end : ℕ) → first ≤ last → Rises xs → begin ≤ end → end ≤ length xs → AllWithin (λ r. nat_lt r.rtype first ≡ true) xs 0 begin → AllWithin (λ r. nat_lt r.rtype first ≡ false) xs begin (length xs) → AllWithin (λ r. not (nat_lt last r.rtype) ≡ true) xs 0 end → AllWithin (λ r. not (nat_lt last r.rtype) ≡ false) xs end (length xs)
    → take begin xs ++ drop end xs ≡ filter (is_outside first last) xs
outside_kept first last xs begin end met rises order inside low past most behind =
    range_goes (is_outside first last) xs begin end order inside
    (λ k d from to. first_is (get_or xs k d).rtype (low k d from to))
    (λ k d from to. inside_is (get_or xs k d).rtype (past k d from (omega arith)) (most k d (omega arith) to))
    (λ k d from to. last_is (get_or xs k d).rtype (behind k d from to))
  where
    first_is : (m : ℕ) → nat_lt m first ≡ true → (nat_lt m first || nat_lt last m) ≡ true
    first_is m e = grind (arith, nat_tests)

    inside_is : (m : ℕ) → nat_lt m first ≡ false → not (nat_lt last m) ≡ true → (nat_lt m first || nat_lt last m) ≡ false
    inside_is m e f = grind (arith, nat_tests)

    last_is : (m : ℕ) → not (nat_lt last m) ≡ false → (nat_lt m first || nat_lt last m) ≡ true
    last_is m e = grind (arith, nat_tests)

pub first_kept : (p : Record → Bool) (xs : List Record) (end : ℕ) → end ≤ length xs → AllWithin (λ r. p r ≡ true) xs 0 end → AllWithin (λ r. p r ≡ false) xs end (length xs) → take end xs ≡ filter p xs
first_kept p [] zero inside f g = refl
first_kept p [] (suc end) inside f g = absurd (omega arith)
first_kept p (x ∷ xs) zero inside f g =
    let first : p x ≡ false = g 0 x (omega arith) (omega arith) in
    let rest = first_kept p xs 0 (omega arith) (λ k d from to. absurd (omega arith)) (λ k d from to. g (suc k) d (omega arith) (omega arith)) in
    rest ∙ ap (λ (b : Bool). cond b (x ∷ filter p xs) (filter p xs)) (sym first)
first_kept p (x ∷ xs) (suc end) inside f g =
    let first : p x ≡ true = f 0 x (omega arith) (omega arith) in
    let rest = first_kept p xs end (omega arith) (λ k d from to. f (suc k) d (omega arith) (omega arith)) (λ k d from to. g (suc k) d (omega arith) (omega arith)) in
    ap (λ (ys : List Record). x ∷ ys) rest ∙ ap (λ (b : Bool). cond b (x ∷ filter p xs) (filter p xs)) (sym first)

-- what is left is in order, and the name's
pub left_ordered : (p : Record → Bool) (xs : List Record) → is_ordered xs ≡ true → is_ordered (filter p xs) ≡ true
left_ordered p xs h = ordered_from (filter p xs) (sorted_filter p xs (sorted_from xs h))

pub left_owned : (p : Record → Bool) (name : Labels) (xs : List Record) → are_of name xs ≡ true → are_of name (filter p xs) ≡ true
left_owned p name xs h = still_pass (λ r. names_eq r.owner name) p xs h

-- two tests that agree on a name's records keep the same of them
same_of : (name : Labels) (p q : Record → Bool) → ((r : Record) → names_eq r.owner name ≡ true → p r ≡ q r) → (xs : List Record) → are_of name xs ≡ true → filter p xs ≡ filter q xs
same_of name p q f [] h = refl
same_of name p q f (x ∷ xs) h =
    let both = both_true (names_eq x.owner name) (are_of name xs) h in
    λ i. cond (f x both.0 i) (x ∷ same_of name p q f xs both.1 i) (same_of name p q f xs both.1 i)

none_stays : (name : Labels) (p : Record → Bool) → ((r : Record) → names_eq r.owner name ≡ true → p r ≡ false) → (xs : List Record) → are_of name xs ≡ true → filter p xs ≡ []
none_stays name p f [] h = refl
none_stays name p f (x ∷ xs) h =
    let both = both_true (names_eq x.owner name) (are_of name xs) h in
    ap (λ b. cond b (x ∷ filter p xs) (filter p xs)) (f x both.0) ∙ none_stays name p f xs both.1

all_stay : (name : Labels) (p : Record → Bool) → ((r : Record) → names_eq r.owner name ≡ true → p r ≡ true) → (xs : List Record) → are_of name xs ≡ true → filter p xs ≡ xs
all_stay name p f [] h = refl
all_stay name p f (x ∷ xs) h =
    let both = both_true (names_eq x.owner name) (are_of name xs) h in
    ap (λ b. cond b (x ∷ filter p xs) (filter p xs)) (f x both.0) ∙ ap (λ (ys : List Record). x ∷ ys) (all_stay name p f xs both.1)

-- whether a record of the name stays, by its type alone
stays_by : (apex name : Labels) (t : ℕ) (r : Record) → names_eq r.owner name ≡ true → not (is_of name t r && not (is_vital apex r)) ≡ not ((t == type_any || r.rtype == t) && not (names_eq name apex && (r.rtype == type_soa || r.rtype == type_ns)))
stays_by apex name t r e =
    (λ i. not ((e i && (t == type_any || r.rtype == t)) && not (names_eq (names_same r.owner name e i) apex && (r.rtype == type_soa || r.rtype == type_ns))))

-- a type goes
pub type_goes : (apex name : Labels) (t : ℕ) (xs : List Record) → (t == type_any) ≡ false → (names_eq name apex && (t == type_soa || t == type_ns)) ≡ false → are_of name xs ≡ true → filter (is_outside t t) xs ≡ deleted_set apex xs name t
type_goes apex name t xs other plain own = same_of name (is_outside t t) (λ r. not (is_of name t r && not (is_vital apex r))) (λ r e. by (names_eq name apex) r.rtype plain ∙ sym (stays_by apex name t r e)) xs own
  where
    tested : (b : Bool) (m : ℕ) → (b && (t == type_soa || t == type_ns)) ≡ false → (m == t) ≡ true → (b && (m == type_soa || m == type_ns)) ≡ false
    tested b m f e = (let same : m ≡ t = grind (arith, nat_tests) in ap (λ k. b && (k == type_soa || k == type_ns)) same ∙ f)

    is : (m : ℕ) (c : Bool) → (m == t) ≡ c → (nat_lt m t || nat_lt t m) ≡ not c
    is m true e = grind (arith, nat_tests)
    is m false e = grind (arith, nat_tests)

    step : (c v : Bool) → (c ≡ true → v ≡ false) → not c ≡ not (c && not v)
    step true v f = sym (ap (λ w. not (not w)) (f refl))
    step false v f = refl

    by : (b : Bool) (m : ℕ) → (b && (t == type_soa || t == type_ns)) ≡ false → (nat_lt m t || nat_lt t m) ≡ not ((t == type_any || m == t) && not (b && (m == type_soa || m == type_ns)))
    by b m f = is m (m == t) refl
        ∙ step (m == t) (b && (m == type_soa || m == type_ns)) (λ e. tested b m f e)
        ∙ sym (ap (λ c. not ((c || m == t) && not (b && (m == type_soa || m == type_ns)))) other)

-- the SOA and the NS of the apex stay
pub vital_stays : (apex name : Labels) (t : ℕ) (xs : List Record) → (t == type_any) ≡ false → (names_eq name apex && (t == type_soa || t == type_ns)) ≡ true → are_of name xs ≡ true → xs ≡ deleted_set apex xs name t
vital_stays apex name t xs other vital own = sym (all_stay name (λ r. not (is_of name t r && not (is_vital apex r))) (λ r e. stays_by apex name t r e ∙ by (names_eq name apex) r.rtype vital) xs own)
  where
    tested : (b : Bool) (m : ℕ) → (b && (t == type_soa || t == type_ns)) ≡ true → (m == t) ≡ true → (b && (m == type_soa || m == type_ns)) ≡ true
    tested b m f e = (let same : m ≡ t = grind (arith, nat_tests) in ap (λ k. b && (k == type_soa || k == type_ns)) same ∙ f)

    step : (c v : Bool) → (c ≡ true → v ≡ true) → not (c && not v) ≡ true
    step true v f = ap (λ w. not (not w)) (f refl)
    step false v f = refl

    by : (b : Bool) (m : ℕ) → (b && (t == type_soa || t == type_ns)) ≡ true → not ((t == type_any || m == t) && not (b && (m == type_soa || m == type_ns))) ≡ true
    by b m f = ap (λ c. not ((c || m == t) && not (b && (m == type_soa || m == type_ns)))) other
        ∙ step (m == t) (b && (m == type_soa || m == type_ns)) (λ e. tested b m f e)

-- all of another name go
pub all_go : (apex name : Labels) (t : ℕ) (xs : List Record) → (t == type_any) ≡ true → names_eq name apex ≡ false → are_of name xs ≡ true → [] ≡ deleted_set apex xs name t
all_go apex name t xs any other own = sym (none_stays name (λ r. not (is_of name t r && not (is_vital apex r))) (λ r e. stays_by apex name t r e ∙ by r.rtype) xs own)
  where
    by : (m : ℕ) → not ((t == type_any || m == t) && not (names_eq name apex && (m == type_soa || m == type_ns))) ≡ false
    by m = λ i. not ((any i || m == t) && not (other i && (m == type_soa || m == type_ns)))

-- of the apex the SOA and the NS stay, and no other type: none after the SOA's, between the two, or below that of NS
pub but_vital : (apex : Labels) (xs : List Record) → are_of apex xs ≡ true → names_eq apex apex ≡ true → filter (is_outside 0 1) (filter (is_outside 3 5) (filter (λ r. not (nat_lt 6 r.rtype)) xs)) ≡ deleted_set apex xs apex type_any
but_vital apex xs own same =
    ap (filter (is_outside 0 1)) (kept_twice (λ r. not (nat_lt 6 r.rtype)) (is_outside 3 5) xs)
    ∙ kept_twice (λ r. not (nat_lt 6 r.rtype) && is_outside 3 5 r) (is_outside 0 1) xs
    ∙ same_of apex (λ r. (not (nat_lt 6 r.rtype) && is_outside 3 5 r) && is_outside 0 1 r) (λ r. not (is_of apex type_any r && not (is_vital apex r))) (λ r e. by r.rtype ∙ sym (ap (λ b. not (not (b && (r.rtype == type_soa || r.rtype == type_ns)))) same) ∙ sym (stays_by apex apex type_any r e)) xs own
  where
    by : (m : ℕ) → ((not (nat_lt 6 m) && (nat_lt m 3 || nat_lt 5 m)) && (nat_lt m 0 || nat_lt 1 m)) ≡ not (not (m == type_soa || m == type_ns))
    by m = grind (arith, nat_tests)

pub is_number : (m n : ℕ) → n ≡ m → (m == n) ≡ true
is_number m n e = grind (arith, nat_tests)

pub other_number : (m n : ℕ) → (n ≡ m → ⊥) → (m == n) ≡ false
other_number m n e = grind (arith, nat_tests)

-- the records of a type go, whatever the name
pub one_type_goes : (name : Labels) (t : ℕ) (xs : List Record) → (t == type_any) ≡ false → are_of name xs ≡ true → filter (is_outside t t) xs ≡ filter (λ r. not (is_of name t r)) xs
one_type_goes name t xs other own = same_of name (is_outside t t) (λ r. not (is_of name t r)) (λ r e. is r.rtype (r.rtype == t) refl ∙ sym (λ i. not (e i && (other i || r.rtype == t)))) xs own
  where
    is : (m : ℕ) (c : Bool) → (m == t) ≡ c → (nat_lt m t || nat_lt t m) ≡ not c
    is m true e = grind (arith, nat_tests)
    is m false e = grind (arith, nat_tests)
