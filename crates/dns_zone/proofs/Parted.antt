-- Records in order around those of one name.
use Rattle.std.proofs.Common.{◌≡◌, Bool, true, false, cond, ◌||◌, inl, inr, List, [], ◌∷◌, ◌++◌, refl, sym, ap, ◌∙◌, subst}
use Rattle.std.specs.Prelude.{filter, not}
use Rattle.std.specs.Ordering.{is_lt, is_gt, is_eq, nat_cmp, ordering_then}
use Rattle.std.specs.Cmp.{tied_itself}
use Rattle.std.specs.Cmp.Lexicographic.{slice_cmp}
use Rattle.std.specs.FinMap.Entries.{by_order}
use Rattle.std.specs.declared.cmp.Ordering.{Ordering}
use Rattle.std.specs.declared.cmp.Ordering.TheVariants.{Less, Equal, Greater}
use Rattle.std.proofs.lemmas.List.Elements.{filter-append}
use Rattle.dns_names.specs.Name.{Labels, names_eq, name_cmp}
use Rattle.dns_names.specs.Compare.{name_cmp-same}
use Rattle.dns_records.specs.Record.{Record, record_cmp}
use Rattle.dns_zone.specs.Order.{name_total, names_same, names_itself}
use Rattle.dns_zone.specs.Records.{put, without, records_at, has}
use Rattle.dns_zone.specs.Sets.{Sorted, Below, true_or_false, less_is}

abbrev pub fore : Labels → Record → Bool
fore name r = is_gt (name_cmp name r.owner)

abbrev pub past : Labels → Record → Bool
past name r = is_lt (name_cmp name r.owner)

abbrev pub AllOf : (Record → Type 0) → List Record → Type 0
AllOf P [] = Unit {0}
AllOf P (x ∷ xs) = P x × AllOf P xs

not_more : (a b : Ordering) → ordering_then a b ≡ Less → is_gt a ≡ false
not_more Less b e = refl
not_more Equal b e = refl
not_more Greater b e = absurd cc

pub none_eq : (name owner : Labels) (o : Ordering) → name_cmp name owner ≡ o → (o ≡ Equal → ⊥) → names_eq owner name ≡ false
none_eq name owner o e never = elim (true_or_false (names_eq owner name)) [
  | inl same ↦ absurd (never (sym e ∙ ap (λ n. name_cmp name n) (names_same owner name same) ∙ tied_itself name_total name))
  | inr other ↦ other
]

pub tied_eq : (name owner : Labels) → name_cmp name owner ≡ Equal → names_eq owner name ≡ true
tied_eq name owner e = subst (λ n. names_eq n name ≡ true) (name_cmp-same name owner e) (names_itself name)

-- after a record whose owner is no lower
at_least : (name a b : Labels) (o p : Ordering) → name_cmp name a ≡ o → name_cmp a b ≡ p → is_gt o ≡ false → is_gt p ≡ false → is_gt (name_cmp name b) ≡ false
at_least name a b Less Less e f g h = ap is_gt (name_total.trans name a b e f)
at_least name a b Less Equal e f g h = ap is_gt (subst (λ n. name_cmp name n ≡ Less) (name_cmp-same a b f) e)
at_least name a b Equal p e f g h = ap is_gt (name_total.congr name a b e ∙ f) ∙ h
at_least name a b Less Greater e f g h = absurd cc
at_least name a b Greater p e f g h = absurd cc

more_than : (name a b : Labels) (p : Ordering) → name_cmp name a ≡ Less → name_cmp a b ≡ p → is_gt p ≡ false → name_cmp name b ≡ Less
more_than name a b Less e f h = name_total.trans name a b e f
more_than name a b Equal e f h = subst (λ n. name_cmp name n ≡ Less) (name_cmp-same a b f) e
more_than name a b Greater e f h = absurd cc

pub none_fore : (name : Labels) (x : Record) (xs : List Record) → is_gt (name_cmp name x.owner) ≡ false → Below x xs → filter (fore name) xs ≡ []
none_fore name x [] e h = refl
none_fore name x (y ∷ ys) e h =
    let here : is_gt (name_cmp name y.owner) ≡ false = at_least name x.owner y.owner (name_cmp name x.owner) (name_cmp x.owner y.owner) refl refl e (not_more (name_cmp x.owner y.owner) _ h.0) in
    ap (λ b. cond b (y ∷ filter (fore name) ys) (filter (fore name) ys)) here ∙ none_fore name x ys e h.1

none_at : (name : Labels) (x : Record) (xs : List Record) → name_cmp name x.owner ≡ Less → Below x xs → records_at xs name ≡ []
none_at name x [] e h = refl
none_at name x (y ∷ ys) e h =
    let less = more_than name x.owner y.owner (name_cmp x.owner y.owner) e refl (not_more (name_cmp x.owner y.owner) _ h.0) in
    ap (λ b. cond b (y ∷ records_at ys name) (records_at ys name)) (none_eq name y.owner Less less (λ f. absurd cc)) ∙ none_at name x ys e h.1

-- records in order: those before the name, its own, and those after it
pub parted : (name : Labels) (xs : List Record) → Sorted xs → xs ≡ filter (fore name) xs ++ (records_at xs name ++ filter (past name) xs)
parted name [] h = refl
parted name (x ∷ xs) h = step (name_cmp name x.owner) refl (parted name xs h.1)
  where
    step : (o : Ordering) → name_cmp name x.owner ≡ o → xs ≡ filter (fore name) xs ++ (records_at xs name ++ filter (past name) xs)
        → x ∷ xs ≡ cond (is_gt (name_cmp name x.owner)) (x ∷ filter (fore name) xs) (filter (fore name) xs) ++ (cond (names_eq x.owner name) (x ∷ records_at xs name) (records_at xs name) ++ cond (is_lt (name_cmp name x.owner)) (x ∷ filter (past name) xs) (filter (past name) xs))
    step Greater e n =
        ap (λ z. x ∷ z) n
        ∙ (λ i. cond (is_gt (sym e i)) (x ∷ filter (fore name) xs) (filter (fore name) xs) ++ (cond (sym (none_eq name x.owner Greater e (λ f. absurd cc)) i) (x ∷ records_at xs name) (records_at xs name) ++ cond (is_lt (sym e i)) (x ∷ filter (past name) xs) (filter (past name) xs)))
    step Equal e n =
        let none : filter (fore name) xs ≡ [] = none_fore name x xs (ap is_gt e) h.0 in
        ap (λ z. x ∷ z) (n ∙ ap (λ z. z ++ (records_at xs name ++ filter (past name) xs)) none)
        ∙ ap (λ z. z ++ ((x ∷ records_at xs name) ++ filter (past name) xs)) (sym none)
        ∙ (λ i. cond (is_gt (sym e i)) (x ∷ filter (fore name) xs) (filter (fore name) xs) ++ (cond (sym (tied_eq name x.owner e) i) (x ∷ records_at xs name) (records_at xs name) ++ cond (is_lt (sym e i)) (x ∷ filter (past name) xs) (filter (past name) xs)))
    step Less e n =
        let none : filter (fore name) xs ≡ [] = none_fore name x xs (ap is_gt e) h.0 in
        let none_here : records_at xs name ≡ [] = none_at name x xs e h.0 in
        let rest : xs ≡ filter (past name) xs = n ∙ (λ i. none i ++ (none_here i ++ filter (past name) xs)) in
        ap (λ z. x ∷ z) rest
        ∙ (λ i. sym none i ++ (sym none_here i ++ (x ∷ filter (past name) xs)))
        ∙ (λ i. cond (is_gt (sym e i)) (x ∷ filter (fore name) xs) (filter (fore name) xs) ++ (cond (sym (none_eq name x.owner Less e (λ f. absurd cc)) i) (x ∷ records_at xs name) (records_at xs name) ++ cond (is_lt (sym e i)) (x ∷ filter (past name) xs) (filter (past name) xs)))

-- a record of the name, beside those of other names
kept_of : (p : Record → Bool) (P : Record → Type 0) → ((x : Record) → p x ≡ true → P x) → (xs : List Record) → AllOf P (filter p xs)
kept_of p P f [] = tt
kept_of p P f (x ∷ xs) = step (p x) refl (kept_of p P f xs)
  where
    step : (b : Bool) → p x ≡ b → AllOf P (filter p xs) → AllOf P (cond b (x ∷ filter p xs) (filter p xs))
    step true e n = (f x e, n)
    step false e n = n

pub more_is : (o : Ordering) → is_gt o ≡ true → o ≡ Greater
more_is Less e = absurd cc
more_is Equal e = absurd cc
more_is Greater e = refl

pub behind_all : (r : Record) (xs : List Record) → AllOf (λ x. record_cmp r x ≡ Greater) (filter (fore r.owner) xs)
behind_all r xs = kept_of (fore r.owner) (λ x. record_cmp r x ≡ Greater) (λ (x : Record) e. ap (λ (o : Ordering). ordering_then o (ordering_then (nat_cmp r.rtype x.rtype) (slice_cmp nat_cmp r.rdata x.rdata))) (more_is (name_cmp r.owner x.owner) e)) xs

pub before_all : (r : Record) (xs : List Record) → AllOf (λ x. record_cmp r x ≡ Less) (filter (past r.owner) xs)
before_all r xs = kept_of (past r.owner) (λ x. record_cmp r x ≡ Less) (λ (x : Record) e. ap (λ (o : Ordering). ordering_then o (ordering_then (nat_cmp r.rtype x.rtype) (slice_cmp nat_cmp r.rdata x.rdata))) (less_is (name_cmp r.owner x.owner) e)) xs

pub put_behind : (r : Record) (xs ys : List Record) → AllOf (λ x. record_cmp r x ≡ Greater) xs → put r (xs ++ ys) ≡ xs ++ put r ys
put_behind r [] ys h = refl
put_behind r (x ∷ xs) ys h = ap (λ o. by_order o (r ∷ x ∷ (xs ++ ys)) (r ∷ (xs ++ ys)) (x ∷ put r (xs ++ ys))) h.0 ∙ ap (λ z. x ∷ z) (put_behind r xs ys h.1)

pub put_first : (r : Record) (ys : List Record) → AllOf (λ x. record_cmp r x ≡ Less) ys → put r ys ≡ r ∷ ys
put_first r [] h = refl
put_first r (y ∷ ys) h = ap (λ o. by_order o (r ∷ y ∷ ys) (r ∷ ys) (y ∷ put r ys)) h.0

pub put_before : (r : Record) (xs ys : List Record) → AllOf (λ x. record_cmp r x ≡ Less) ys → put r (xs ++ ys) ≡ put r xs ++ ys
put_before r [] ys h = put_first r ys h
put_before r (x ∷ xs) ys h = step (record_cmp r x) (put_before r xs ys h)
  where
    step : (o : Ordering) → put r (xs ++ ys) ≡ put r xs ++ ys → by_order o (r ∷ x ∷ (xs ++ ys)) (r ∷ (xs ++ ys)) (x ∷ put r (xs ++ ys)) ≡ by_order o (r ∷ x ∷ xs) (r ∷ xs) (x ∷ put r xs) ++ ys
    step Less n = refl
    step Equal n = refl
    step Greater n = ap (λ z. x ∷ z) n

pub put_parted : (r : Record) (xs : List Record) → Sorted xs → put r xs ≡ filter (fore r.owner) xs ++ (put r (records_at xs r.owner) ++ filter (past r.owner) xs)
put_parted r xs h =
    let f = filter (fore r.owner) xs in
    let own = records_at xs r.owner in
    let p = filter (past r.owner) xs in
    ap (put r) (parted r.owner xs h) ∙ put_behind r f (own ++ p) (behind_all r xs) ∙ ap (λ z. f ++ z) (put_before r own p (before_all r xs))

kept_all : (r : Record) (xs : List Record) → AllOf (λ x. is_eq (record_cmp r x) ≡ false) xs → without r xs ≡ xs
kept_all r [] h = refl
kept_all r (x ∷ xs) h = ap (λ b. cond (not b) (x ∷ without r xs) (without r xs)) h.0 ∙ ap (λ z. x ∷ z) (kept_all r xs h.1)

apart_all : (o : Ordering) (r : Record) (xs : List Record) → is_eq o ≡ false → AllOf (λ x. record_cmp r x ≡ o) xs → AllOf (λ x. is_eq (record_cmp r x) ≡ false) xs
apart_all o r [] e h = tt
apart_all o r (x ∷ xs) e h = (ap is_eq h.0 ∙ e, apart_all o r xs e h.1)

pub without_parted : (r : Record) (xs : List Record) → Sorted xs → without r xs ≡ filter (fore r.owner) xs ++ (without r (records_at xs r.owner) ++ filter (past r.owner) xs)
without_parted r xs h =
    let f = filter (fore r.owner) xs in
    let own = records_at xs r.owner in
    let p = filter (past r.owner) xs in
    let test = λ (s : Record). not (is_eq (record_cmp r s)) in
    ap (without r) (parted r.owner xs h)
    ∙ filter-append test f (own ++ p)
    ∙ (λ i. kept_all r f (apart_all Greater r f refl (behind_all r xs)) i ++ filter-append test own p i)
    ∙ ap (λ z. f ++ (without r own ++ z)) (kept_all r p (apart_all Less r p refl (before_all r xs)))

-- one of equal owner, type and data is one of the name
pub has_parted : (r : Record) (xs : List Record) → has r (records_at xs r.owner) ≡ has r xs
has_parted r [] = refl
has_parted r (x ∷ xs) = step (names_eq x.owner r.owner) refl (has_parted r xs)
  where
    first_not : (o p : Ordering) → is_eq o ≡ false → is_eq (ordering_then o p) ≡ false
    first_not Less p e = refl
    first_not Equal p e = absurd cc
    first_not Greater p e = refl

    apart : (o : Ordering) → name_cmp r.owner x.owner ≡ o → names_eq x.owner r.owner ≡ false → is_eq o ≡ false
    apart Less e f = refl
    apart Equal e f = (let same = tied_eq r.owner x.owner e in absurd cc)
    apart Greater e f = refl

    step : (b : Bool) → names_eq x.owner r.owner ≡ b → has r (records_at xs r.owner) ≡ has r xs → has r (cond b (x ∷ records_at xs r.owner) (records_at xs r.owner)) ≡ (is_eq (record_cmp r x) || has r xs)
    step true e n = ap (λ z. is_eq (record_cmp r x) || z) n
    step false e n = n ∙ ap (λ b. b || has r xs) (sym (first_not (name_cmp r.owner x.owner) _ (apart (name_cmp r.owner x.owner) refl e)))

-- without one of equal owner, type and data nothing is taken out
pub without_none : (r : Record) (xs : List Record) → has r xs ≡ false → without r xs ≡ xs
without_none r [] e = refl
without_none r (x ∷ xs) e = step (is_eq (record_cmp r x)) e (without_none r xs)
  where
    step : (b : Bool) → (b || has r xs) ≡ false → (has r xs ≡ false → without r xs ≡ xs) → cond (not b) (x ∷ without r xs) (without r xs) ≡ x ∷ xs
    step true f n = absurd cc
    step false f n = ap (λ z. x ∷ z) (n f)
