-- An item does to a set what it does to the records of its owner, and leaves those of other names.
use Rattle.std.proofs.Common.{◌≡◌, ℕ, Bool, true, false, not, ◌&&◌, ◌||◌, inl, inr, List, [], ◌∷◌, ◌++◌, Option, Some, None, length, refl, sym, ap, subst, ◌∙◌, cond}
use Rattle.std.specs.Prelude.{filter, ◌==◌, if◌then◌else◌}
use Rattle.std.specs.List.{AllByRecursion, list_any, list_all}
use Rattle.std.specs.Ordering.{is_eq}
use Rattle.dns_names.specs.Name.{Labels, names_eq}
use Rattle.dns_records.specs.Types.{type_ns, type_cname, type_soa, class_in, class_any}
use Rattle.dns_records.specs.Record.{Record, record_cmp, serial_of}
use Rattle.dns_serial.specs.Serial.{greater}
use Rattle.dns_zone.specs.Records.{are_of, is_ordered, others, owns_type, put, records_at, rrset, united, without}
use Rattle.dns_zone.specs.Order.{both_true, names_itself, names_same}
use Rattle.dns_zone.specs.Sets.{Sorted, found, found_filter, found_put, only, same_sets, sorted_filter, sorted_from, sorted_put, ties, true_or_false}
use Rattle.dns_zone.specs.Twice.{any_by}
use Rattle.dns_zone.proofs.Kept.{any_kept}
use Rattle.dns_zone.proofs.Listed.{filter_same, put_ordered, without_ordered}
use Rattle.dns_zone.proofs.Replaced.{at_pass, replaced_kept}
use Rattle.dns_zone.proofs.Typed.{kept_twice}
use Rattle.dns_changes.specs.Touched.{is_owned_by, records_aside}
use Rattle.dns_wire.specs.Message.{ResourceRecord}
use Rattle.dns_update.specs.ResourceRecord.{as_record}
use Rattle.dns_update.specs.Effect.{is_of, is_vital, replaced, owns_other, succeeds, added, deleted_set, is_spared, deleted, effect, effects}
use Rattle.dns_update.proofs.Aside.{effects_aside}
use Rattle.dns_update.proofs.Ranges.{all_kept, left_ordered}

abbrev pub at : Labels → Record → Bool
at name r = names_eq r.owner name

-- ---- tests of a set that a name's records decide
once : (a b : Bool) → (a && (a && b)) ≡ (a && b)
once true b = refl
once false b = refl

once_of : (a b d : Bool) → (a && ((a && b) && d)) ≡ ((a && b) && d)
once_of true b d = refl
once_of false b d = refl

pub other_at : (name : Labels) (t : ℕ) (xs : List Record) → owns_other (records_at xs name) name t ≡ owns_other xs name t
other_at name t xs =
    any_kept (λ s. names_eq s.owner name && not (s.rtype == t)) (at name) xs
    ∙ any_by (λ s. names_eq s.owner name && (names_eq s.owner name && not (s.rtype == t))) (λ s. names_eq s.owner name && not (s.rtype == t)) (λ s. once (names_eq s.owner name) (not (s.rtype == t))) xs

pub type_at : (name : Labels) (t : ℕ) (xs : List Record) → owns_type (records_at xs name) name t ≡ owns_type xs name t
type_at name t xs =
    any_kept (λ s. names_eq s.owner name && s.rtype == t) (at name) xs
    ∙ any_by (λ s. names_eq s.owner name && (names_eq s.owner name && s.rtype == t)) (λ s. names_eq s.owner name && s.rtype == t) (λ s. once (names_eq s.owner name) (s.rtype == t)) xs

pub older_at : (r : Record) (xs : List Record) → list_any (succeeds r) (records_at xs r.owner) ≡ list_any (succeeds r) xs
older_at r xs =
    any_kept (succeeds r) (at r.owner) xs
    ∙ any_by (λ s. names_eq s.owner r.owner && succeeds r s) (succeeds r) (λ s. once_of (names_eq s.owner r.owner) (s.rtype == type_soa) (greater (serial_of r) (serial_of s))) xs

pub type_kept : (name : Labels) (t : ℕ) (xs : List Record) → rrset (records_at xs name) name t ≡ rrset xs name t
type_kept name t xs =
    kept_twice (at name) (λ r. names_eq r.owner name && r.rtype == t) xs
    ∙ filter_same (λ r. names_eq r.owner name && (names_eq r.owner name && r.rtype == t)) (λ r. names_eq r.owner name && r.rtype == t) (λ r. once (names_eq r.owner name) (r.rtype == t)) xs

never : (a b : Bool) → ((a && false) && b) ≡ false
never true b = refl
never false b = refl

pub spared_at : (apex : Labels) (r : Record) (xs : List Record) → is_spared apex (records_at xs r.owner) r ≡ is_spared apex xs r
spared_at apex r xs = elim (true_or_false (names_eq r.owner apex)) [
  | inl t ↦ (let same : r.owner ≡ apex = names_same r.owner apex t in
      let kept : rrset (records_at xs r.owner) apex type_ns ≡ rrset xs apex type_ns = ap (λ n. rrset (records_at xs r.owner) n type_ns) (sym same) ∙ type_kept r.owner type_ns xs ∙ ap (λ n. rrset xs n type_ns) same in
      ap (λ (ys : List Record). r.rtype == type_soa || r.rtype == type_ns && names_eq r.owner apex && length ys == 1) kept)
  | inr f ↦ by (r.rtype == type_soa) (r.rtype == type_ns) (names_eq r.owner apex) (length (rrset (records_at xs r.owner) apex type_ns) == 1) (length (rrset xs apex type_ns) == 1) f
]
  where
    by : (a b e c d : Bool) → e ≡ false → (a || b && e && c) ≡ (a || b && e && d)
    by a b true c d g = absurd cc
    by a b false c d g = ap (λ x. a || x) (never b c ∙ sym (never b d))

-- ---- what becomes of a name's records
swapped : (p q : Record → Bool) (xs : List Record) → filter q (filter p xs) ≡ filter p (filter q xs)
swapped p q xs = kept_twice p q xs ∙ filter_same (λ r. p r && q r) (λ r. q r && p r) (λ r. flip (p r) (q r)) xs ∙ sym (kept_twice q p xs)
  where
    flip : (a b : Bool) → (a && b) ≡ (b && a)
    flip true true = refl
    flip true false = refl
    flip false true = refl
    flip false false = refl

pub put_at : (r : Record) (xs : List Record) → Sorted xs → records_at (put r xs) r.owner ≡ put r (records_at xs r.owner)
put_at r xs h =
    same_sets (records_at (put r xs) r.owner) (put r (records_at xs r.owner)) (sorted_filter (at r.owner) (put r xs) (sorted_put r xs h)) (sorted_put r (records_at xs r.owner) (sorted_filter (at r.owner) xs h))
    (λ q. found_filter q (at r.owner) (put r xs) (sorted_put r xs h)
    ∙ ap (only (at r.owner)) (found_put q r xs)
    ∙ one (ties q r) (found q xs)
    ∙ ap (cond (ties q r) (Some r)) (sym (found_filter q (at r.owner) xs h))
    ∙ sym (found_put q r (records_at xs r.owner)))
  where
    one : (b : Bool) (o : Option Record) → only (at r.owner) (cond b (Some r) o) ≡ cond b (Some r) (only (at r.owner) o)
    one true o = ap (λ b. cond b (Some r) None) (names_itself r.owner)
    one false o = refl

replaced_at : (r : Record) (xs : List Record) → Sorted xs → records_at (replaced xs r) r.owner ≡ replaced (records_at xs r.owner) r
replaced_at r xs h =
    let p : Record → Bool = λ s. not (is_of r.owner r.rtype s) in
    put_at r (filter p xs) (sorted_filter p xs h) ∙ ap (put r) (swapped p (at r.owner) xs)

added_at : (r : Record) (xs : List Record) → Sorted xs → records_at (added xs r) r.owner ≡ added (records_at xs r.owner) r
added_at r xs h =
    by (r.rtype == type_cname) (owns_other xs r.owner type_cname) (owns_type xs r.owner type_cname) (r.rtype == type_soa) (list_any (succeeds r) xs)
    ∙ (λ i. if r.rtype == type_cname then (if sym (other_at r.owner type_cname xs) i then ys else replaced ys r) else if sym (type_at r.owner type_cname xs) i then ys else if r.rtype == type_soa then (if sym (older_at r xs) i then replaced ys r else ys) else put r ys)
  where
    ys : List Record
    ys = records_at xs r.owner

    by : (a b d e f : Bool) → records_at (if a then (if b then xs else replaced xs r) else if d then xs else if e then (if f then replaced xs r else xs) else put r xs) r.owner ≡ (if a then (if b then ys else replaced ys r) else if d then ys else if e then (if f then replaced ys r else ys) else put r ys)
    by true true d e f = refl
    by true false d e f = replaced_at r xs h
    by false b true e f = refl
    by false b false true true = replaced_at r xs h
    by false b false true false = refl
    by false b false false f = put_at r xs h

deleted_at : (apex : Labels) (r : Record) (xs : List Record) → records_at (deleted apex xs r) r.owner ≡ deleted apex (records_at xs r.owner) r
deleted_at apex r xs = by (is_spared apex xs r) ∙ (λ i. if sym (spared_at apex r xs) i then records_at xs r.owner else without r (records_at xs r.owner))
  where
    by : (a : Bool) → records_at (if a then xs else without r xs) r.owner ≡ (if a then records_at xs r.owner else without r (records_at xs r.owner))
    by true = refl
    by false = swapped (λ s. not (is_eq (record_cmp r s))) (at r.owner) xs

pub effect_at : (apex : Labels) (i : ResourceRecord) (xs : List Record) → Sorted xs → records_at (effect apex xs i) i.owner ≡ effect apex (records_at xs i.owner) i
effect_at apex i xs h = by (i.class == class_in) (i.class == class_any)
  where
    ys : List Record
    ys = records_at xs i.owner

    by : (a b : Bool) → records_at (if a then added xs (as_record i) else if b then deleted_set apex xs i.owner i.rtype else deleted apex xs (as_record i)) i.owner ≡ (if a then added ys (as_record i) else if b then deleted_set apex ys i.owner i.rtype else deleted apex ys (as_record i))
    by true b = added_at (as_record i) xs h
    by false true = swapped (λ r. not (is_of i.owner i.rtype r && not (is_vital apex r))) (at i.owner) xs
    by false false = deleted_at apex (as_record i) xs

-- ---- order
replaced_ordered : (r : Record) (xs : List Record) → is_ordered xs ≡ true → is_ordered (replaced xs r) ≡ true
replaced_ordered r xs h = put_ordered r (filter (λ s. not (is_of r.owner r.rtype s)) xs) (left_ordered (λ s. not (is_of r.owner r.rtype s)) xs h)

added_ordered : (r : Record) (xs : List Record) → is_ordered xs ≡ true → is_ordered (added xs r) ≡ true
added_ordered r xs h = by (r.rtype == type_cname) (owns_other xs r.owner type_cname) (owns_type xs r.owner type_cname) (r.rtype == type_soa) (list_any (succeeds r) xs)
  where
    by : (a b d e f : Bool) → is_ordered (if a then (if b then xs else replaced xs r) else if d then xs else if e then (if f then replaced xs r else xs) else put r xs) ≡ true
    by true true d e f = h
    by true false d e f = replaced_ordered r xs h
    by false b true e f = h
    by false b false true true = replaced_ordered r xs h
    by false b false true false = h
    by false b false false f = put_ordered r xs h

deleted_ordered : (apex : Labels) (r : Record) (xs : List Record) → is_ordered xs ≡ true → is_ordered (deleted apex xs r) ≡ true
deleted_ordered apex r xs h = by (is_spared apex xs r)
  where
    by : (a : Bool) → is_ordered (if a then xs else without r xs) ≡ true
    by true = h
    by false = without_ordered r xs h

pub effect_ordered : (apex : Labels) (i : ResourceRecord) (xs : List Record) → is_ordered xs ≡ true → is_ordered (effect apex xs i) ≡ true
effect_ordered apex i xs h = by (i.class == class_in) (i.class == class_any)
  where
    by : (a b : Bool) → is_ordered (if a then added xs (as_record i) else if b then deleted_set apex xs i.owner i.rtype else deleted apex xs (as_record i)) ≡ true
    by true b = added_ordered (as_record i) xs h
    by false true = left_ordered (λ r. not (is_of i.owner i.rtype r && not (is_vital apex r))) xs h
    by false false = deleted_ordered apex (as_record i) xs h

pub effects_ordered : (apex : Labels) (items : List ResourceRecord) (xs : List Record) → is_ordered xs ≡ true → is_ordered (effects apex xs items) ≡ true
effects_ordered apex [] xs h = h
effects_ordered apex (i ∷ items) xs h = effects_ordered apex items (effect apex xs i) (effect_ordered apex i xs h)

-- ---- items of one name
abbrev pub is_named : Labels → ResourceRecord → Bool
is_named name i = names_eq i.owner name

-- the records of the owner alone stay so
pub owned_is : (name : Labels) (xs : List Record) → are_of name xs ≡ true → records_at xs name ≡ xs
owned_is name xs own = all_kept (at name) xs own

pub effect_owned : (apex : Labels) (i : ResourceRecord) (xs : List Record) → is_ordered xs ≡ true → are_of i.owner xs ≡ true → are_of i.owner (effect apex xs i) ≡ true
effect_owned apex i xs h own =
    subst (λ (ys : List Record). are_of i.owner ys ≡ true)
    (effect_at apex i xs (sorted_from xs h) ∙ ap (λ (ys : List Record). effect apex ys i) (owned_is i.owner xs own))
    (at_pass i.owner (effect apex xs i))

pub effects_at : (apex name : Labels) (items : List ResourceRecord) (xs : List Record) → is_ordered xs ≡ true → list_all (is_named name) items ≡ true → records_at (effects apex xs items) name ≡ effects apex (records_at xs name) items
effects_at apex name [] xs h named = refl
effects_at apex name (i ∷ items) xs h named =
    let both = both_true (is_named name i) (list_all (is_named name) items) named in
    let same : i.owner ≡ name = names_same i.owner name both.0 in
    let one : records_at (effect apex xs i) name ≡ effect apex (records_at xs name) i = subst (λ (n : Labels). records_at (effect apex xs i) n ≡ effect apex (records_at xs n) i) same (effect_at apex i xs (sorted_from xs h)) in
    effects_at apex name items (effect apex xs i) (effect_ordered apex i xs h) both.1
    ∙ ap (λ (ys : List Record). effects apex ys items) one

or_false : (b : Bool) → (b || false) ≡ b
or_false true = refl
or_false false = refl

all_of : (name : Labels) (items : List ResourceRecord) → list_all (is_named name) items ≡ true → AllByRecursion (λ i. list_any (names_eq i.owner) (name ∷ []) ≡ true) items
all_of name [] named = tt
all_of name (i ∷ items) named =
    let both = both_true (is_named name i) (list_all (is_named name) items) named in
    (or_false (names_eq i.owner name) ∙ both.0, all_of name items both.1)

aside_is : (name : Labels) (xs : List Record) → records_aside (name ∷ []) xs ≡ others xs name
aside_is name xs = filter_same (λ r. not (is_owned_by (name ∷ []) r)) (λ r. not (names_eq r.owner name)) (λ r. ap not (or_false (names_eq r.owner name))) xs

pub effects_others : (apex name : Labels) (items : List ResourceRecord) (xs : List Record) → list_all (is_named name) items ≡ true → others (effects apex xs items) name ≡ others xs name
effects_others apex name items xs named =
    sym (aside_is name (effects apex xs items)) ∙ effects_aside apex (name ∷ []) xs items (all_of name items named) ∙ aside_is name xs

all_stay : (xs : List Record) → filter (λ r. true) xs ≡ xs
all_stay [] = refl
all_stay (x ∷ xs) = ap (λ (ys : List Record). x ∷ ys) (all_stay xs)

-- a set is what one name owns and what the others do
pub whole : (name : Labels) (xs : List Record) → is_ordered xs ≡ true → united (others xs name) (records_at xs name) ≡ xs
whole name xs h =
    ap (united (others xs name)) (sym (all_stay (records_at xs name)))
    ∙ replaced_kept name (λ r. true) (λ r e. refl) xs (sorted_from xs h)
    ∙ all_stay xs

-- what the items leave of the name's records, put among those of other names, is what they leave of the set
pub run_is : (apex name : Labels) (items : List ResourceRecord) (xs : List Record) → is_ordered xs ≡ true → list_all (is_named name) items ≡ true → united (others xs name) (effects apex (records_at xs name) items) ≡ effects apex xs items
run_is apex name items xs h named =
    (λ i. united (sym (effects_others apex name items xs named) i) (sym (effects_at apex name items xs h named) i))
    ∙ whole name (effects apex xs items) (effects_ordered apex items xs h)

-- what a test kept it keeps again
pub twice : (p : Record → Bool) (xs : List Record) → filter p (filter p xs) ≡ filter p xs
twice p [] = refl
twice p (x ∷ xs) = step (p x) refl (twice p xs)
  where
    step : (b : Bool) → p x ≡ b → filter p (filter p xs) ≡ filter p xs → filter p (cond b (x ∷ filter p xs) (filter p xs)) ≡ cond b (x ∷ filter p xs) (filter p xs)
    step true e n = ap (λ b. cond b (x ∷ filter p (filter p xs)) (filter p (filter p xs))) e ∙ ap (λ z. x ∷ z) n
    step false e n = n

-- ---- runs one after another
pub effects_behind : (apex : Labels) (run rest : List ResourceRecord) (xs : List Record) → effects apex xs (run ++ rest) ≡ effects apex (effects apex xs run) rest
effects_behind apex [] rest xs = refl
effects_behind apex (i ∷ run) rest xs = effects_behind apex run rest (effect apex xs i)

pub form_parts : (p : ResourceRecord → Type 0) (run rest : List ResourceRecord) → AllByRecursion p (run ++ rest) → AllByRecursion p run × AllByRecursion p rest
form_parts p [] rest h = (tt, h)
form_parts p (i ∷ run) rest h = (let both = form_parts p run rest h.1 in ((h.0, both.0), both.1))
