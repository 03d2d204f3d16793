-- What an update leaves as it is: the records of all names but those that it touches.
use Rattle.std.proofs.Common.{◌≡◌, ℕ, Bool, true, false, not, ◌&&◌, ◌||◌, inl, inr, List, [], ◌∷◌, refl, sym, ap, subst, ◌∙◌, cond}
use Rattle.std.specs.Prelude.{filter, ◌==◌, if◌then◌else◌}
use Rattle.std.specs.List.{AllByRecursion, list_any, list_all}
use Rattle.std.specs.FinMap.Entries.{by_order}
use Rattle.std.specs.Ordering.{is_eq}
use Rattle.std.specs.Cmp.{both_ways}
use Rattle.std.specs.Cmp.Lexicographic.{pointwise}
use Rattle.std.specs.declared.cmp.Ordering.TheVariants.{Less, Equal, Greater}
use Rattle.dns_names.specs.Name.{Labels, names_eq}
use Rattle.dns_records.specs.Types.{type_any, type_cname, type_soa, class_in, class_any}
use Rattle.dns_records.specs.Record.{Record, record_cmp, serial_of, with_serial}
use Rattle.dns_records.specs.Compare.{same_record, same_record-Decides, same_record-equiv}
use Rattle.dns_zone.specs.Records.{put, without, owns_type, records_at, same}
use Rattle.dns_zone.specs.Zone.{soas}
use Rattle.dns_zone.specs.Order.{both_true, names_same, names_itself, same_is, same_itself, tied_key}
use Rattle.dns_zone.specs.Sets.{ties, found, Sorted, either_true, equal_is, same_sets}
use Rattle.dns_zone.specs.Soa.{HasSoa}
use Rattle.dns_zone.proofs.Kept.{find_kept}
use Rattle.dns_changes.specs.Touched.{is_owned_by, records_aside, DifferAt}
use Rattle.dns_serial.specs.Serial.{next_serial}
use Rattle.dns_wire.specs.Message.{ResourceRecord}
use Rattle.dns_update.specs.ResourceRecord.{as_record}
use Rattle.dns_update.specs.Effect.{is_of, is_vital, replaced, owns_other, succeeds, added, deleted_set, is_spared, deleted, effect, effects}
use Rattle.dns_update.specs.Verdict.{same_set, with_next_serial}

same_owner : (names : List Labels) (a b : Labels) → a ≡ b → list_any (names_eq a) names ≡ true → list_any (names_eq b) names ≡ true
same_owner names a b e h = subst (λ (n : Labels). list_any (names_eq n) names ≡ true) e h

passed_over : (names : List Labels) (x : Record) (xs : List Record) → is_owned_by names x ≡ true → records_aside names (x ∷ xs) ≡ records_aside names xs
passed_over names x xs o = ap (λ b. cond (not b) (x ∷ records_aside names xs) (records_aside names xs)) o

put_aside : (names : List Labels) (r : Record) (xs : List Record) → is_owned_by names r ≡ true → records_aside names (put r xs) ≡ records_aside names xs
put_aside names r [] o = passed_over names r [] o
put_aside names r (x ∷ xs) o =
    elim (record_cmp r x) as (λ c. record_cmp r x ≡ c → records_aside names (by_order c (r ∷ x ∷ xs) (r ∷ xs) (x ∷ put r xs)) ≡ records_aside names (x ∷ xs)) [
      | Less ↦ λ e. passed_over names r (x ∷ xs) o
      | Equal ↦ λ e. passed_over names r xs o ∙ sym (passed_over names x xs (same_owner names r.owner x.owner (tied_key r x e).owner o))
      | Greater ↦ λ e. (let rest = put_aside names r xs o in λ i. cond (not (is_owned_by names x)) (x ∷ rest i) (rest i))
    ] refl

filter_aside : (names : List Labels) (p : Record → Bool) (xs : List Record) → ((r : Record) → p r ≡ false → is_owned_by names r ≡ true) → records_aside names (filter p xs) ≡ records_aside names xs
filter_aside names p [] h = refl
filter_aside names p (x ∷ xs) h = at (p x) refl (filter_aside names p xs h)
  where
    at : (b : Bool) → p x ≡ b → records_aside names (filter p xs) ≡ records_aside names xs → records_aside names (cond b (x ∷ filter p xs) (filter p xs)) ≡ records_aside names (x ∷ xs)
    at true e rest = λ i. cond (not (is_owned_by names x)) (x ∷ rest i) (rest i)
    at false e rest = rest ∙ sym (passed_over names x xs (h x e))

not_false : (b : Bool) → not b ≡ false → b ≡ true
not_false true e = refl
not_false false e = absurd cc

without_aside : (names : List Labels) (r : Record) (xs : List Record) → is_owned_by names r ≡ true → records_aside names (without r xs) ≡ records_aside names xs
without_aside names r xs o = filter_aside names (λ s. not (is_eq (record_cmp r s))) xs
    (λ s e. same_owner names r.owner s.owner (tied_key r s (equal_is (record_cmp r s) (not_false (is_eq (record_cmp r s)) e))).owner o)

of_owned : (names : List Labels) (name : Labels) (t : ℕ) (s : Record) → list_any (names_eq name) names ≡ true → is_of name t s ≡ true → is_owned_by names s ≡ true
of_owned names name t s o e = same_owner names name s.owner (sym (names_same s.owner name (both_true (names_eq s.owner name) (t == type_any || s.rtype == t) e).0)) o

module _ (apex : Labels) (names : List Labels) (xs : List Record) where
  replaced_aside : (r : Record) → is_owned_by names r ≡ true → records_aside names (replaced xs r) ≡ records_aside names xs
  replaced_aside r o =
      put_aside names r (filter (λ s. not (is_of r.owner r.rtype s)) xs) o
      ∙ filter_aside names (λ s. not (is_of r.owner r.rtype s)) xs (λ s e. of_owned names r.owner r.rtype s o (not_false (is_of r.owner r.rtype s) e))

  added_aside : (r : Record) → is_owned_by names r ≡ true → records_aside names (added xs r) ≡ records_aside names xs
  added_aside r o = at (r.rtype == type_cname) (owns_other xs r.owner type_cname) (owns_type xs r.owner type_cname) (r.rtype == type_soa) (list_any (succeeds r) xs)
    where
      at : (a b d e f : Bool) → records_aside names (if a then (if b then xs else replaced xs r) else if d then xs else if e then (if f then replaced xs r else xs) else put r xs) ≡ records_aside names xs
      at true true d e f = refl
      at true false d e f = replaced_aside r o
      at false b true e f = refl
      at false b false true true = replaced_aside r o
      at false b false true false = refl
      at false b false false f = put_aside names r xs o

  deleted_aside : (r : Record) → is_owned_by names r ≡ true → records_aside names (deleted apex xs r) ≡ records_aside names xs
  deleted_aside r o = at (is_spared apex xs r)
    where
      at : (a : Bool) → records_aside names (if a then xs else without r xs) ≡ records_aside names xs
      at true = refl
      at false = without_aside names r xs o

  set_aside : (name : Labels) (t : ℕ) → list_any (names_eq name) names ≡ true → records_aside names (deleted_set apex xs name t) ≡ records_aside names xs
  set_aside name t o = filter_aside names (λ r. not (is_of name t r && not (is_vital apex r))) xs
      (λ s e. of_owned names name t s o (both_true (is_of name t s) (not (is_vital apex s)) (not_false (is_of name t s && not (is_vital apex s)) e)).0)

  effect_aside : (i : ResourceRecord) → list_any (names_eq i.owner) names ≡ true → records_aside names (effect apex xs i) ≡ records_aside names xs
  effect_aside i o = at (i.class == class_in) (i.class == class_any)
    where
      at : (a b : Bool) → records_aside names (if a then added xs (as_record i) else if b then deleted_set apex xs i.owner i.rtype else deleted apex xs (as_record i)) ≡ records_aside names xs
      at true b = added_aside (as_record i) o
      at false true = set_aside i.owner i.rtype o
      at false false = deleted_aside (as_record i) o

-- the items leave what other names own
pub effects_aside : (apex : Labels) (names : List Labels) (xs : List Record) (items : List ResourceRecord) → AllByRecursion (λ i. list_any (names_eq i.owner) names ≡ true) items → records_aside names (effects apex xs items) ≡ records_aside names xs
effects_aside apex names xs [] h = refl
effects_aside apex names xs (i ∷ rest) h = effects_aside apex names (effect apex xs i) rest h.1 ∙ effect_aside apex names xs i h.0

-- and so does the next serial
pub next_aside : (apex : Labels) (names : List Labels) (xs : List Record) → HasSoa apex xs → list_any (names_eq apex) names ≡ true → records_aside names (with_next_serial (soas xs) xs) ≡ records_aside names xs
next_aside apex names xs h o =
    let s = h.soa in
    let own : is_owned_by names s ≡ true = same_owner names apex s.owner (sym h.owner) o in
    ap (λ (ss : List Record). records_aside names (with_next_serial ss xs)) h.one
    ∙ put_aside names (with_serial s (next_serial (serial_of s))) (without s xs) own ∙ without_aside names s xs own

-- ---- sets that are the same
pub same_set_itself : (xs : List Record) → same_set xs xs ≡ true
same_set_itself [] = refl
same_set_itself (x ∷ xs) = λ i. same_itself x i && same_set_itself xs i

pub same_set_is : (xs ys : List Record) → same_set xs ys ≡ true → xs ≡ ys
same_set_is [] [] e = refl
same_set_is [] (y ∷ ys) e = absurd cc
same_set_is (x ∷ xs) [] e = absurd cc
same_set_is (x ∷ xs) (y ∷ ys) e = let both = both_true (same x y) (same_set xs ys) e in λ i. same_is x y both.0 i ∷ same_set_is xs ys both.1 i

one_same : (a b : Record) → same_record a b ≡ same a b
one_same a b = both_ways (same_record a b) (same a b)
    (λ e. subst (λ (x : Record). same a x ≡ true) ((same_record-Decides a b).0 e) (same_itself a))
    (λ e. subst (λ (x : Record). same_record a x ≡ true) (same_is a b e) (same_record-equiv.refl a))

pub pairs_same : (xs ys : List Record) → pointwise same_record xs ys ≡ same_set xs ys
pairs_same [] [] = refl
pairs_same [] (y ∷ ys) = refl
pairs_same (x ∷ xs) [] = refl
pairs_same (x ∷ xs) (y ∷ ys) = λ i. one_same x y i && pairs_same xs ys i

abbrev pub is_same_at : List Record → List Record → Labels → Bool
is_same_at xs ys n = same_set (records_at xs n) (records_at ys n)

same_at : (xs ys : List Record) (names : List Labels) (n : Labels) → list_all (is_same_at xs ys) names ≡ true → list_any (names_eq n) names ≡ true → is_same_at xs ys n ≡ true
same_at xs ys [] n h o = absurd cc
same_at xs ys (m ∷ names) n h o =
    let both = both_true (is_same_at xs ys m) (list_all (is_same_at xs ys) names) h in
    elim (either_true (names_eq n m) (list_any (names_eq n) names) o) [
      | inl t ↦ subst (λ (k : Labels). is_same_at xs ys k ≡ true) (sym (names_same n m t)) both.0
      | inr t ↦ same_at xs ys names n both.1 t
    ]

pub found_at : (q : Record) (xs : List Record) → found q (records_at xs q.owner) ≡ found q xs
found_at q xs = find_kept (ties q) (λ r. names_eq r.owner q.owner) xs
    (λ r t. ap (λ n. names_eq n q.owner) (sym (tied_key q r (equal_is (record_cmp q r) t)).owner) ∙ names_itself q.owner)

found_aside : (names : List Labels) (q : Record) (xs : List Record) → is_owned_by names q ≡ false → found q (records_aside names xs) ≡ found q xs
found_aside names q xs o = find_kept (ties q) (λ r. not (is_owned_by names r)) xs
    (λ r t. ap (λ n. not (list_any (names_eq n) names)) (sym (tied_key q r (equal_is (record_cmp q r) t)).owner) ∙ ap not o)

same_here : (names : List Labels) (xs ys : List Record) → DifferAt names xs ys → Sorted xs → Sorted ys → list_all (is_same_at xs ys) names ≡ true → xs ≡ ys
same_here names xs ys d hx hy e = same_sets xs ys hx hy (λ q. at q (is_owned_by names q) refl)
  where
    at : (q : Record) (b : Bool) → is_owned_by names q ≡ b → found q xs ≡ found q ys
    at q true o = sym (found_at q xs) ∙ ap (found q) (same_set_is (records_at xs q.owner) (records_at ys q.owner) (same_at xs ys names q.owner e o)) ∙ found_at q ys
    at q false o = sym (found_aside names q xs o) ∙ ap (found q) d.others ∙ found_aside names q ys o

all_same : (xs : List Record) (names : List Labels) → list_all (is_same_at xs xs) names ≡ true
all_same xs [] = refl
all_same xs (n ∷ names) = λ i. same_set_itself (records_at xs n) i && all_same xs names i

-- the sets are the same where each of the names owns the same in both
pub same_by_name : (names : List Labels) (xs ys : List Record) → DifferAt names xs ys → Sorted xs → Sorted ys → list_all (is_same_at xs ys) names ≡ same_set xs ys
same_by_name names xs ys d hx hy = both_ways (list_all (is_same_at xs ys) names) (same_set xs ys)
    (λ e. subst (λ (zs : List Record). same_set xs zs ≡ true) (same_here names xs ys d hx hy e) (same_set_itself xs))
    (λ e. subst (λ (zs : List Record). list_all (is_same_at xs zs) names ≡ true) (same_set_is xs ys e) (all_same xs names))
