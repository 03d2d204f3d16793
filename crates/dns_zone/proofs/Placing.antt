-- The position of a record in a list in order.
use Rattle.std.proofs.Common.{◌≡◌, ℕ, zero, suc, ◌<◌, ◌≤◌, Bool, true, false, List, [], ◌∷◌, length, get_or, Some, None, refl, sym, ap, ◌∙◌, arith, cond}
use Rattle.std.specs.Prelude.{not, ◌||◌}
use Rattle.std.specs.List.{AllWithin, find}
use Rattle.std.specs.Ordering.{is_lt, is_eq, ordering_reverse}
use Rattle.std.specs.FinMap.Entries.{by_order}
use Rattle.std.specs.Cmp.{tied_back}
use Rattle.std.specs.declared.cmp.Ordering.{Ordering}
use Rattle.std.specs.declared.cmp.Ordering.TheVariants.{Less, Equal, Greater}
use Rattle.dns_records.specs.Record.{Record, record_cmp}
use Rattle.dns_zone.specs.Records.{alike, put, without, has}
use Rattle.dns_zone.specs.Order.{record_total}
use Rattle.dns_zone.specs.Sets.{Sorted, Below, below_less, below_tied, equal_is, less_is}
use Rattle.dns_zone.specs.Twice.{alike_is}
use Rattle.std.proofs.lemmas.List.{get_or_default}
use Rattle.std.proofs.lemmas.Option.{slice_get-get_or}
use Rattle.dns_zone.specs.Place.{IsRecordAt, BelongsAt}

turned : (a b : Ordering) → a ≡ ordering_reverse b → b ≡ Less → a ≡ Greater
turned a b e l = e ∙ ap ordering_reverse l

-- no record above another ties with it
kept_above : (r : Record) (xs : List Record) → Below r xs → without r xs ≡ xs
kept_above r [] h = refl
kept_above r (x ∷ xs) h =
    ap (λ (o : Ordering). cond (not (is_eq o)) (x ∷ without r xs) (without r xs)) h.0 ∙ ap (λ (ys : List Record). x ∷ ys) (kept_above r xs h.1)

none_above : (r : Record) (xs : List Record) → Below r xs → has r xs ≡ false
none_above r [] h = refl
none_above r (x ∷ xs) h = ap (λ (o : Ordering). is_eq o || has r xs) h.0 ∙ none_above r xs h.1

pub stands : (r : Record) (xs : List Record) (at : ℕ) → Sorted xs → at < length xs → AllWithin (λ s. is_lt (record_cmp s r) ≡ true) xs 0 at → record_cmp (get_or xs at r) r ≡ Equal → IsRecordAt r xs at
stands r [] at h inside before e = absurd (omega arith)
stands r (s ∷ rest) zero h inside before e =
    let back : record_cmp r s ≡ Equal = tied_back record_total s r e in
    let above : Below r rest = below_tied r s rest back h.0 in
    record {
      inside = inside;
      there = ap (λ (o : Ordering). is_eq o || has r rest) back;
      found = sym (ap (λ (o : Ordering). cond (is_eq o) (Some s) (find (λ x. is_eq (record_cmp r x)) rest)) back);
      put_is = ap (λ (o : Ordering). by_order o (r ∷ s ∷ rest) (r ∷ rest) (s ∷ put r rest)) back;
      without_is = ap (λ (o : Ordering). cond (not (is_eq o)) (s ∷ without r rest) (without r rest)) back ∙ kept_above r rest above;
    }
stands r (s ∷ rest) (suc at) h inside before e =
    let first : record_cmp s r ≡ Less = less_is (record_cmp s r) (before 0 r (omega arith) (omega arith)) in
    let back : record_cmp r s ≡ Greater = turned (record_cmp r s) (record_cmp s r) (record_total.antisymm r s) first in
    let later = stands r rest at h.1 (omega arith) (λ k d from to. before (suc k) d (omega arith) (omega arith)) e in
    record {
      inside = inside;
      there = ap (λ (o : Ordering). is_eq o || has r rest) back ∙ later.there;
      found = later.found ∙ sym (ap (λ (o : Ordering). cond (is_eq o) (Some s) (find (λ x. is_eq (record_cmp r x)) rest)) back);
      put_is = ap (λ (o : Ordering). by_order o (r ∷ s ∷ rest) (r ∷ rest) (s ∷ put r rest)) back ∙ ap (λ (ys : List Record). s ∷ ys) later.put_is;
      without_is = ap (λ (o : Ordering). cond (not (is_eq o)) (s ∷ without r rest) (without r rest)) back ∙ ap (λ (ys : List Record). s ∷ ys) later.without_is;
    }

pub past_both : (o : Ordering) → is_lt o ≡ false → is_eq o ≡ false → o ≡ Greater
past_both Less e f = absurd cc
past_both Equal e f = absurd cc
past_both Greater e f = refl

pub belongs : (r : Record) (xs : List Record) (at : ℕ) → Sorted xs → at ≤ length xs → AllWithin (λ s. is_lt (record_cmp s r) ≡ true) xs 0 at → (at < length xs → record_cmp (get_or xs at r) r ≡ Greater) → BelongsAt r xs at
belongs r [] zero h inside before other = record { inside = inside; absent = refl; put_is = refl; without_is = refl }
belongs r [] (suc at) h inside before other = absurd (omega arith)
belongs r (s ∷ rest) zero h inside before other =
    let there : record_cmp s r ≡ Greater = other (omega arith) in
    let back : record_cmp r s ≡ Less = record_total.antisymm r s ∙ ap ordering_reverse there in
    let above : Below r (s ∷ rest) = (back, below_less r s rest back h.0) in
    record {
      inside = inside;
      absent = none_above r (s ∷ rest) above;
      put_is = ap (λ (o : Ordering). by_order o (r ∷ s ∷ rest) (r ∷ rest) (s ∷ put r rest)) back;
      without_is = kept_above r (s ∷ rest) above;
    }
belongs r (s ∷ rest) (suc at) h inside before other =
    let first : record_cmp s r ≡ Less = less_is (record_cmp s r) (before 0 r (omega arith) (omega arith)) in
    let back : record_cmp r s ≡ Greater = turned (record_cmp r s) (record_cmp s r) (record_total.antisymm r s) first in
    let later = belongs r rest at h.1 (omega arith) (λ k d from to. before (suc k) d (omega arith) (omega arith)) (λ lt. other (omega arith)) in
    record {
      inside = inside;
      absent = ap (λ (o : Ordering). is_eq o || has r rest) back ∙ later.absent;
      put_is = ap (λ (o : Ordering). by_order o (r ∷ s ∷ rest) (r ∷ rest) (s ∷ put r rest)) back ∙ ap (λ (ys : List Record). s ∷ ys) later.put_is;
      without_is = ap (λ (o : Ordering). cond (not (is_eq o)) (s ∷ without r rest) (without r rest)) back ∙ ap (λ (ys : List Record). s ∷ ys) later.without_is;
    }

-- ---- what is found there
pub find_by : (p q : Record → Bool) → ((r : Record) → p r ≡ q r) → (xs : List Record) → find p xs ≡ find q xs
find_by p q h [] = refl
find_by p q h (x ∷ xs) = λ i. cond (h x i) (Some x) (find_by p q h xs i)

none_tied : (q : Record) (xs : List Record) → has q xs ≡ false → find (λ s. is_eq (record_cmp q s)) xs ≡ None
none_tied q [] e = refl
none_tied q (x ∷ xs) e = at (is_eq (record_cmp q x)) e (none_tied q xs)
  where
    at : (b : Bool) → (b || has q xs) ≡ false → (has q xs ≡ false → find (λ s. is_eq (record_cmp q s)) xs ≡ None) → cond b (Some x) (find (λ s. is_eq (record_cmp q s)) xs) ≡ None
    at true f rest = absurd cc
    at false f rest = rest f

pub parts_found : (q : Record) (xs : List Record) (at : ℕ) (r : Record) → Sorted xs → at < length xs → AllWithin (λ s. is_lt (record_cmp s q) ≡ true) xs 0 at → r ≡ get_or xs at r → is_eq (record_cmp r q) ≡ true → Some r ≡ find (alike q) xs
parts_found q xs at r h inside before is e =
    let here : record_cmp (get_or xs at q) q ≡ Equal = ap (λ (s : Record). record_cmp s q) (get_or_default xs at q r inside ∙ sym is) ∙ equal_is (record_cmp r q) e in
    let there = stands q xs at h inside before here in
    ap (λ (s : Record). Some s) is ∙ sym (slice_get-get_or xs at r inside) ∙ there.found ∙ find_by (λ s. is_eq (record_cmp q s)) (alike q) (alike_is q) xs

pub parts_none : (q : Record) (xs : List Record) (at : ℕ) → Sorted xs → at ≤ length xs → AllWithin (λ s. is_lt (record_cmp s q) ≡ true) xs 0 at → (at < length xs → record_cmp (get_or xs at q) q ≡ Greater) → None ≡ find (alike q) xs
parts_none q xs at h inside before other =
    sym (none_tied q xs (belongs q xs at h inside before other).absent) ∙ find_by (λ s. is_eq (record_cmp q s)) (alike q) (alike_is q) xs
