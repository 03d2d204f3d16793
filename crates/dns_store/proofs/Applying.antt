-- The octets of a set with a change made of it: what goes is taken off, and what comes is added.
use Rattle.std.proofs.Common.{◌≡◌, ◌+◌, Bool, true, false, not, ◌&&◌, ◌||◌, inl, inr, List, [], ◌∷◌, Option, Some, None, length, refl, sym, ap, ◌∙◌, arith}
use Rattle.std.specs.Prelude.{cond, if◌then◌else◌}
use Rattle.std.specs.List.{list_any, list_all}
use Rattle.std.specs.Ordering.{is_eq}
use Rattle.std.specs.FinMap.Entries.{by_order}
use Rattle.std.specs.declared.cmp.Ordering.TheVariants.{Less, Equal, Greater}
use Rattle.dns_records.specs.Record.{Record, plain, record_cmp}
use Rattle.dns_zone.specs.Records.{has, put, without, united, alike, contains}
use Rattle.dns_zone.specs.Zone.{has_twice}
use Rattle.dns_zone.specs.Sets.{ties, found, Below, Sorted, equal_is, true_or_false, below_tied, contains_found, sorted_filter, sorted_put}
use Rattle.dns_changes.specs.Change.{Change, applied, change_fault, removed_from, are_present, are_new}
use Rattle.dns_changes.specs.declared.ChangeError.{ChangeError}
use Rattle.dns_changes.specs.declared.ChangeError.TheVariants.{WrongSoa, RemovesAbsent, AddsPresent}
use Rattle.dns_changes.proofs.Steps.{present_next, removed_next, removed_none, new_next, united_next}
use Rattle.dns_store.specs.Plain.{octets_of}
use Rattle.dns_store.proofs.Counts.{Counts, octets_more}

-- ---- one record that goes
none_goes : (r : Record) (xs : List Record) → Below r xs → without r xs ≡ xs
none_goes r [] h = refl
none_goes r (x ∷ xs) h = ap (λ o. cond (not (is_eq o)) (x ∷ without r xs) (without r xs)) h.0 ∙ ap (λ (ys : List Record). x ∷ ys) (none_goes r xs h.1)

one_goes : (r : Record) (xs : List Record) → Sorted xs → found r xs ≡ Some r → octets_of xs ≡ length (plain r) + octets_of (without r xs)
one_goes r [] h e = absurd cc
one_goes r (x ∷ xs) h e = elim (true_or_false (ties r x)) [
  | inl t ↦ (let there : found r (x ∷ xs) ≡ Some x = ap (λ b. cond b (Some x) (found r xs)) t in
      let is : x ≡ r = cc (sym there ∙ e) in
      let left : without r (x ∷ xs) ≡ xs = ap (λ b. cond (not b) (x ∷ without r xs) (without r xs)) t ∙ none_goes r xs (below_tied r x xs (equal_is (record_cmp r x) t) h.0) in
      octets_more x xs ∙ (λ i. length (plain (is i)) + octets_of (sym left i)))
  | inr t ↦ (let there : found r (x ∷ xs) ≡ found r xs = ap (λ b. cond b (Some x) (found r xs)) t in
      let left : without r (x ∷ xs) ≡ x ∷ without r xs = ap (λ b. cond (not b) (x ∷ without r xs) (without r xs)) t in
      let rest = one_goes r xs h.1 (sym there ∙ e) in
      let more = octets_more x (without r xs) in
      let same : octets_of (without r (x ∷ xs)) ≡ octets_of (x ∷ without r xs) = ap octets_of left in
      omega (arith, octets_more x xs, rest, more, same))
]

-- ---- all that go
first_there : (a b c : Bool) → ((a && b) && not c) ≡ true → a ≡ true
first_there true b c e = refl
first_there false b c e = absurd (cc e)

all_go : (xs gone : List Record) → Sorted xs → are_present xs gone ≡ true → octets_of xs ≡ octets_of gone + octets_of (removed_from xs gone)
all_go xs [] h e = (let same : octets_of xs ≡ octets_of (removed_from xs []) = ap octets_of (sym (removed_none xs)) in omega (arith, same))
all_go xs (r ∷ rest) h e =
    let there : contains xs r ≡ true = first_there (contains xs r) (list_all (contains xs) rest) (list_any (alike r) rest || has_twice rest) e in
    let one = one_goes r xs h (contains_found r xs h there) in
    let others = all_go (without r xs) rest (sorted_filter (λ s. not (is_eq (record_cmp r s))) xs h) (sym (present_next xs r rest there) ∙ e) in
    let same : octets_of (removed_from xs (r ∷ rest)) ≡ octets_of (removed_from (without r xs) rest) = ap octets_of (removed_next xs r rest h there) in
    omega (arith, one, others, same, octets_more r rest)

-- ---- one record that comes
second_none : (a b : Bool) → (a || b) ≡ false → b ≡ false
second_none true b e = absurd (cc e)
second_none false b e = e

one_comes : (r : Record) (xs : List Record) → has r xs ≡ false → octets_of (put r xs) ≡ length (plain r) + octets_of xs
one_comes r [] e = octets_more r []
one_comes r (x ∷ xs) e =
    elim (record_cmp r x) as (λ o. record_cmp r x ≡ o → octets_of (by_order o (r ∷ x ∷ xs) (r ∷ xs) (x ∷ put r xs)) ≡ length (plain r) + octets_of (x ∷ xs)) [
      | Less ↦ λ is. octets_more r (x ∷ xs)
      | Equal ↦ λ is. absurd (let tied : true ≡ false = sym (ap (λ o. is_eq o || has r xs) is) ∙ e in cc tied)
      | Greater ↦ λ is. (let rest = one_comes r xs (second_none (is_eq (record_cmp r x)) (has r xs) e) in omega (arith, rest, octets_more x xs, octets_more x (put r xs)))
    ] refl

-- ---- all that come
first_new : (a b c : Bool) → (not (a || b) && c) ≡ true → a ≡ false
first_new true b c e = absurd (cc e)
first_new false b c e = refl

all_come : (xs come : List Record) → Sorted xs → are_new xs come ≡ true → octets_of (united xs come) ≡ octets_of come + octets_of xs
all_come xs [] h e = omega arith
all_come xs (r ∷ rest) h e =
    let absent : has r xs ≡ false = first_new (has r xs) (list_any (λ s. has s xs) rest) (not (list_any (alike r) rest || has_twice rest)) e in
    let one = one_comes r xs absent in
    let others = all_come (put r xs) rest (sorted_put r xs h) (sym (new_next xs r rest absent) ∙ e) in
    let same : octets_of (united xs (r ∷ rest)) ≡ octets_of (united (put r xs) rest) = ap octets_of (united_next xs r rest h e) in
    omega (arith, one, others, same, octets_more r rest)

-- ---- a change that can be made
no_fault : (a b c : Bool) → ◌≡◌ {A = Option ChangeError} (if not a then Some WrongSoa else if not b then Some RemovesAbsent else if not c then Some AddsPresent else None) None → (b ≡ true) × (c ≡ true)
no_fault true true true e = (refl, refl)
no_fault true true false e = absurd (cc e)
no_fault true false c e = absurd (cc e)
no_fault false b c e = absurd (cc e)

-- What it removes and what it adds are counted once each.
pub counts_applied : (before : List Record) (c : Change) → Sorted before → change_fault c before ≡ None → Counts before (applied c before) c
counts_applied before c h e =
    let gone = c.old_soa ∷ c.removed in
    let come = c.new_soa ∷ c.added in
    let left = removed_from before (c.old_soa ∷ c.removed) in
    let both = no_fault (contains before c.old_soa) (are_present before (c.old_soa ∷ c.removed)) (are_new (removed_from before (c.old_soa ∷ c.removed)) (c.new_soa ∷ c.added)) e in
    record {
      kept = octets_of (removed_from before (c.old_soa ∷ c.removed));
      old = all_go before gone h both.0;
      new = all_come left come (sorted_filter (λ r. not (contains gone r)) before h) both.1;
    }
