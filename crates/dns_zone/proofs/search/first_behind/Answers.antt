use Rattle.std.proofs.Common.{◌≡◌, ℕ, ◌≤◌, ◌<◌, inl, inr, true, false, List, length, get_or, refl, sym, ap, ◌∙◌, arith}
use Rattle.std.specs.Prelude.{Some}
use Rattle.std.specs.List.{AllWithin}
use Rattle.std.specs.Ordering.{is_lt, is_eq, is_gt}
use Rattle.std.specs.declared.cmp.Ordering.{Ordering}
use Rattle.std.specs.declared.cmp.Ordering.TheVariants.{Less, Equal, Greater}
use Rattle.std.proofs.lemmas.Option.{slice_get_past, slice_get-get_or}
use Rattle.dns_records.specs.Record.{Record, record_cmp}
use Rattle.dns_zone.proofs.Searching.{told_nat, above, not_past_equal}
use Rattle.dns_zone.proofs.Listed.{next_is}
use Rattle.dns_zone.proofs.search.first_behind.Goals as goal

less_low : (o : Ordering) → is_lt o ≡ true → is_gt o ≡ false
less_low Less e = refl
less_low Equal e = absurd cc
less_low Greater e = absurd cc

through : (side : Record → Ordering) (xs : List Record) (begin end : ℕ) → AllWithin (λ r. is_lt (side r) ≡ true) xs 0 begin → AllWithin (λ r. is_eq (side r) ≡ true) xs begin end → AllWithin (λ r. is_gt (side r) ≡ false) xs 0 end
through side xs begin end before here = λ k d from to. elim (told_nat k begin) [
  | inl lt ↦ less_low (side (get_or xs k d)) (before k d from lt)
  | inr ge ↦ not_past_equal (side (get_or xs k d)) (here k d ge to)
]

beyond : (side : Record → Ordering) (xs : List Record) (begin end : ℕ) → begin ≤ end → AllWithin (λ r. is_lt (side r) ≡ false) xs begin (length xs) → AllWithin (λ r. is_eq (side r) ≡ false) xs end (length xs) → AllWithin (λ r. is_gt (side r) ≡ true) xs end (length xs)
beyond side xs begin end order behind past = λ k d from to. above (side (get_or xs k d)) (behind k d (omega arith) to) (past k d from to)

pub returns-then-end-records : goal.returns-then-end-records
returns-then-end-records c =
    let records = c.args.records.now in
    let after = c.args.after.now in
    let begin = c.count_before-begin in
    let end = c.end_of_match-end in
    let there = c.index-records-end.result in
    let inside : end.result < length records = omega arith in
    ap (λ r. Some r) c.index-records-end.is ∙ sym (slice_get-get_or records end.result there inside)
    ∙ next_is after records end.result end.ensures.bound (through (λ r. record_cmp r after) records begin.result end.result begin.ensures.before end.ensures.here) (beyond (λ r. record_cmp r after) records begin.result end.result end.ensures.from begin.ensures.behind end.ensures.past)

pub returns : goal.returns
returns c =
    let records = c.args.records.now in
    let after = c.args.after.now in
    let begin = c.count_before-begin in
    let end = c.end_of_match-end in
    let past : length records ≤ end.result = omega arith in
    sym (slice_get_past records end.result past)
    ∙ next_is after records end.result end.ensures.bound (through (λ r. record_cmp r after) records begin.result end.result begin.ensures.before end.ensures.here) (beyond (λ r. record_cmp r after) records begin.result end.result end.ensures.from begin.ensures.behind end.ensures.past)
