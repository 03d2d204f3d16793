-- Each item adds one record at most.
use Rattle.std.proofs.Common.{suc, ◌+◌, ◌≤◌, Bool, true, false, not, ◌&&◌, List, [], ◌∷◌, length, arith}
use Rattle.std.specs.Prelude.{filter, ◌==◌, if◌then◌else◌}
use Rattle.std.specs.List.{list_any}
use Rattle.std.specs.FinMap.Entries.{by_order}
use Rattle.std.specs.Ordering.{is_eq}
use Rattle.std.specs.declared.cmp.Ordering.{Ordering}
use Rattle.std.specs.declared.cmp.Ordering.TheVariants.{Less, Equal, Greater}
use Rattle.dns_names.specs.Name.{Labels}
use Rattle.dns_records.specs.Types.{type_cname, type_soa, class_in, class_any}
use Rattle.dns_records.specs.Record.{Record, record_cmp, serial_of, with_serial}
use Rattle.dns_zone.specs.Records.{put, without, owns_type}
use Rattle.dns_wire.specs.Message.{ResourceRecord}
use Rattle.dns_update.specs.ResourceRecord.{as_record}
use Rattle.dns_update.specs.Effect.{is_of, replaced, owns_other, succeeds, added, is_vital, deleted_set, is_spared, deleted, effect, effects}
use Rattle.dns_serial.specs.Serial.{next_serial}
use Rattle.dns_update.specs.Verdict.{with_next_serial}
use Rattle.dns_zone.proofs.Kept.{kept_most}

put_more : (r : Record) (xs : List Record) → length (put r xs) ≤ length xs + 1
put_more r [] = omega arith
put_more r (x ∷ xs) = at (record_cmp r x) (put_more r xs)
  where
    at : (o : Ordering) → length (put r xs) ≤ length xs + 1 → length (by_order o (r ∷ x ∷ xs) (r ∷ xs) (x ∷ put r xs)) ≤ suc (length xs) + 1
    at Less rest = omega arith
    at Equal rest = omega arith
    at Greater rest = omega arith

module _ (apex : Labels) (xs : List Record) where
  replaced_more : (r : Record) → length (replaced xs r) ≤ length xs + 1
  replaced_more r = let kept = kept_most (λ s. not (is_of r.owner r.rtype s)) xs in let more = put_more r (filter (λ s. not (is_of r.owner r.rtype s)) xs) in omega arith

  added_more : (r : Record) → length (added xs r) ≤ length xs + 1
  added_more r = at (r.rtype == type_cname) (owns_other xs r.owner type_cname) (owns_type xs r.owner type_cname) (r.rtype == type_soa) (list_any (succeeds r) xs)
    where
      at : (a b d e f : Bool) → length (if a then (if b then xs else replaced xs r) else if d then xs else if e then (if f then replaced xs r else xs) else put r xs) ≤ length xs + 1
      at true true d e f = omega arith
      at true false d e f = replaced_more r
      at false b true e f = omega arith
      at false b false true true = replaced_more r
      at false b false true false = omega arith
      at false b false false f = put_more r xs

  deleted_more : (r : Record) → length (deleted apex xs r) ≤ length xs + 1
  deleted_more r = at (is_spared apex xs r)
    where
      at : (a : Bool) → length (if a then xs else without r xs) ≤ length xs + 1
      at true = omega arith
      at false = let kept = kept_most (λ s. not (is_eq (record_cmp r s))) xs in omega arith

  effect_more : (i : ResourceRecord) → length (effect apex xs i) ≤ length xs + 1
  effect_more i = at (i.class == class_in) (i.class == class_any)
    where
      at : (a b : Bool) → length (if a then added xs (as_record i) else if b then deleted_set apex xs i.owner i.rtype else deleted apex xs (as_record i)) ≤ length xs + 1
      at true b = added_more (as_record i)
      at false true = (let kept = kept_most (λ r. not (is_of i.owner i.rtype r && not (is_vital apex r))) xs in omega arith)
      at false false = deleted_more (as_record i)

pub effects_more : (apex : Labels) (xs : List Record) (items : List ResourceRecord) → length (effects apex xs items) ≤ length xs + length items
effects_more apex xs [] = omega arith
effects_more apex xs (i ∷ rest) = let more = effect_more apex xs i in let others = effects_more apex (effect apex xs i) rest in omega arith

pub next_more : (ss xs : List Record) → length (with_next_serial ss xs) ≤ length xs + 1
next_more [] xs = omega arith
next_more (s ∷ ss) xs =
    let next = with_serial s (next_serial (serial_of s)) in
    let kept = kept_most (λ r. not (is_eq (record_cmp s r))) xs in
    let more = put_more next (without s xs) in omega arith
