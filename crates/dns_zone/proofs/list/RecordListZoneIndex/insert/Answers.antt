use Rattle.std.proofs.Common.{◌≡◌, Bool, true, false, List, sym, subst}
use Rattle.std.specs.Prelude.{if◌then◌else◌, insert, is_ok}
use Rattle.std.specs.List.{AllByRecursion}
use Rattle.std.proofs.Math.Logic.{∥∥₁_map}
use Rattle.dns_records.specs.Record.{Record, IsRecord}
use Rattle.dns_zone.specs.Records.{is_ordered}
use Rattle.dns_zone.specs.Place.{IsRecordAt, BelongsAt}
use Rattle.dns_zone.proofs.Listed.{put_ordered, put_valid}
use Rattle.dns_zone.proofs.list.RecordListZoneIndex.insert.Goals as goal

pub invariant_of-self : goal.invariant_of-self
invariant_of-self c =
    let old = c.args.self.now.items.items in
    let found : IsRecordAt c.args.added old c.in-Ok.at = subst (λ (xs : List Record). IsRecordAt c.args.added xs c.in-Ok.at) c.deref.ensures.value c.in-Ok.ensures.found in
    record {
      in_order = subst (λ (xs : List Record). is_ordered xs ≡ true) found.put_is (put_ordered c.args.added old c.args.self.now.in_order);
      each_valid = ∥∥₁_map c.args.self.now.each_valid (λ h. subst (AllByRecursion IsRecord) found.put_is (put_valid c.args.added old c.rdata-valid.ensures.valid h));
    }

either : (P : List Record → Type 0) (b : Bool) (xs ys : List Record) → P xs → P ys → P (if b then xs else ys)
either P true xs ys h k = h
either P false xs ys h k = k

pub invariant_of-self-in-Err : goal.invariant_of-self-in-Err
invariant_of-self-in-Err c =
    let old = c.args.self.now.items.items in
    let at = c.in-Err.at in
    let absent : BelongsAt c.args.added old at = subst (λ (xs : List Record). BelongsAt c.args.added xs at) c.deref.ensures.value c.in-Err.ensures.absent in
    let more = insert old at c.args.added in
    let ok = is_ok c.insert.result in
    let put_in : is_ordered more ≡ true = subst (λ (xs : List Record). is_ordered xs ≡ true) absent.put_is (put_ordered c.args.added old c.args.self.now.in_order) in
    record {
      in_order = subst (λ (xs : List Record). is_ordered xs ≡ true) (sym c.insert.ensures.items) (either (λ xs. is_ordered xs ≡ true) ok more old put_in c.args.self.now.in_order);
      each_valid = ∥∥₁_map c.args.self.now.each_valid (λ h. subst (AllByRecursion IsRecord) (sym c.insert.ensures.items) (either (AllByRecursion IsRecord) ok more old (subst (AllByRecursion IsRecord) absent.put_is (put_valid c.args.added old c.rdata-valid.ensures.valid h)) h));
    }
