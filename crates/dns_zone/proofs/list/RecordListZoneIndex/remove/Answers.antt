use Rattle.std.proofs.Common.{◌≡◌, true, List, sym, subst, ◌∙◌}
use Rattle.std.specs.List.{AllByRecursion}
use Rattle.std.proofs.Math.Logic.{∥∥₁_map}
use Rattle.dns_records.specs.Record.{Record, IsRecord}
use Rattle.dns_zone.specs.Records.{is_ordered}
use Rattle.dns_zone.specs.Place.{IsRecordAt}
use Rattle.dns_zone.proofs.Listed.{without_ordered, without_valid}
use Rattle.dns_zone.proofs.list.RecordListZoneIndex.remove.Goals as goal

pub invariant_of-self : goal.invariant_of-self
invariant_of-self c =
    let old = c.args.self.now.items.items in
    let gone = c.args.removed.now in
    let found : IsRecordAt gone old c.in-Ok.at = subst (λ (xs : List Record). IsRecordAt gone xs c.in-Ok.at) c.deref.ensures.value c.in-Ok.ensures.found in
    let is = found.without_is ∙ sym c.remove.ensures.items in
    record {
      in_order = subst (λ (xs : List Record). is_ordered xs ≡ true) is (without_ordered gone old c.args.self.now.in_order);
      each_valid = ∥∥₁_map c.args.self.now.each_valid (λ h. subst (AllByRecursion IsRecord) is (without_valid gone old h));
    }
