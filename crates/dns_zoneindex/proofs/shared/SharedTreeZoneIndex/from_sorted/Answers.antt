use Rattle.std.proofs.Common.{◌≡◌, true, List, subst, sym, ◌∙◌}
use Rattle.std.specs.List.{AllByRecursion}
use Rattle.std.proofs.lemmas.Grind.{merely}
use Rattle.dns_records.specs.Record.{Record, IsRecord}
use Rattle.dns_zone.specs.Records.{is_ordered}
use Rattle.dns_zoneindex.proofs.Growth.{root_owned, root_records}
use Rattle.dns_zoneindex.proofs.shared.SharedTreeZoneIndex.from_sorted.Goals as goal

pub invariant_of-result : goal.invariant_of-result
invariant_of-result c =
    let tree = c.in_ok-from_sorted.field-0 in
    let sorted = c.args.sorted.items in
    let is = root_records tree sorted c.in_ok-from_sorted.ensures in
    record {
      each_at_owner = root_owned tree sorted c.in_ok-from_sorted.ensures;
      in_order = subst (λ (x : List Record). is_ordered x ≡ true) (sym is) c.requires;
      each_valid = merely (subst (AllByRecursion IsRecord) (c.deref.ensures.value ∙ sym is) c.are_valid.ensures);
    }

pub returns : goal.returns
returns c = root_records c.in_ok-from_sorted.field-0 c.args.sorted.items c.in_ok-from_sorted.ensures
