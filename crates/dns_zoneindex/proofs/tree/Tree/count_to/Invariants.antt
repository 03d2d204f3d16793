use Rattle.std.proofs.Common.{◌-◌, ◌≡◌, ◌≤◌, true, false, length}
use Rattle.std.specs.List.{AllWithin}
use Rattle.std.specs.Ordering.{is_gt}
use Rattle.dns_records.specs.Record.{record_cmp}
use Rattle.dns_zoneindex.specs.Owned.{path_records}
use Rattle.dns_zoneindex.proofs.tree.Tree.count_to.Given as goal

abbrev pub invariant-places : goal.invariant-places
invariant-places l = record {
  met : l.low ≤ l.high;
  inside : l.high ≤ length (path_records l.self);
  before : AllWithin (λ r. is_gt (record_cmp r l.after) ≡ false) (path_records l.self) 0 l.low;
  behind : AllWithin (λ r. is_gt (record_cmp r l.after) ≡ true) (path_records l.self) l.high (length (path_records l.self));
}

abbrev pub decreases-places : goal.decreases-places
decreases-places l = l.high - l.low
