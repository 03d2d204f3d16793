use Rattle.std.proofs.Common.{◌-◌, ◌≡◌, ◌≤◌, true, false, length}
use Rattle.std.specs.List.{AllWithin}
use Rattle.std.specs.Ordering.{is_lt}
use Rattle.dns_zone.specs.Side.{side_of}
use Rattle.dns_zone.proofs.search.count_before.Given as goal

abbrev pub invariant-places : goal.invariant-places
invariant-places l = record {
  met : l.low ≤ l.high;
  inside : l.high ≤ length l.records;
  before : AllWithin (λ r. is_lt (side_of l.key r) ≡ true) l.records 0 l.low;
  behind : AllWithin (λ r. is_lt (side_of l.key r) ≡ false) l.records l.high (length l.records);
}

abbrev pub decreases-places : goal.decreases-places
decreases-places l = l.high - l.low
