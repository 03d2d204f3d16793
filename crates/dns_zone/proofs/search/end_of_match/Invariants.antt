use Rattle.std.proofs.Common.{◌-◌, ◌≡◌, ◌≤◌, true, false, length}
use Rattle.std.specs.List.{AllWithin}
use Rattle.std.specs.Ordering.{is_eq}
use Rattle.dns_zone.specs.Side.{side_of}
use Rattle.dns_zone.proofs.search.end_of_match.Given as goal

abbrev pub invariant-matches : goal.invariant-matches
invariant-matches l = record {
  from : l.begin ≤ l.low;
  met : l.low ≤ l.high;
  inside : l.high ≤ length l.records;
  here : AllWithin (λ r. is_eq (side_of l.key r) ≡ true) l.records l.begin l.low;
  past : AllWithin (λ r. is_eq (side_of l.key r) ≡ false) l.records l.high (length l.records);
}

abbrev pub decreases-matches : goal.decreases-matches
decreases-matches l = l.high - l.low
