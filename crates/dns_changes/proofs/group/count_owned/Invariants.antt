use Rattle.std.proofs.Common.{◌≡◌, ◌≤◌, ◌-◌, true, length}
use Rattle.std.specs.List.{AllWithin}
use Rattle.dns_names.specs.Name.{names_eq}
use Rattle.dns_changes.proofs.group.count_owned.Given as goal

abbrev pub invariant-owned : goal.invariant-owned
invariant-owned l = record {
  inside : l.count ≤ length l.records;
  owned : AllWithin (λ r. names_eq r.owner l.name ≡ true) l.records 0 l.count;
}

abbrev pub decreases-owned : goal.decreases-owned
decreases-owned l = length l.records - l.count
