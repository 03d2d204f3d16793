use Rattle.std.proofs.Common.{◌≡◌, ◌≤◌, ◌-◌, true, length}
use Rattle.std.specs.List.{AllWithin}
use Rattle.dns_names.specs.Name.{names_eq}
use Rattle.dns_update.proofs.runs.count_named.Given as goal

abbrev pub invariant-named : goal.invariant-named
invariant-named l = record {
  inside : l.count ≤ length l.items;
  named : AllWithin (λ i. names_eq i.owner l.name ≡ true) l.items 0 l.count;
}

abbrev pub decreases-named : goal.decreases-named
decreases-named l = length l.items - l.count
