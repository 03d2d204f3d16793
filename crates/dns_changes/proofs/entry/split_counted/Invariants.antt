use Rattle.std.proofs.Common.{◌≡◌, ◌+◌, length}
use Rattle.dns_changes.proofs.Entries.{IsRead}
use Rattle.dns_changes.proofs.entry.split_counted.Given as goal

abbrev pub invariant-records : goal.invariant-records
invariant-records l = record {
  read : IsRead l.initial.rest l.records.items l.rest;
  size : length l.records.items + l.left ≡ l.count;
}

abbrev pub decreases-records : goal.decreases-records
decreases-records l = l.left
