use Rattle.std.proofs.Common.{◌≡◌, ◌++◌, take}
use Rattle.dns_changes.proofs.group.push_copies.Given as goal

abbrev pub invariant-loop-record : goal.invariant-loop-record
invariant-loop-record l = l.all.items ≡ l.initial.all.items ++ take l.record-index l.records
