use Rattle.std.proofs.Common.{◌≡◌, drop}
use Rattle.std.specs.List.{list_any}
use Rattle.dns_zone.specs.Records.{has}
use Rattle.dns_changes.proofs.group.are_apart.Given as goal

abbrev pub invariant-loop-record : goal.invariant-loop-record
invariant-loop-record l = list_any (λ r. has r l.others) (drop l.record-index l.records) ≡ list_any (λ r. has r l.others) l.records
