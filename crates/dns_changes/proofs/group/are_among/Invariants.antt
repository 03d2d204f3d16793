use Rattle.std.proofs.Common.{◌≡◌, drop}
use Rattle.std.specs.List.{list_all}
use Rattle.dns_zone.specs.Records.{contains}
use Rattle.dns_changes.proofs.group.are_among.Given as goal

abbrev pub invariant-loop-record : goal.invariant-loop-record
invariant-loop-record l = list_all (contains l.others) (drop l.record-index l.records) ≡ list_all (contains l.others) l.records
