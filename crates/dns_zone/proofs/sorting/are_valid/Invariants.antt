use Rattle.std.proofs.Common.{take}
use Rattle.std.specs.List.{AllByRecursion}
use Rattle.dns_records.specs.Record.{IsRecord}
use Rattle.dns_zone.proofs.sorting.are_valid.Given as goal

abbrev pub invariant-loop-record : goal.invariant-loop-record
invariant-loop-record l = AllByRecursion IsRecord (take l.record-index l.records)
