use Rattle.std.proofs.Common.{◌≡◌, ◌+◌, ◌*◌, ◌≤◌, length, take}
use Rattle.std.specs.List.{AllByRecursion, flat_map}
use Rattle.dns_records.specs.Record.{IsRecord, plain}
use Rattle.dns_changes.proofs.entry.counted_len.Given as goal

abbrev pub invariant-loop-record : goal.invariant-loop-record
invariant-loop-record l = record {
  value : l.octets ≡ 4 + length (flat_map plain (take l.record-index l.records));
  valid : AllByRecursion IsRecord (take l.record-index l.records);
  short : l.octets ≤ 4 + 4359 * l.record-index;
}
