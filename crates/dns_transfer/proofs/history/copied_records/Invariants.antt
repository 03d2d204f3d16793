use Rattle.std.proofs.Common.{◌≡◌, ◌≤◌, length, take}
use Rattle.std.specs.Prelude.{vec_capacity}
use Rattle.dns_transfer.proofs.history.copied_records.Given as goal

abbrev pub invariant-loop-record : goal.invariant-loop-record
invariant-loop-record l = record {
  so_far : l.copies.items ≡ take l.record-index l.records;
  room : length l.records ≤ vec_capacity l.copies;
}
