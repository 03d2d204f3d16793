use Rattle.std.proofs.Common.{◌≡◌, ◌++◌, ◌+◌, ◌≤◌, length, take}
use Rattle.std.specs.Prelude.{vec_capacity, vec_len}
use Rattle.dns_secondary.proofs.tail.push_copies.Given as goal

abbrev pub invariant-loop-record : goal.invariant-loop-record
invariant-loop-record l = record {
  so_far : l.out.items ≡ l.initial.out.items ++ take l.record-index l.records;
  room : vec_len l.initial.out + length l.records ≤ vec_capacity l.out;
}
