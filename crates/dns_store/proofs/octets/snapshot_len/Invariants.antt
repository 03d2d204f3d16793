use Rattle.std.proofs.Common.{◌≡◌, ◌≤◌, ◌+◌, ◌*◌, length}
use Rattle.dns_store.specs.Plain.{octets_of}
use Rattle.dns_store.proofs.octets.snapshot_len.Given as goal

abbrev pub invariant-loop-record : goal.invariant-loop-record
invariant-loop-record g l = record {
  next : (goal.iterator-loop-record g).can_next l.record-iterator;
  finite : (goal.iterator-loop-record g).is_finite l.record-iterator;
  value : l.octets + octets_of l.record-iterator ≡ octets_of l.initial.zone.records;
  short : l.octets + 4359 * length l.record-iterator ≤ 4359 * 65536;
}
