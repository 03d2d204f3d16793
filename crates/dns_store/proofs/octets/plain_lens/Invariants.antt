use Rattle.std.proofs.Common.{◌≡◌, ◌*◌, ◌≤◌, take}
use Rattle.dns_store.specs.Plain.{octets_of}
use Rattle.dns_store.proofs.octets.plain_lens.Given as goal

abbrev pub invariant-loop-record : goal.invariant-loop-record
invariant-loop-record l = record {
  value : l.octets ≡ octets_of (take l.record-index l.records);
  short : l.octets ≤ 4359 * l.record-index;
}
