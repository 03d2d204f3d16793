use Rattle.std.proofs.Common.{◌≡◌, length, drop}
use Rattle.dns_transfer.specs.Records.{all_but_soa}
use Rattle.dns_transfer.proofs.unsent.next_other.Given as goal

abbrev pub invariant-records : goal.invariant-records
invariant-records g l = record {
  ready : l.ready ≡ drop l.at (g.I.ZoneIndex.records l.index);
  left : all_but_soa l.initial.ready ≡ all_but_soa l.ready;
}

abbrev pub decreases-records : goal.decreases-records
decreases-records g l = length l.ready
