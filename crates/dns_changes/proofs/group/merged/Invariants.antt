use Rattle.std.proofs.Common.{◌≡◌, ◌++◌, true, drop}
use Rattle.dns_zone.specs.Records.{is_ordered, united}
use Rattle.dns_changes.proofs.group.merged.Given as goal

abbrev pub invariant-loop-record : goal.invariant-loop-record
invariant-loop-record l = record {
  whole : l.all.items ++ united l.rest (drop l.record-index l.come) ≡ united l.records l.come;
  order : is_ordered l.rest ≡ true;
}
