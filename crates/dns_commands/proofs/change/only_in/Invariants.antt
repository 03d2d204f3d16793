use Rattle.std.proofs.Common.{◌≡◌, ◌++◌}
use Rattle.dns_changes.specs.Change.{only_in}
use Rattle.dns_commands.proofs.change.only_in.Given as goal

abbrev pub invariant-loop-record : goal.invariant-loop-record
invariant-loop-record g l = record {
  can : (goal.iterator-loop-record g).can_next l.record-iterator;
  ends : (goal.iterator-loop-record g).is_finite l.record-iterator;
  gathered : l.lone.items ++ only_in l.record-iterator l.other.records ≡ only_in l.zone.records l.other.records;
}
