use Rattle.std.proofs.Common.{◌≡◌, ◌++◌}
use Rattle.dns_secondary.proofs.reached.copies_of.Given as goal

abbrev pub invariant-loop-record : goal.invariant-loop-record
invariant-loop-record g l = ((goal.iterator-loop-record g).can_next l.record-iterator) × ((goal.iterator-loop-record g).is_finite l.record-iterator) × (l.copies.items ++ l.record-iterator ≡ g.I.ZoneIndex.records l.set)
