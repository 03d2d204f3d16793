use Rattle.std.proofs.Common.{◌≡◌, ◌++◌, drop}
use Rattle.dns_zone.proofs.laws.copies_from.Given as goal

abbrev pub invariant-loop-record : goal.invariant-loop-record
invariant-loop-record g l = ((goal.iterator-loop-record g).can_next l.record-iterator) × ((goal.iterator-loop-record g).is_finite l.record-iterator) × (l.items.items ++ l.record-iterator ≡ drop l.position (g.I.ZoneIndex.records l.index))
