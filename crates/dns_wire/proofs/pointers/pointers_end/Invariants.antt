use Rattle.std.proofs.Common.{◌≤◌}
use Rattle.dns_wire.specs.Pointers.{PointsTo}
use Rattle.dns_wire.proofs.pointers.pointers_end.Given as goal

abbrev pub invariant-pointers : goal.invariant-pointers
invariant-pointers l = record {
  back : l.run ≤ l.at;
  leads : PointsTo l.message l.at l.run;
}

abbrev pub decreases-pointers : goal.decreases-pointers
decreases-pointers l = l.run
