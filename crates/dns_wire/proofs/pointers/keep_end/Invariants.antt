use Rattle.std.proofs.Common.{◌≤◌, ℕ, length}
use Rattle.dns_names.specs.Name.{Labels}
use Rattle.dns_wire.specs.NameAt.{NameAt}
use Rattle.dns_wire.specs.Pointers.{PointsTo, AreEnds}
use Rattle.dns_wire.proofs.pointers.keep_end.Given as goal

abbrev pub invariant-pointers : goal.invariant-pointers
invariant-pointers l = record {
  back : l.run ≤ l.at;
  name : (name : Labels) × (stop : ℕ) × NameAt l.message l.run name stop;
  leads : PointsTo l.message l.run l.end;
  few : length l.ends ≤ 16384;
  known : AreEnds l.message l.ends;
}

abbrev pub decreases-pointers : goal.decreases-pointers
decreases-pointers l = l.run
