use Rattle.std.proofs.Common.{◌≤◌, length}
use Rattle.dns_wire.specs.Lengths.{IsMeasured, AreLengths}
use Rattle.dns_wire.proofs.lengths.keep_lengths.Given as goal

abbrev pub invariant-targets : goal.invariant-targets
invariant-targets l = record {
  inside : l.run ≤ length l.message;
  short : l.left ≤ 255;
  name : IsMeasured l.message l.run l.left;
  known : AreLengths l.message l.lengths;
}

abbrev pub decreases-targets : goal.decreases-targets
decreases-targets l = l.run
