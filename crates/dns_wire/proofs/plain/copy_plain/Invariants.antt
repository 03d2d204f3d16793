use Rattle.std.proofs.Common.{◌≤◌, length}
use Rattle.dns_wire.specs.Pointers.{AreEnds}
use Rattle.dns_wire.specs.Viewed.{labels_at}
use Rattle.dns_wire.proofs.Copying.{Copied}
use Rattle.dns_wire.proofs.plain.copy_plain.Given as goal

abbrev pub invariant-runs : goal.invariant-runs
invariant-runs l = record {
  inside : l.run ≤ length l.message;
  small : l.size ≤ 254;
  room : 255 ≤ length l.out;
  few : length l.ends ≤ 16384;
  known : AreEnds l.message l.ends;
  copied : Copied l.message l.out l.run l.size (labels_at l.message l.at);
}

abbrev pub decreases-runs : goal.decreases-runs
decreases-runs l = l.run
