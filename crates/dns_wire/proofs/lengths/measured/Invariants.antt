use Rattle.std.proofs.Common.{◌≤◌, ◌-◌, length}
use Rattle.dns_wire.specs.declared.ReadError.{ReadError}
use Rattle.dns_wire.specs.Refusals.{NameRefused}
use Rattle.dns_wire.proofs.Names.{Leaves}
use Rattle.dns_wire.proofs.Measures.{Reaches}
use Rattle.dns_wire.proofs.lengths.measured.Given as goal

abbrev pub invariant-runs : goal.invariant-runs
invariant-runs l = record {
  inside : l.run ≤ length l.message;
  small : l.size ≤ l.room;
  reaches : Reaches l.message l.first l.run l.size;
  leaves : Leaves l.message l.first l.run l.size;
  causes : (e : ReadError) → NameRefused l.message e l.run (l.room - l.size) → NameRefused l.message e l.first l.room;
}

abbrev pub decreases-runs : goal.decreases-runs
decreases-runs l = l.run
