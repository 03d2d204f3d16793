use Rattle.std.proofs.Common.{length}
use Rattle.dns_secondary.specs.State.{State}
use Rattle.dns_secondary.specs.Rest.{Reaches, FailsBy}
use Rattle.dns_secondary.specs.declared.fault.Fault.{Fault}
use Rattle.dns_secondary.proofs.reading.Reading.take_all.Given as goal

abbrev pub invariant-records : goal.invariant-records
invariant-records g l = record {
  ahead : (next : State) → Reaches l.fn.apex l.fn.held l.reading l.copied next → Reaches l.fn.apex l.fn.held l.fn.self l.initial.copied next;
  fails : (fault : Fault) → FailsBy l.fn.apex l.fn.held l.reading l.copied fault → FailsBy l.fn.apex l.fn.held l.fn.self l.initial.copied fault;
}

abbrev pub decreases-records : goal.decreases-records
decreases-records g l = length l.copied
