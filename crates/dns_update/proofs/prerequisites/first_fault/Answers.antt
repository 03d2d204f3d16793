use Rattle.std.proofs.Common.{sym, ◌∙◌}
use Rattle.dns_update.specs.Prerequisites.{prerequisite_fault}
use Rattle.dns_update.proofs.ResourceRecords.{fault_stops}
use Rattle.dns_update.proofs.prerequisites.first_fault.Goals as goal

pub returns-then-is_some : goal.returns-then-is_some
returns-then-is_some g c =
    fault_stops (prerequisite_fault c.args.zone.now) c.args.items.now c.loop-item.item-index c.item-item.result c.prerequisite_fault-fault.result c.loop-item-test.true c.item-item.is c.prerequisite_fault-fault.ensures (sym c.is_some.ensures ∙ c.if-is_some.true) c.loop-item.invariant
