use Rattle.std.proofs.Common.{sym, ◌∙◌}
use Rattle.dns_update.specs.Prescan.{prescan_fault}
use Rattle.dns_update.proofs.ResourceRecords.{fault_stops}
use Rattle.dns_update.proofs.prescan.prescan.Goals as goal

pub returns-then-is_some : goal.returns-then-is_some
returns-then-is_some c =
    fault_stops (prescan_fault c.args.apex.now) c.args.items.now c.loop-item.item-index c.item-item.result c.prescan_fault-fault.result c.loop-item-test.true c.item-item.is c.prescan_fault-fault.ensures (sym c.is_some.ensures ∙ c.if-is_some.true) c.loop-item.invariant
