use Rattle.std.proofs.Common.{◌≡◌, drop}
use Rattle.dns_update.specs.ResourceRecord.{first_fault}
use Rattle.dns_update.specs.Prescan.{prescan_fault}
use Rattle.dns_update.proofs.prescan.prescan.Given as goal

abbrev pub invariant-loop-item : goal.invariant-loop-item
invariant-loop-item l = first_fault (prescan_fault l.apex) l.items ≡ first_fault (prescan_fault l.apex) (drop l.item-index l.items)
