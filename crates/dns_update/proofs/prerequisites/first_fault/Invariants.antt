use Rattle.std.proofs.Common.{◌≡◌, drop}
use Rattle.dns_update.specs.ResourceRecord.{first_fault}
use Rattle.dns_update.specs.Prerequisites.{prerequisite_fault}
use Rattle.dns_update.proofs.prerequisites.first_fault.Given as goal

abbrev pub invariant-loop-item : goal.invariant-loop-item
invariant-loop-item g l = first_fault (prerequisite_fault l.zone) l.items ≡ first_fault (prerequisite_fault l.zone) (drop l.item-index l.items)
