use Rattle.std.proofs.Common.{◌≤◌, length, drop}
use Rattle.dns_zoneindex.specs.Reach.{LeadsIn}
use Rattle.dns_zoneindex.proofs.descent.find_node.Given as goal

abbrev pub invariant-labels : goal.invariant-labels
invariant-labels l = (l.left ≤ length l.name) × LeadsIn l.apex l.root.own (drop l.left l.name) l.node.own

abbrev pub decreases-labels : goal.decreases-labels
decreases-labels l = l.left
