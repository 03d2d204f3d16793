use Rattle.std.proofs.Common.{length}
use Rattle.dns_zoneindex.proofs.node.Node.+under.Given as goal

abbrev pub decreases-under : goal.decreases-under
decreases-under l = length l.name.now
