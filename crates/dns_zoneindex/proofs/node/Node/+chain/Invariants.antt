use Rattle.std.proofs.Common.{length}
use Rattle.dns_zoneindex.proofs.node.Node.+chain.Given as goal

abbrev pub decreases-chain : goal.decreases-chain
decreases-chain l = length l.path.now
