use Rattle.std.proofs.Common.{length}
use Rattle.dns_zoneindex.proofs.node.Node.+with_records.Given as goal

abbrev pub decreases-with_records : goal.decreases-with_records
decreases-with_records l = length l.path.now
