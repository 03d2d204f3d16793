use Rattle.std.proofs.Common.{length}
use Rattle.dns_zoneindex.proofs.group.+count_of.Given as goal

abbrev pub decreases-count_of : goal.decreases-count_of
decreases-count_of l = length l.slots.now
