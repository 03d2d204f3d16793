use Rattle.std.proofs.Common.{length}
use Rattle.dns_zoneindex.proofs.path.+path_of.Given as goal

abbrev pub decreases-path_of : goal.decreases-path_of
decreases-path_of l = length l.name.now
