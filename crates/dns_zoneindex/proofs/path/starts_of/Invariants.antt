use Rattle.std.proofs.Common.{length}
use Rattle.dns_zoneindex.proofs.Starts.{IsWalked}
use Rattle.dns_zoneindex.proofs.path.starts_of.Given as goal

abbrev pub invariant-labels : goal.invariant-labels
invariant-labels l = IsWalked l.name l.rest l.starts l.count

abbrev pub decreases-labels : goal.decreases-labels
decreases-labels l = length l.rest
