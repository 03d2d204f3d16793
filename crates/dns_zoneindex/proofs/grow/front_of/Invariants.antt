use Rattle.std.proofs.Common.{length}
use Rattle.dns_zoneindex.proofs.Growth.{IsFollowed}
use Rattle.dns_zoneindex.proofs.grow.front_of.Given as goal

abbrev pub invariant-front : goal.invariant-front
invariant-front l = IsFollowed l.depth l.label l.records l.front

abbrev pub decreases-front : goal.decreases-front
decreases-front l = length l.front
