use Rattle.dns_zoneindex.proofs.grow.+label_behind.Given as goal

abbrev pub decreases-label_behind : goal.decreases-label_behind
decreases-label_behind l = l.skipped
