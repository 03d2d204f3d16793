use Rattle.dns_zoneindex.proofs.node.Children.+first.Given as goal

abbrev pub decreases-first : goal.decreases-first
decreases-first l = goal.size-first l
