use Rattle.dns_zoneindex.proofs.node.Children.+last.Given as goal

abbrev pub decreases-last : goal.decreases-last
decreases-last l = goal.size-last l
