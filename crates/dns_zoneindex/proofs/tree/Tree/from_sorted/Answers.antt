use Rattle.std.proofs.Common.{rules}
use Rattle.dns_zoneindex.proofs.Growth.{root_rising}
use Rattle.dns_zoneindex.proofs.tree.Tree.from_sorted.Goals as goal

pub grow-requires : goal.grow-requires
grow-requires c = record { some = search rules; order = root_rising c.args.sorted.items c.requires }
