use Rattle.std.proofs.Common.{ap, sym, ◌∙◌}
use Rattle.dns_zoneindex.specs.Tree.{entries}
use Rattle.dns_zoneindex.proofs.Reaching.{end_empty}
use Rattle.dns_zoneindex.proofs.tree.Tree.find_node.Goals as goal

pub returns-in-Empty : goal.returns-in-Empty
returns-in-Empty c = end_empty c.args.apex.now c.args.self.now c.args.name.now (sym c.self.view_is ∙ ap entries c.in-Empty.is)
