use Rattle.std.proofs.Common.{ap, sym, ◌∙◌, reverse}
use Rattle.dns_zoneindex.specs.Entries.{below}
use Rattle.dns_zoneindex.specs.Tree.{entries}
use Rattle.dns_zoneindex.proofs.Under.{below-none}
use Rattle.dns_zoneindex.proofs.tree.Tree.at.Goals as goal

pub returns-in-Empty : goal.returns-in-Empty
returns-in-Empty c =
    sym (below-none (reverse c.args.name.now))
    ∙ ap (below (reverse c.args.name.now)) (sym (ap entries c.in-Empty.is) ∙ c.self.view_is)
