use Rattle.std.proofs.Common.{ap, sym, ◌∙◌}
use Rattle.dns_zoneindex.specs.Entries.{here_of}
use Rattle.dns_zoneindex.specs.Children.{items}
use Rattle.dns_zoneindex.specs.Held.{held}
use Rattle.dns_zoneindex.proofs.Under.{here_of-own}
use Rattle.dns_zoneindex.proofs.node.Branch.records.Goals as goal

pub returns-clause-own : goal.returns-clause-own
returns-clause-own c =
    c.as_slice.ensures
    ∙ sym (here_of-own (held c.self.inside.records) (items c.self.inside.children))
    ∙ ap (λ x. here_of x.own) c.self.view_is
