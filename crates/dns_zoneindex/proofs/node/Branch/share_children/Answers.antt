use Rattle.std.proofs.Common.{◌++◌, map, ap, sym, ◌∙◌}
use Rattle.dns_zoneindex.specs.Entries.{here, here_of, flat}
use Rattle.dns_zoneindex.specs.Children.{items}
use Rattle.dns_zoneindex.specs.Held.{held}
use Rattle.dns_zoneindex.proofs.Results.{if_ok}
use Rattle.dns_zoneindex.proofs.Under.{here_of-own}
use Rattle.dns_zoneindex.proofs.node.Branch.share_children.Goals as goal

pub returns-clause-own : goal.returns-clause-own
returns-clause-own c =
    let i = c.self.inside in
    let own = sym (here_of-own (held i.records) (items i.children)) ∙ ap (λ x. here_of x.own) c.self.view_is in
    if_ok c.share.result
    (λ children same. ap (λ x. x.own) (sym c.self.view_is) ∙ ap (λ z. map here z ++ flat (items i.children)) own ∙ ap (λ z. map here (here_of c.args.self.now.own) ++ flat z) (sym same))
    c.share.ensures
