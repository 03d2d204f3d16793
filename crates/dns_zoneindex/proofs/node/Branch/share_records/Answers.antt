use Rattle.std.proofs.Common.{ap, sym, ◌∙◌}
use Rattle.dns_zoneindex.specs.Entries.{here_of}
use Rattle.dns_zoneindex.specs.Children.{items}
use Rattle.dns_zoneindex.specs.Held.{held}
use Rattle.dns_zoneindex.proofs.Results.{if_ok}
use Rattle.dns_zoneindex.proofs.Under.{here_of-own}
use Rattle.dns_zoneindex.proofs.node.Branch.share_records.Goals as goal

pub returns : goal.returns
returns c =
    let i = c.self.inside in
    let own = sym (here_of-own (held i.records) (items i.children)) ∙ ap (λ x. here_of x.own) c.self.view_is in
    if_ok c.share.result (λ shared same. same ∙ own) c.share.ensures
