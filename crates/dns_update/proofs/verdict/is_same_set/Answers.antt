use Rattle.std.proofs.Common.{◌∙◌}
use Rattle.dns_zone.specs.Sets.{sorted_from}
use Rattle.dns_update.proofs.Aside.{same_by_name}
use Rattle.dns_update.proofs.verdict.is_same_set.Goals as goal

pub returns : goal.returns
returns g c =
    let a = g.I.ZoneIndex.records c.args.a.now in
    let b = g.I.ZoneIndex.records c.args.b.now in
    c.own_same.ensures ∙ same_by_name c.args.names.now a b c.requires (sorted_from a (g.met.I.ZoneIndex.ordered c.args.a.now)) (sorted_from b (g.met.I.ZoneIndex.ordered c.args.b.now))
