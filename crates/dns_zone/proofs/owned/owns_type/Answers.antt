use Rattle.std.proofs.Common.{length, ap, ◌∙◌}
use Rattle.std.specs.Prelude.{◌==◌, not}
use Rattle.dns_zone.specs.Owned.{owns_no_type}
use Rattle.dns_zone.specs.Records.{owns_type}
use Rattle.dns_zone.proofs.Kept.{twice}
use Rattle.dns_zone.proofs.owned.owns_type.Goals as goal

pub returns : goal.returns
returns g c =
    let xs = g.I.ZoneIndex.records c.args.set.now in
    let name = c.args.name.now in
    let t = c.args.rtype in
    ap not (c.is_empty.ensures ∙ ap (λ rs. length rs == 0) c.rrset.ensures ∙ owns_no_type xs name t) ∙ twice (owns_type xs name t)
