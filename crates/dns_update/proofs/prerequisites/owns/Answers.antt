use Rattle.std.proofs.Common.{length, ap, ◌∙◌}
use Rattle.std.specs.Prelude.{◌==◌, not}
use Rattle.dns_zone.specs.Owned.{owns_none}
use Rattle.dns_zone.specs.Records.{owns}
use Rattle.dns_zone.proofs.Kept.{twice}
use Rattle.dns_update.proofs.prerequisites.owns.Goals as goal

pub returns : goal.returns
returns g c =
    let xs = g.I.ZoneIndex.records c.args.index.now in
    let name = c.args.name.now in
    ap not (c.is_empty.ensures ∙ ap (λ rs. length rs == 0) c.records_at.ensures ∙ owns_none xs name) ∙ twice (owns xs name)
