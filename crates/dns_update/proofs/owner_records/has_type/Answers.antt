use Rattle.std.proofs.Common.{length, sym, ap, ◌∙◌}
use Rattle.std.specs.Prelude.{◌==◌, not}
use Rattle.dns_zone.specs.Owned.{owns_no_type}
use Rattle.dns_zone.specs.Records.{owns_type}
use Rattle.dns_zone.proofs.Kept.{twice}
use Rattle.dns_update.proofs.AtOwner.{owned_is}
use Rattle.dns_update.proofs.owner_records.has_type.Goals as goal

pub returns : goal.returns
returns c =
    let xs = c.args.records.now in
    let name = c.args.name.now in
    let t = c.args.rtype in
    let typed = c.of_type.ensures xs name c.requires.order (sym (owned_is name xs c.requires.owned)) in
    ap not (c.is_empty.ensures ∙ ap (λ rs. length rs == 0) typed ∙ owns_no_type xs name t) ∙ twice (owns_type xs name t)
