use Rattle.std.proofs.Common.{ap, ◌∙◌}
use Rattle.std.specs.Prelude.{◌&&◌, ◌==◌}
use Rattle.dns_names.specs.Name.{names_eq}
use Rattle.dns_zone.specs.Ancestry.{tied_same}
use Rattle.dns_zone.proofs.sorting.is_of.Goals as goal

pub returns : goal.returns
returns c =
    let owner = tied_same c.is.result c.lend.result c.args.owner.now c.is.ensures.0 c.is.ensures.1 ∙ ap (λ n. names_eq n c.args.owner.now) (c.lend.ensures ∙ c.owner.ensures) in
    λ i. owner i && (c.rtype.ensures i == c.args.rtype)
