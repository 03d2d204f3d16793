use Rattle.std.proofs.Common.{ap, ◌∙◌}
use Rattle.dns_names.specs.Name.{names_eq}
use Rattle.dns_zone.specs.Ancestry.{tied_same}
use Rattle.dns_primary.proofs.admission.has_apex.Goals as goal

pub returns : goal.returns
returns g c = tied_same c.is.result c.lend.result c.args.apex.now c.is.ensures.0 c.is.ensures.1 ∙ ap (λ n. names_eq n c.args.apex.now) (c.lend.ensures ∙ c.apex.ensures.name)
