use Rattle.std.proofs.Common.{ap, ◌∙◌}
use Rattle.dns_names.specs.Name.{names_eq}
use Rattle.dns_zone.specs.Ancestry.{tied_same}
use Rattle.dns_update.proofs.item.ResourceRecord.is_owned_by.Goals as goal

pub returns : goal.returns
returns c = tied_same c.is.result c.lend.result c.args.name.now c.is.ensures.0 c.is.ensures.1 ∙ ap (λ n. names_eq n c.args.name.now) (c.lend.ensures ∙ c.owner.ensures)
