use Rattle.std.proofs.Common.{ap, ◌∙◌}
use Rattle.dns_names.specs.Name.{under}
use Rattle.dns_zone.specs.Ancestry.{tied_under}
use Rattle.dns_zone.proofs.sorting.stands_under.Goals as goal

pub returns : goal.returns
returns c = tied_under c.is_under.result c.lend.result c.args.apex.now c.is_under.ensures.0 c.is_under.ensures.1 ∙ ap (λ a. under a c.args.apex.now) (c.lend.ensures ∙ c.owner.ensures)
