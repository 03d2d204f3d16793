use Rattle.std.proofs.Common.{ap, ◌∙◌}
use Rattle.dns_names.specs.Name.{under}
use Rattle.dns_zone.specs.Ancestry.{tied_under}
use Rattle.dns_update.proofs.item.ResourceRecord.is_in_zone.Goals as goal

pub returns : goal.returns
returns c = tied_under c.is_under.result c.owner.result.now c.args.apex.now c.is_under.ensures.0 c.is_under.ensures.1 ∙ ap (λ n. under n c.args.apex.now) c.owner.ensures
