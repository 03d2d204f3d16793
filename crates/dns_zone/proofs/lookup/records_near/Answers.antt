use Rattle.std.proofs.Common.{ap, ◌∙◌}
use Rattle.std.specs.Prelude.{filter}
use Rattle.std.specs.Ordering.{is_eq}
use Rattle.dns_names.specs.Name.{name_cmp}
use Rattle.dns_zone.proofs.Listed.{owned_is}
use Rattle.dns_zone.proofs.lookup.records_near.Goals as goal

pub returns : goal.returns
returns c = c.matching.ensures ∙ ap (λ name. filter (λ r. is_eq (name_cmp r.owner name)) c.args.records.now) c.reborrow.ensures ∙ owned_is c.args.name.now c.args.records.now
