use Rattle.std.proofs.Common.{◌∙◌, ap, sym}
use Rattle.std.specs.Option.{option_copied}
use Rattle.std.specs.Ordering.{is_lt}
use Rattle.dns_update.proofs.Halved.{above_first, none_above}
use Rattle.dns_update.proofs.owner_records.are_above.Goals as goal

pub returns-in-None : goal.returns-in-None
returns-in-None c = none_above c.args.one.now c.args.records.now (sym c.first.ensures.value ∙ ap option_copied c.in-None.is)

pub returns-in-Some : goal.returns-in-Some
returns-in-Some c = c.is_lt.ensures ∙ ap is_lt c.compare.ensures ∙ above_first c.args.one.now c.in-Some.first.now c.args.records.now c.requires (sym c.first.ensures.value ∙ ap option_copied c.in-Some.is)
