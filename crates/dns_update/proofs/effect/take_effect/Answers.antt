use Rattle.std.proofs.Common.{sym, ◌∙◌}
use Rattle.dns_update.proofs.Forms.{fit}
use Rattle.dns_update.proofs.effect.take_effect.Goals as goal

pub to_record-requires-clause-rtype : goal.to_record-requires-clause-rtype
to_record-requires-clause-rtype g c = (fit c.args.apex.now c.args.item.now (sym c.class.ensures ∙ c.in-1.is) c.requires.passes c.requires.form).rtype

pub to_record-requires-clause-short : goal.to_record-requires-clause-short
to_record-requires-clause-short g c = (fit c.args.apex.now c.args.item.now (sym c.class.ensures ∙ c.in-1.is) c.requires.passes c.requires.form).short

pub to_record-requires-clause-form : goal.to_record-requires-clause-form
to_record-requires-clause-form g c = (fit c.args.apex.now c.args.item.now (sym c.class.ensures ∙ c.in-1.is) c.requires.passes c.requires.form).form
