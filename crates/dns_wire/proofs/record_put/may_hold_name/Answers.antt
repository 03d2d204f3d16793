use Rattle.std.proofs.Common.{sym, ap, ◌∙◌}
use Rattle.dns_records.specs.Types.{form}
use Rattle.dns_wire.proofs.FieldsPut.{nameless_rdata}
use Rattle.dns_wire.proofs.record_put.may_hold_name.Goals as goal

pub returns-in-Some : goal.returns-in-Some
returns-in-Some c none r places at typed = nameless_rdata places at r c.in-Some.fields.now (ap form typed ∙ c.in-Some.ensures.known) (sym c.have_name.ensures ∙ none)
