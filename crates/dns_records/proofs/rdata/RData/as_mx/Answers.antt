use Rattle.std.proofs.Common.{sym, ◌∙◌}
use Rattle.dns_names.specs.Plain.{IsPlain}
use Rattle.dns_records.proofs.Readings.{mx_behind, mx_whole}
use Rattle.dns_records.proofs.rdata.RData.as_mx.Goals as goal
use Rattle.dns_records.proofs.rdata.RData.as_mx.Goals.{After-behind-1}

plain : (c : After-behind-1) → IsPlain c.in_ok-preference.behind.now
plain c = mx_behind c.args.self.now c.in_ok-preference.preference c.in_ok-preference.behind.now c.octets.ensures.valid (sym c.rtype.ensures ∙ c.if-rtype-ne-MX.false) (sym c.octets.ensures.octets ∙ c.in_ok-preference.ensures.found.1)

pub over-exchange-requires : goal.over-exchange-requires
over-exchange-requires c = plain c

pub returns : goal.returns
returns c =
    mx_whole c.args.self.now c.in_ok-preference.preference c.in_ok-preference.behind.now c.over-exchange.result (plain (goal.at.returns c).After-behind-1) (sym c.rtype.ensures ∙ c.if-rtype-ne-MX.false) (sym c.octets.ensures.octets ∙ c.in_ok-preference.ensures.found.1) c.over-exchange.ensures c.in_ok-preference.ensures.found.0
