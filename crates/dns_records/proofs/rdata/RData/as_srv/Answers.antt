use Rattle.std.proofs.Common.{sym, ◌∙◌}
use Rattle.dns_names.specs.Plain.{IsPlain}
use Rattle.dns_records.proofs.Readings.{srv_octets, srv_behind, srv_whole}
use Rattle.dns_records.proofs.rdata.RData.as_srv.Goals as goal
use Rattle.dns_records.proofs.rdata.RData.as_srv.Goals.{After-behind-3-1}

plain : (c : After-behind-3-1) → IsPlain c.in_ok-port.behind.now
plain c =
    srv_behind c.args.self.now c.in_ok-priority.priority c.in_ok-weight.weight c.in_ok-port.port c.in_ok-port.behind.now c.octets.ensures.valid (sym c.rtype.ensures ∙ c.if-rtype-ne-SRV.false)
    (srv_octets _ _ _ _ _ _ _ (sym c.octets.ensures.octets ∙ c.in_ok-priority.ensures.found.1) c.in_ok-weight.ensures.found.1 c.in_ok-port.ensures.found.1)

pub over-target-requires : goal.over-target-requires
over-target-requires c = plain c

pub returns : goal.returns
returns c =
    srv_whole c.args.self.now c.in_ok-priority.priority c.in_ok-weight.weight c.in_ok-port.port c.in_ok-port.behind.now c.over-target.result (plain (goal.at.returns c).After-behind-3-1) (sym c.rtype.ensures ∙ c.if-rtype-ne-SRV.false)
    (srv_octets _ _ _ _ _ _ _ (sym c.octets.ensures.octets ∙ c.in_ok-priority.ensures.found.1) c.in_ok-weight.ensures.found.1 c.in_ok-port.ensures.found.1) c.over-target.ensures c.in_ok-priority.ensures.found.0 c.in_ok-weight.ensures.found.0 c.in_ok-port.ensures.found.0
