use Rattle.std.proofs.Common.{subst}
use Rattle.dns_records.specs.Record.{IsRecord}
use Rattle.dns_wire.proofs.reply.ReplyRecord.rdata.Goals as goal

pub returns-clause-valid : goal.returns-clause-valid
returns-clause-valid c =
    let s = c.self.inside in
    let h = c.rdata.ensures.valid in
    let made : IsRecord (record { owner = s.owner; rtype = s.record.now.rtype; ttl = s.ttl; rdata = s.record.now.rdata }) = record { owner = c.as_wire-owner.ensures.valid; rtype = h.rtype; ttl = c.self.invariant; octets = h.octets; short = h.short; rdata = h.rdata } in
    subst IsRecord c.self.view_is made
