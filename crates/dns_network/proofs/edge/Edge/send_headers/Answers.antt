use Rattle.std.proofs.Common.{[], refl}
use Rattle.std.specs.declared.net.ip_addr.IpAddr.TheVariants.{V4}
use Rattle.dns_wire.specs.declared.codes.Rcode.TheVariants.{NoError}
use Rattle.dns_primary.specs.declared.event.To.TheVariants.{Address}
use Rattle.dns_primary.specs.declared.event.Waiting.{Waiting}
use Rattle.dns_primary.specs.declared.event.HeaderTo.{HeaderTo}
use Rattle.dns_primary.specs.Keeps.{header_out}
use Rattle.dns_network.specs.Delivery.{served_by}
use Rattle.dns_network.proofs.Leads.{next_sent, same_on}
use Rattle.dns_network.proofs.edge.Edge.send_headers.Goals as goal

pub loop-header-init : goal.loop-header-init
loop-header-init g c = (([], refl, refl), λ second rested. rested, (refl, refl, refl))

pub loop-header-preserved : goal.loop-header-preserved
loop-header-preserved g c =
    let nobody : Waiting = record { to = Address (record { address = V4 (record { octets = [] }); port = 0; local = 0 }); address = V4 (record { octets = [] }); request = []; rcode = NoError; zone = 0; version = 0; serial = 0 } in
    let none : HeaderTo = record { waited = nobody; octets = [] } in
    let sent = next_sent g.N.Network g.L.Observer (λ h. header_out h) c.args.headers.now c.loop-header.header-index none
    (served_by c.args.turn.now c.args.self.now)
    (served_by c.loop-header.turn c.loop-header.self)
    (served_by c.send.new.turn c.send.new.self)
    c.loop-header-test.true c.loop-header.invariant.0 c.send.ensures.sent in (
      sent,
      λ second rested. c.loop-header.invariant.1 second (c.send.ensures.rested second rested),
      same_on c.args.turn.now c.loop-header.turn c.send.new.turn c.loop-header.invariant.2 c.send.ensures.same,
    )
