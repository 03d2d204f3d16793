use Rattle.std.proofs.Common.{List, map, refl, subst}
use Rattle.dns_primary.specs.declared.event.HeaderTo.{HeaderTo}
use Rattle.dns_primary.specs.Keeps.{header_out, reply_out}
use Rattle.dns_network.specs.Delivery.{AreSent, served_by}
use Rattle.dns_network.proofs.Leads.{sent_on}
use Rattle.dns_network.proofs.edge.Edge.deliver.Goals as goal

pub returns-clause-happened : goal.returns-clause-happened
returns-clause-happened g c =
    let old = served_by c.args.turn.now c.args.self.now in
    let between = served_by c.send_headers.new.turn c.send_headers.new.self in
    let sent = served_by c.send_reply.new.turn c.send_reply.new.self in
    let first = subst (λ (hs : List HeaderTo). AreSent g.N.Network g.L.Observer (map (λ h. header_out h) hs) old between) c.as_slice.ensures.value c.send_headers.ensures.sent in
    let are = sent_on g.N.Network g.L.Observer (map (λ h. header_out h) c.args.effects.now.headers.items) (reply_out c.args.effects.now.message) old between sent first c.send_reply.ensures.sent in
    (are.0, record { between = sent; out = are.1; sent = are.2; rest = refl; noted = c.tell.ensures })

pub returns-clause-rested : goal.returns-clause-rested
returns-clause-rested g c = λ second rested. c.send_headers.ensures.rested second (c.send_reply.ensures.rested second rested)
