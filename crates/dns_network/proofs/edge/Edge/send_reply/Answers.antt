use Rattle.std.proofs.Common.{ℕ, Bool, List, Option, sym, subst}
use Rattle.dns_primary.specs.declared.event.Reply.{Reply}
use Rattle.dns_primary.specs.Keeps.{reply_out}
use Rattle.dns_network.specs.Delivery.{AreSent, IsSent, served_by}
use Rattle.dns_primary.specs.To.{octets_in}
use Rattle.dns_network.proofs.Leads.{one_sent}
use Rattle.dns_network.proofs.edge.Edge.send_reply.Goals as goal

pub returns-in-Some-clause-sent : goal.returns-in-Some-clause-sent
returns-in-Some-clause-sent g c =
    let old = served_by c.args.turn.now c.args.self.now in
    let new = served_by c.send.new.turn c.send.new.self in
    subst (λ (reply : Option Reply). AreSent g.N.Network g.L.Observer (reply_out reply) old new) (sym c.in-Some.is)
    (one_sent g.N.Network g.L.Observer c.in-Some.reply.to (octets_in c.in-Some.reply.octets) old new
    (subst (λ (octets : List ℕ). (cut : Bool) × IsSent g.N.Network g.L.Observer c.in-Some.reply.to octets cut old new) c.as_slice-octets.ensures c.send.ensures.sent))
