use Rattle.std.proofs.Common.{Bool, true, refl, sym, subst, inl, inr}
use Rattle.dns_network.specs.Connections.{places_of}
use Rattle.dns_primary.specs.declared.event.To.{To}
use Rattle.dns_network.specs.Delivery.{IsSent, connections_of, served, served_by}
use Rattle.dns_network.proofs.Leads.{closed_from, closed_still}
use Rattle.dns_network.proofs.edge.Edge.send.Goals as goal

pub returns-then-reply-gt-LONGEST-clause-sent : goal.returns-then-reply-gt-LONGEST-clause-sent
returns-then-reply-gt-LONGEST-clause-sent g c =
    let old = served_by c.args.turn.now c.args.self.now in
    let new = served_by c.close.new.turn c.close.new.self in
    subst (λ (t : To). (cut : Bool) × IsSent g.N.Network g.L.Observer t c.args.reply.now cut old new) (sym c.in-Connection.is) (
      true,
      record {
        told = old;
        cause = inl (c.if-reply-gt-LONGEST.true, refl);
        closed = c.close.ensures.closed;
      },
    )

pub returns-in-Err-clause-sent : goal.returns-in-Err-clause-sent
returns-in-Err-clause-sent g c =
    let old = served_by c.args.turn.now c.args.self.now in
    let new = served_by c.close-in-Err.new.turn c.close-in-Err.new.self in
    let noted = served c.args.turn.now.primary.now c.args.self.now c.args.turn.now.network.now c.note.new.self in
    let number = c.in-Connection.number in
    let pushed = record noted { connections = places_of c.push.new.self } in
    let gone = closed_still number (connections_of c.args.self.now) (places_of c.push.new.self) (connections_of c.close-in-Err.new.self) c.in-Err.ensures.refused c.close-in-Err.ensures.closed.gone in
    subst (λ (t : To). (cut : Bool) × IsSent g.N.Network g.L.Observer t c.args.reply.now cut old new) (sym c.in-Connection.is) (
      true,
      record {
        told = noted;
        cause = inr (c.in-Err.ensures.there, record { rest = refl; noted = c.note.ensures });
        closed = closed_from g.L.Observer number (connections_of c.args.self.now) pushed new gone c.close-in-Err.ensures.closed;
      },
    )
