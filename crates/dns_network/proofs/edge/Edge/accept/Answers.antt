use Rattle.std.proofs.Common.{◌≡◌, true, false, [], ◌∷◌, refl, inl}
use Rattle.dns_network.specs.Delivery.{served_by}
use Rattle.dns_network.specs.Turn.{Asks, HasAsked}
use Rattle.dns_network.proofs.Leads.{one_moment}
use Rattle.dns_network.proofs.edge.Edge.accept.Goals as goal

pub returns-then-not-may_accept-clause-accepts : goal.returns-then-not-may_accept-clause-accepts
returns-then-not-may_accept-clause-accepts g c =
    let old = served_by c.args.turn.now c.args.self.now in
    let none = c.may_accept.ensures c.if-not-may_accept.true in
    let asked : HasAsked g.N.Network old old = record { rest = refl; nothing = inl none } in (
      Asks ∷ [],
      record {
        are = one_moment g.S.Stream g.N.Network g.L.Observer c.args.now Asks old old asked;
        came = λ one. absurd (let clash : false ≡ true = one in cc);
        none = λ _. (refl, none);
      },
    )
