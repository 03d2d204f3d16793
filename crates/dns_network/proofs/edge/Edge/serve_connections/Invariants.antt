use Rattle.dns_network.specs.Delivery.{IsSameTurn, served_by}
use Rattle.dns_network.proofs.Gone.{AreVisited}
use Rattle.dns_network.proofs.edge.Edge.serve_connections.Given as goal

abbrev pub invariant-loop-number : goal.invariant-loop-number
invariant-loop-number g l =
    AreVisited g.S.Stream g.N.Network g.L.Observer l.now l.number l.is_done (served_by l.fn.turn l.fn.self)
    (served_by l.turn l.self)
    × IsSameTurn l.fn.turn l.turn
