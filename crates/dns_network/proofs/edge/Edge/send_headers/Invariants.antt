use Rattle.std.proofs.Common.{map, take}
use Rattle.dns_primary.specs.Keeps.{header_out}
use Rattle.dns_network.specs.Delivery.{AreSent, IsSameTurn, RestsAsBefore, served_by}
use Rattle.dns_network.proofs.edge.Edge.send_headers.Given as goal

abbrev pub invariant-loop-header : goal.invariant-loop-header
invariant-loop-header g l =
    AreSent g.N.Network g.L.Observer (map (λ h. header_out h) (take l.header-index l.headers))
    (served_by l.initial.turn l.initial.self) (served_by l.turn l.self)
    × RestsAsBefore l.initial.self l.self
    × IsSameTurn l.initial.turn l.turn
