use Rattle.std.proofs.Common.{◌≡◌, true}
use Rattle.dns_network.specs.Delivery.{served}
use Rattle.dns_service.specs.ServedTurns.{served_at_start}
use Rattle.dns_service.proofs.Counted.{MadeCounted}
use Rattle.dns_service.proofs.Turned.{Made}
use Rattle.dns_service.proofs.server.run.Given as goal

abbrev pub invariant-loop-turn : goal.invariant-loop-turn
invariant-loop-turn g l =
    let start = served_at_start l.fn.primary l.fn.network l.fn.notes in
    let now = served l.primary l.edge l.network l.notes in
    Made g.S.Stream g.N.Network g.L.Observer l.turn start now
    × (l.counts.out.ghost_name ≡ l.fn.counts.out.ghost_name)
    × (l.counts.every ≡ l.fn.counts.every)
    × (l.counts.origins.now ≡ l.fn.counts.origins.now)
    × (l.is_told ≡ true
    → MadeCounted g.S.Stream g.N.Network g.L.Observer g.L.Watched.counting l.fn.counts.every l.fn.counts.origins.now l.turn
    (record { served = start; out = g.O.Write.contents l.fn.counts.out.now }) (record { served = now; out = g.O.Write.contents l.counts.out.now }))
