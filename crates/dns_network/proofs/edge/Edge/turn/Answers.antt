use Rattle.std.proofs.Common.{rules, refl, subst}
use Rattle.dns_network.specs.Delivery.{connections_of, rested_of, served}
use Rattle.dns_network.specs.Turn.{NoneWaits}
use Rattle.dns_network.proofs.Leads.{is_turn}
use Rattle.dns_network.proofs.edge.Edge.turn.Goals as goal

pub returns-clause-turn : goal.returns-clause-turn
returns-clause-turn g c =
    let (moments, done, idle) = c.work-is_done.ensures.done in
    let (network, primary, notes) = c.work-is_done.ensures.same in
    let old = served c.args.primary.now c.args.self.now c.args.network.now c.args.notes.now in
    let begun = served c.args.primary.now c.args.self.now c.args.network.now c.begin_turn.new.self in
    let made = c.work-is_done.new.turn in (
      moments,
      is_turn g.S.Stream g.N.Network g.L.Observer c.args.now (rested_of c.args.self.now) moments old begun made.primary.now _ made.network.now _ made.notes.now _ c.end_turn.new.self
          (connections_of c.work-is_done.new.self) (search rules) (search rules) (search rules) (record { rest = refl; noted = c.begin_turn.ensures }) done c.end_turn.ensures,
      idle,
    )

pub returns-clause-idle : goal.returns-clause-idle
returns-clause-idle g c = λ idle.
    let (network, primary, notes) = c.work-is_done.ensures.same in
    subst NoneWaits (search rules) (c.work-is_done.ensures.idle idle)

pub returns-clause-unused : goal.returns-clause-unused
returns-clause-unused g c = λ not m kept. c.work-is_done.ensures.unused not m kept

pub returns-clause-stalled : goal.returns-clause-stalled
returns-clause-stalled g c = λ not. c.work-is_done.ensures.stalled not
