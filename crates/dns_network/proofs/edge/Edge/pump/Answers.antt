use Rattle.std.proofs.Common.{refl}
use Rattle.dns_primary.specs.Step.{Pump}
use Rattle.dns_network.specs.Delivery.{connections_of, served_by}
use Rattle.dns_network.proofs.Leads.{happened}
use Rattle.dns_network.proofs.Visited.{is_pumped, next_queued}
use Rattle.dns_network.proofs.edge.Edge.pump.Goals as goal

pub returns-clause-pumps : goal.returns-clause-pumps
returns-clause-pumps g c = λ now.
    let old = served_by c.args.turn.now c.args.self.now in
    let told = served_by c.happen-effects.new.self c.args.self.now in
    let new = served_by c.deliver.new.turn c.deliver.new.self in
    let goings = c.deliver.ensures.happened.0 in (
      c.happen-effects.result,
      goings,
      c.is_some-is_sent.ensures,
      happened g.S.Stream g.N.Network g.L.Observer now (Pump c.args.number) c.happen-effects.result goings old old told new refl c.happen-effects.ensures.takes c.happen-effects.ensures.observed refl
          c.happen-effects.ensures.network c.deliver.ensures.happened.1,
    )

pub returns-clause-pumped : goal.returns-clause-pumped
returns-clause-pumped g c = λ m kept.
    let told = served_by c.happen-effects.new.self c.args.self.now in
    let new = served_by c.deliver.new.turn c.deliver.new.self in
    is_pumped c.args.number c.is_some-is_sent.result c.happen-effects.result.message (connections_of c.args.self.now) (connections_of c.deliver.new.self) c.is_some-is_sent.ensures
    (next_queued g.N.Network g.L.Observer m c.args.number c.happen-effects.result c.deliver.ensures.happened.0 c.args.turn.now.primary.now c.happen-effects.new.self.primary.now told new c.happen-effects.ensures.takes kept c.deliver.ensures.happened.1)
