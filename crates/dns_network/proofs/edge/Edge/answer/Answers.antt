use Rattle.std.proofs.Common.{ℕ, List, refl, subst, take}
use Rattle.dns_primary.specs.Step.{Datagram}
use Rattle.dns_network.specs.Delivery.{served, served_by}
use Rattle.dns_network.specs.Turn.{IsHandled}
use Rattle.dns_network.proofs.edge.Edge.answer.Goals as goal

pub returns-clause-answers : goal.returns-clause-answers
returns-clause-answers g c =
    let old = served_by c.args.turn.now c.args.self.now in
    let told = served c.step-effects.new.self c.args.self.now c.args.turn.now.network.now c.observe.new.self in
    let new = served_by c.deliver.new.turn c.deliver.new.self in
    let effects = c.step-effects.result in
    let goings = c.deliver.ensures.happened.0 in (
      effects,
      goings,
      subst (λ (buffer : List ℕ). IsHandled g.N.Network g.L.Observer (Datagram c.args.peer (take c.args.count buffer)) effects goings old new) c.deref.ensures.value
          (record { told = told; takes = λ m kept. c.lend.ensures.state.stepped m (Datagram c.args.peer (take c.args.count c.deref.result.now)) c.step-effects.new.self c.step-effects.result (c.step-effects.ensures.step m (c.lend.ensures.state.kept m kept)); observed = c.observe.ensures; rest = refl; happened = c.deliver.ensures.happened.1 }),
    )

pub returns-clause-rested : goal.returns-clause-rested
returns-clause-rested g c = λ second rested. c.deliver.ensures.rested second rested
