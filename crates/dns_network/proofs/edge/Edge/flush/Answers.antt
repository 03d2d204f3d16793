use Rattle.std.proofs.Common.{[], ◌∷◌, refl, inr}
use Rattle.dns_primary.specs.Step.{Flush}
use Rattle.dns_network.specs.Delivery.{served, served_by}
use Rattle.dns_network.specs.Turn.{Asks, Happens}
use Rattle.dns_network.proofs.Leads.{happened}
use Rattle.dns_network.proofs.edge.Edge.flush.Goals as goal

pub returns-clause-flushes : goal.returns-clause-flushes
returns-clause-flushes g c = λ now.
    let looked = served c.args.turn.now.primary.now c.args.self.now c.look.new.self c.args.turn.now.notes.now in
    let told = served_by c.happen-effects.new.self c.args.self.now in
    let flushed = served_by c.deliver.new.turn c.deliver.new.self in
    let new = served c.deliver.new.turn.primary.now c.deliver.new.self c.look-2.new.self c.deliver.new.turn.notes.now in
    let goings = c.deliver.ensures.happened.0 in
    let is = happened g.S.Stream g.N.Network g.L.Observer now Flush c.happen-effects.result goings looked looked told flushed refl c.happen-effects.ensures.takes c.happen-effects.ensures.observed refl c.happen-effects.ensures.network c.deliver.ensures.happened.1 in (
      Asks ∷ Happens Flush c.happen-effects.result goings ∷ Asks ∷ [],
      (c.happen-effects.result, goings, refl),
      (looked, record { rest = refl; nothing = inr (inr c.look.ensures) }, (flushed, is, (new, record { rest = refl; nothing = inr (inr c.look-2.ensures) }, refl))),
    )

pub returns-clause-rested : goal.returns-clause-rested
returns-clause-rested g c = λ second rested. c.deliver.ensures.rested second rested
