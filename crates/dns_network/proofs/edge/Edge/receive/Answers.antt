use Rattle.std.proofs.Common.{◌≡◌, ◌≤◌, true, false, ℕ, List, [], ◌∷◌, length, refl, sym, subst, inl, inr, take, arith}
use Rattle.std.proofs.lemmas.List.{with_items_is}
use Rattle.dns_primary.specs.Step.{Datagram}
use Rattle.dns_network.specs.Delivery.{served, served_by}
use Rattle.dns_network.specs.Turn.{Asks, Happens, IsHandled}
use Rattle.dns_network.proofs.Leads.{came_and_handled}
use Rattle.dns_network.proofs.edge.Edge.receive.Goals as goal

pub returns-in_default-clause-receives : goal.returns-in_default-clause-receives
returns-in_default-clause-receives g c = λ now.
    let new = served c.args.turn.now.primary.now c.args.self.now c.receive.new.self c.args.turn.now.notes.now in (
      Asks ∷ [],
      record {
        are = (new, record { rest = refl; nothing = inr (inl c.in_default.ensures.came) }, refl);
        came = λ one. absurd (let clash : false ≡ true = one in cc);
        none = λ none. (refl, c.in_default.ensures.came);
      },
    )

pub answer-requires : goal.answer-requires
answer-requires g c =
    let same : length c.receive.new.into ≡ c.args.self.now.buffer.len = omega (arith, c.receive.auto.into, c.deref_mut.ensures.len) in
    subst (λ (buffer : List ℕ). c.in-Some.count ≤ length buffer) (sym (with_items_is c.args.self.now.buffer c.receive.new.into same)) c.in-Some.ensures.few

pub returns-clause-receives : goal.returns-clause-receives
returns-clause-receives g c = λ now.
    let old = served_by c.args.turn.now c.args.self.now in
    let given = served c.args.turn.now.primary.now c.args.self.now c.receive.new.self c.args.turn.now.notes.now in
    let same : length c.receive.new.into ≡ c.args.self.now.buffer.len = omega (arith, c.receive.auto.into, c.deref_mut.ensures.len) in
    let new = served_by c.answer.new.turn c.answer.new.self in
    let octets = take c.in-Some.count c.receive.new.into in
    let event = Datagram c.in-Some.peer octets in
    let (effects, goings, is) = c.answer.ensures.answers in
    let handled : IsHandled g.N.Network g.L.Observer event effects goings given new =
    subst (λ (buffer : List ℕ). IsHandled g.N.Network g.L.Observer (Datagram c.in-Some.peer (take c.in-Some.count buffer)) effects goings given new) (with_items_is c.args.self.now.buffer c.receive.new.into same) is in
    let answered = came_and_handled g.S.Stream g.N.Network g.L.Observer now event effects goings old given new (refl, c.in-Some.ensures.came) handled in (
      Happens event effects goings ∷ [],
      record {
        are = (new, answered, refl);
        came = λ one. (c.in-Some.peer, octets, effects, goings, refl);
        none = λ none. absurd (let clash : true ≡ false = none in cc);
      },
    )

pub returns-clause-rested : goal.returns-clause-rested
returns-clause-rested g c = λ second rested. c.answer.ensures.rested second rested
