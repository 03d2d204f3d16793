use Rattle.std.proofs.Common.{◌≡◌, ◌≤◌, ◌∙◌, rules, ℕ, true, false, [], inl, inr, refl, sym, subst, length, Some, arith}
use Rattle.dns_network.specs.Delivery.{connections_of, rested_of, served_by}
use Rattle.dns_network.specs.Turns.{EachHasItsPart}
use Rattle.dns_network.proofs.Gone.{all_stalled, all_unused, none_visited, one_visited}
use Rattle.dns_network.proofs.Leads.{same_on}
use Rattle.dns_network.proofs.edge.Edge.serve_connections.Goals as goal
use Rattle.dns_network.proofs.edge.Edge.serve_connections.Goals.{then-serve_connection, else-serve_connection}

pub returns-then-is_still-clause-serves : goal.returns-then-is_still-clause-serves
returns-then-is_still-clause-serves g c =
    let rests : rested_of c.args.self.now ≡ Some c.args.now = search rules in
    ([], inr (record { rests = rests; still = c.is_still.ensures c.if-is_still.true; none = refl; same = refl }), λ idle. tt)

pub loop-number-init : goal.loop-number-init
loop-number-init g c =
    (none_visited g.S.Stream g.N.Network g.L.Observer c.args.now (served_by c.args.turn.now c.args.self.now), (refl, refl, refl))

pub loop-number-preserved : goal.loop-number-preserved
loop-number-preserved g c =
    let visited = one_visited g.S.Stream g.N.Network g.L.Observer c.args.now c.loop-number.number c.loop-number.is_done c.serve_connection.result c.if-serve_connection.is_done (served_by c.args.turn.now c.args.self.now)
    (served_by c.loop-number.turn c.loop-number.self)
    (served_by c.serve_connection.new.turn c.serve_connection.new.self)
    (λ none. elim c.if-serve_connection.branch [
      | then-serve_connection w ↦ absurd (let clash : true ≡ false = sym w.is_done-is ∙ none in cc)
      | else-serve_connection w ↦ sym w.is_done-is ∙ none
    ])
    (λ none. elim c.if-serve_connection.branch [
      | then-serve_connection w ↦ absurd (let clash : true ≡ false = sym w.is_done-is ∙ none in cc)
      | else-serve_connection w ↦ w.if-serve_connection.false
    ])
    c.loop-number.invariant.0 c.serve_connection.ensures.part (λ e kept. c.serve_connection.ensures.silent e kept) c.serve_connection.ensures.stalled in
    (visited, same_on c.args.turn.now c.loop-number.turn c.serve_connection.new.turn c.loop-number.invariant.1 c.serve_connection.ensures.same)

pub returns-clause-unused : goal.returns-clause-unused
returns-clause-unused g c = λ not m kept.
    let all : length (connections_of c.args.self.now) ≤ c.loop-number.number = omega (arith, c.loop-number-test.false, c.loop-number.auto.number-end, c.place_count-number-end.ensures) in
    all_unused g.S.Stream g.N.Network g.L.Observer c.args.now c.loop-number.number c.loop-number.is_done (served_by c.args.turn.now c.args.self.now)
    (served_by c.loop-number.turn c.loop-number.self) all c.loop-number.invariant.0 m kept

pub returns-clause-stalled : goal.returns-clause-stalled
returns-clause-stalled g c = λ not.
    let all : length (connections_of c.args.self.now) ≤ c.loop-number.number = omega (arith, c.loop-number-test.false, c.loop-number.auto.number-end, c.place_count-number-end.ensures) in
    all_stalled g.S.Stream g.N.Network g.L.Observer c.args.now c.loop-number.number c.loop-number.is_done (served_by c.args.turn.now c.args.self.now)
    (served_by c.loop-number.turn c.loop-number.self) all c.loop-number.invariant.0

pub returns-clause-serves : goal.returns-clause-serves
returns-clause-serves g c =
    let old = served_by c.args.turn.now c.args.self.now in
    let new = served_by c.loop-number.turn c.loop-number.self in
    let (moments, each, idle) = c.loop-number.invariant.0.parts in
    let all : c.loop-number.number ≡ length (connections_of c.args.self.now) =
    omega (arith, c.loop-number-test.false, c.loop-number.auto.number-end, c.place_count-number-end.ensures) in
    (moments, inl (subst (λ (k : ℕ). EachHasItsPart g.S.Stream g.N.Network g.L.Observer c.args.now k moments old new) all each), idle)
