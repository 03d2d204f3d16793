use Rattle.std.proofs.Common.{◌≡◌, true, false, [], ◌∷◌, refl, inl, inr}
use Rattle.dns_primary.specs.Keeps.{IsKept}
use Rattle.dns_primary.specs.Machine.{Machine}
use Rattle.dns_network.specs.Closing.{NoPlace}
use Rattle.dns_network.specs.Delivery.{served, served_by}
use Rattle.dns_network.specs.Turn.{Asks, Closes, ClosedFor, Connects, HasAsked, HasConnected, HasRefused, Refuses}
use Rattle.dns_network.proofs.Leads.{one_moment, two_moments}
use Rattle.dns_network.proofs.edge.Edge.ask_for_connection.Goals as goal

pub returns-in_default-clause-accepts : goal.returns-in_default-clause-accepts
returns-in_default-clause-accepts g c =
    let old = served_by c.args.turn.now c.args.self.now in
    let new = served c.args.turn.now.primary.now c.args.self.now c.accept.new.self c.args.turn.now.notes.now in
    let asked : HasAsked g.N.Network old new = record { rest = refl; nothing = inl c.in_default.ensures } in (
      Asks ∷ [],
      record {
        are = one_moment g.S.Stream g.N.Network g.L.Observer c.args.now Asks old new asked;
        came = λ one. absurd (let clash : false ≡ true = one in cc);
        none = λ none. (refl, c.in_default.ensures);
      },
    )

pub returns-then-is_full_for-clause-accepts : goal.returns-then-is_full_for-clause-accepts
returns-then-is_full_for-clause-accepts g c =
    let old = served_by c.args.turn.now c.args.self.now in
    let new = served c.args.turn.now.primary.now c.args.self.now c.accept.new.self c.note.new.self in
    let refused : HasRefused g.N.Network g.L.Observer c.in-Some.peer old new = record {
      stream = c.in-Some.stream;
      came = c.in-Some.ensures;
      full = c.is_full_for.ensures.full c.if-is_full_for.true;
      unlisted = λ m kept. c.is_full_for.ensures.unlisted c.if-is_full_for.true m kept;
      rest = refl;
      noted = c.note.ensures;
    } in (
      Refuses c.in-Some.peer ∷ [],
      record {
        are = one_moment g.S.Stream g.N.Network g.L.Observer c.args.now (Refuses c.in-Some.peer) old new refused;
        came = λ one. inr (inr (c.in-Some.peer, refl));
        none = λ none. absurd (let clash : true ≡ false = none in cc);
      },
    )

pub returns-clause-accepts : goal.returns-clause-accepts
returns-clause-accepts g c =
    let allowed = λ (m : Machine) (kept : IsKept c.args.turn.now.primary.now m). c.is_full_for.ensures.allowed c.if-is_full_for.false m kept in
    let old = served_by c.args.turn.now c.args.self.now in
    let new = served_by c.open_connection.new.turn c.open_connection.new.self in
    elim c.open_connection.ensures.welcomed [
      | inl (effects, taken) ↦ (
          let connected : HasConnected g.N.Network g.L.Observer c.args.now c.in-Some.peer effects old new =
          record { stream = c.in-Some.stream; asked = c.accept.new.self; came = c.in-Some.ensures; allowed = allowed; taken = taken } in (
            Connects c.in-Some.peer effects ∷ [],
            record {
              are = one_moment g.S.Stream g.N.Network g.L.Observer c.args.now (Connects c.in-Some.peer effects) old new connected;
              came = λ one. inl (c.in-Some.peer, effects, refl);
              none = λ none. absurd (let clash : true ≡ false = none in cc);
            },
          )
          )
      | inr (opened, effects, number, taken, lacks, closed) ↦ (
          let connected : HasConnected g.N.Network g.L.Observer c.args.now c.in-Some.peer effects old opened =
          record { stream = c.in-Some.stream; asked = c.accept.new.self; came = c.in-Some.ensures; allowed = allowed; taken = taken } in
          let closed_for : ClosedFor g.S.Stream g.L.Observer c.args.now number NoPlace opened new =
          record { gives = lacks; told = opened; noted = refl; closed = closed } in (
            Connects c.in-Some.peer effects ∷ Closes number NoPlace ∷ [],
            record {
              are = two_moments g.S.Stream g.N.Network g.L.Observer c.args.now (Connects c.in-Some.peer effects) (Closes number NoPlace) old opened new connected closed_for;
              came = λ one. inr (inl (c.in-Some.peer, effects, number, refl));
              none = λ none. absurd (let clash : true ≡ false = none in cc);
            },
          )
          )
    ]
