use Rattle.std.proofs.Common.{ℕ, Option, None, refl, sym, subst, inl, inr, slice_set, ◌∙◌}
use Rattle.std.proofs.lemmas.List.{set-set}
use Rattle.dns_network.specs.Connections.{places_of}
use Rattle.dns_network.specs.Delivery.{connections_of, served_by}
use Rattle.dns_network.specs.Turn.{IsPlaced}
use Rattle.dns_network.specs.Notes.{AreNoted, notes_of_opened}
use Rattle.dns_network.proofs.Leads.{closed_from, none_past, none_there, noted_then, nothing_came, standing}
use Rattle.dns_network.proofs.edge.Edge.open_connection.Goals as goal

pub returns-in_default-clause-welcomed : goal.returns-in_default-clause-welcomed
returns-in_default-clause-welcomed g c =
    let here = connections_of c.args.self.now in
    let asked = c.args.turn.now.network.now in
    inl (
      c.step-effects.result,
      record {
        told = λ m kept. c.step-effects.ensures.step m kept;
        placed = subst (λ (accepted : Option ℕ). IsPlaced g.N.Network c.args.now c.args.stream accepted asked asked here here) (sym c.in_default.is) (refl, refl);
        noted = noted_then g.L.Observer c.step-effects.result.noted c.step-effects.result.accepted c.args.peer c.args.turn.now.notes.now c.tell.new.notes c.note.new.self c.tell.ensures
            (subst (λ (accepted : Option ℕ). AreNoted g.L.Observer (notes_of_opened accepted c.args.peer) c.tell.new.notes c.note.new.self) (sym c.in_default.is)
            (c.note.new.self, c.note.ensures, refl));
      },
    )

pub returns-in_default-watch-clause-welcomed : goal.returns-in_default-watch-clause-welcomed
returns-in_default-watch-clause-welcomed g c =
    let here = connections_of c.args.self.now in
    let left = slice_set here c.in-Some.number None in
    let asked = c.args.turn.now.network.now in
    let opened = standing c.step-effects.new.self c.watch.new.self c.note-2.new.self here in
    inr (
      standing c.step-effects.new.self c.watch.new.self c.note-2.new.self left,
      c.step-effects.result,
      c.in-Some.number,
      record {
        told = λ m kept. c.step-effects.ensures.step m kept;
        placed = subst (λ (accepted : Option ℕ). IsPlaced g.N.Network c.args.now c.args.stream accepted asked c.watch.new.self here left) (sym c.in-Some.is)
            (inl (c.in_default-watch.ensures, refl));
        noted = noted_then g.L.Observer c.step-effects.result.noted c.step-effects.result.accepted c.args.peer c.args.turn.now.notes.now c.tell.new.notes c.note-2.new.self c.tell.ensures
            (subst (λ (accepted : Option ℕ). AreNoted g.L.Observer (notes_of_opened accepted c.args.peer) c.tell.new.notes c.note-2.new.self) (sym c.in-Some.is)
            (c.note-2.new.self, c.note-2.ensures, refl));
      },
      none_there c.in-Some.number here,
      closed_from g.L.Observer c.in-Some.number left opened (served_by c.close.new.turn c.close.new.self)
          (c.close.ensures.closed.gone ∙ sym (set-set here c.in-Some.number None None)) c.close.ensures.closed,
    )

pub returns-in-Err-clause-welcomed : goal.returns-in-Err-clause-welcomed
returns-in-Err-clause-welcomed g c =
    let here = connections_of c.args.self.now in
    let asked = c.args.turn.now.network.now in
    inr (
      standing c.step-effects.new.self c.watch.new.self c.note-2.new.self (places_of c.insert.new.self),
      c.step-effects.result,
      c.in-Some.number,
      record {
        told = λ m kept. c.step-effects.ensures.step m kept;
        placed = subst (λ (accepted : Option ℕ). IsPlaced g.N.Network c.args.now c.args.stream accepted asked c.watch.new.self here (places_of c.insert.new.self)) (sym c.in-Some.is)
            (inr (c.in-Some-watch.watched, c.in-Some-watch.ensures, inl (c.in-Err.ensures.back.1, c.in-Err.ensures.still)));
        noted = noted_then g.L.Observer c.step-effects.result.noted c.step-effects.result.accepted c.args.peer c.args.turn.now.notes.now c.tell.new.notes c.note-2.new.self c.tell.ensures
            (subst (λ (accepted : Option ℕ). AreNoted g.L.Observer (notes_of_opened accepted c.args.peer) c.tell.new.notes c.note-2.new.self) (sym c.in-Some.is)
            (c.note-2.new.self, c.note-2.ensures, refl));
      },
      none_past c.in-Some.number here (places_of c.insert.new.self) c.in-Err.ensures.still c.in-Err.ensures.back.1,
      c.close-in-Err.ensures.closed,
    )

pub returns-clause-welcomed : goal.returns-clause-welcomed
returns-clause-welcomed g c =
    let here = connections_of c.args.self.now in
    let made = c.new-connection.result in
    let asked = c.args.turn.now.network.now in
    inl (
      c.step-effects.result,
      record {
        told = λ m kept. c.step-effects.ensures.step m kept;
        placed = subst (λ (accepted : Option ℕ). IsPlaced g.N.Network c.args.now c.args.stream accepted asked c.watch.new.self here (places_of c.insert.new.self)) (sym c.in-Some.is)
            (inr (
              c.in-Some-watch.watched,
              c.in-Some-watch.ensures,
              inr (
                c.in_default-insert.ensures.below,
                (
                  made,
                  c.new-connection.ensures.stream,
                  c.new-connection.ensures.left,
                  nothing_came made c.new-connection.ensures.held c.new-connection.ensures.rest,
                  c.new-connection.ensures.used,
                  c.in_default-insert.ensures.put,
                ),
              ),
            ));
        noted = noted_then g.L.Observer c.step-effects.result.noted c.step-effects.result.accepted c.args.peer c.args.turn.now.notes.now c.tell.new.notes c.note-2.new.self c.tell.ensures
            (subst (λ (accepted : Option ℕ). AreNoted g.L.Observer (notes_of_opened accepted c.args.peer) c.tell.new.notes c.note-2.new.self) (sym c.in-Some.is)
            (c.note-2.new.self, c.note-2.ensures, refl));
      },
    )
