use Rattle.std.proofs.Common.{◌≡◌, ◌∙◌, inl, inr, Bool, true, false, [], ◌∷◌, refl, sym, subst}
use Rattle.std.specs.Prelude.{is_some, slice_get}
use Rattle.dns_network.specs.declared.stream.Moved.TheVariants.{Octets, Later, Ended}
use Rattle.dns_primary.specs.Step.{Pump}
use Rattle.dns_network.specs.Closing.{HasEnded, Stalled}
use Rattle.dns_network.specs.Connection.{IsInUse, IsStalled, used_of}
use Rattle.dns_network.specs.Connections.{IsOpenWith, HasPumped, has_left_at, is_open_at, places_of}
use Rattle.dns_network.specs.Delivery.{connections_of, served_by}
use Rattle.dns_network.specs.Turn.{Closes, Happens, Moves}
use Rattle.dns_network.proofs.Leads.{closes, ends, moves, standing_by}
use Rattle.dns_network.specs.Turns.{MayStall}
use Rattle.dns_network.proofs.Parts.{clashes, has_ended, is_none, left_open, moved_ended, moved_open, not_ended}
use Rattle.dns_network.proofs.Used.{after_pump, is_gone, not_open, pumped_in_use, unused_left, stalled_left, written_now}
use Rattle.dns_network.proofs.edge.Edge.serve_connection.Goals as goal

-- where there is no connection
pub returns-then-not-is_open-clause-part : goal.returns-then-not-is_open-clause-part
returns-then-not-is_open-clause-part g c =
    let index = slice_get (connections_of c.args.self.now) c.args.number in
    let closed : is_open_at index ≡ false = sym c.is_open.ensures ∙ c.if-not-is_open.true in (
      [],
      record {
        are = refl;
        closed = λ no. refl;
        left = λ left. clashes (is_open_at index) (left_open index left) closed;
        none_left = λ opened no. clashes (is_open_at index) opened closed;
      },
      λ idle. tt,
    )

-- where octets are left to write
pub returns-in-Ended-clause-part : goal.returns-in-Ended-clause-part
returns-in-Ended-clause-part g c =
    let now = c.args.now in
    let number = c.args.number in
    let turn = c.args.turn.now in
    let here = connections_of c.args.self.now in
    let there = places_of c.write-moved.new.self in
    let left : has_left_at (slice_get here number) ≡ true = sym c.has_left.ensures ∙ c.if-has_left.true in
    let written = standing_by turn there in
    let new = served_by c.close.new.turn c.close.new.self in
    let closed = closes g.S.Stream g.N.Network g.L.Observer now number HasEnded written written new
    (ends g.S.Stream now number c.write-moved.result here there c.in-Ended.is c.write-moved.ensures) refl c.close.ensures.closed in (
      Moves number c.write-moved.result ∷ Closes number HasEnded ∷ [],
      record {
        are = (
          written,
          moves g.S.Stream g.N.Network g.L.Observer now number c.write-moved.result turn.primary.now turn.network.now turn.notes.now here there
              (moved_ended g.S.Stream now number c.write-moved.result here there c.in-Ended.is c.write-moved.ensures),
          (new, closed, refl),
        );
        closed = λ no. clashes (is_open_at (slice_get here number)) (left_open (slice_get here number) left) no;
        left = λ is. (c.write-moved.result, Closes number HasEnded ∷ [], refl, has_ended number c.write-moved.result (MayStall number) c.in-Ended.is);
        none_left = λ opened no. clashes (has_left_at (slice_get here number)) left no;
      },
      λ none. absurd (let clash : true ≡ false = none in cc),
    )

pub returns-then-is_stalled-clause-part : goal.returns-then-is_stalled-clause-part
returns-then-is_stalled-clause-part g c =
    let now = c.args.now in
    let number = c.args.number in
    let turn = c.args.turn.now in
    let here = connections_of c.args.self.now in
    let there = places_of c.write-moved.new.self in
    let left : has_left_at (slice_get here number) ≡ true = sym c.has_left.ensures ∙ c.if-has_left.true in
    let opened = left_open (slice_get here number) left in
    let written = standing_by turn there in
    let new = served_by c.close-then-is_stalled.new.turn c.close-then-is_stalled.new.self in
    let closed = closes g.S.Stream g.N.Network g.L.Observer now number Stalled written (record written { notes = c.note.new.self }) new (c.is_stalled.ensures.0 c.if-is_stalled.true)
    (record { rest = refl; noted = c.note.ensures }) c.close-then-is_stalled.ensures.closed in (
      Moves number c.write-moved.result ∷ Closes number Stalled ∷ [],
      record {
        are = (
          written,
          moves g.S.Stream g.N.Network g.L.Observer now number c.write-moved.result turn.primary.now turn.network.now turn.notes.now here there
              (moved_open g.S.Stream now number c.write-moved.result here there opened c.write-moved.ensures),
          (new, closed, refl),
        );
        closed = λ no. clashes (is_open_at (slice_get here number)) opened no;
        left = λ is. (c.write-moved.result, Closes number Stalled ∷ [], refl, not_ended number c.write-moved.result (MayStall number) (Closes number Stalled ∷ []) c.in_default.not-Ended (inr refl));
        none_left = λ is no. clashes (has_left_at (slice_get here number)) left no;
      },
      λ none. absurd (let clash : true ≡ false = none in cc),
    )

pub returns-then-has_left-clause-part : goal.returns-then-has_left-clause-part
returns-then-has_left-clause-part g c =
    let number = c.args.number in
    let here = connections_of c.args.self.now in
    let there = places_of c.write-moved.new.self in
    let left : has_left_at (slice_get here number) ≡ true = sym c.has_left.ensures ∙ c.if-has_left.true in
    let opened = left_open (slice_get here number) left in
    let waited = λ (none_done : c.ne.result ≡ false). elim c.write-moved.result as (λ m. c.write-moved.result ≡ m → m ≡ Later) [
      | Octets count ↦ λ is. absurd (let told : c.ne.result ≡ true = rw is at c.ne.ensures in let clash : true ≡ false = sym told ∙ none_done in cc)
      | Later ↦ λ is. refl
      | Ended ↦ λ is. absurd (c.in_default.not-Ended is)
    ] refl in (
      Moves number c.write-moved.result ∷ [],
      record {
        are = (
          standing_by c.args.turn.now there,
          moves g.S.Stream g.N.Network g.L.Observer c.args.now number c.write-moved.result c.args.turn.now.primary.now c.args.turn.now.network.now c.args.turn.now.notes.now here there
              (moved_open g.S.Stream c.args.now number c.write-moved.result here there opened c.write-moved.ensures),
          refl,
        );
        closed = λ no. clashes (is_open_at (slice_get here number)) opened no;
        left = λ is. (c.write-moved.result, [], refl, not_ended number c.write-moved.result (MayStall number) [] c.in_default.not-Ended (inl refl));
        none_left = λ is no. clashes (has_left_at (slice_get here number)) left no;
      },
      λ idle. (waited idle, tt),
    )

-- where none are
pub returns-then-pump-clause-part : goal.returns-then-pump-clause-part
returns-then-pump-clause-part g c =
    let number = c.args.number in
    let index = slice_get (connections_of c.args.self.now) number in
    let none : has_left_at index ≡ false = sym c.has_left.ensures ∙ c.if-has_left.false in
    let opened : is_open_at index ≡ true = sym c.is_open.ensures ∙ c.if-not-is_open.false in
    let new = served_by c.pump.new.turn c.pump.new.self in
    let (effects, goings, told, pumps) = c.pump.ensures.pumps c.args.now in (
      Happens (Pump number) effects goings ∷ [],
      record {
        are = (new, pumps, refl);
        closed = λ no. clashes (is_open_at index) opened no;
        left = λ left. clashes (has_left_at index) left none;
        none_left = λ is no. record {
          effects = effects;
          goings = goings;
          rest = [];
          pumped = new;
          are = refl;
          pumps = pumps;
          one = λ one. (refl, refl);
          none = λ none. clashes (is_some effects.message) (sym told ∙ c.if-pump.true) none;
        };
      },
      λ none. absurd (let clash : true ≡ false = none in cc),
    )

pub returns-clause-part : goal.returns-clause-part
returns-clause-part g c =
    let number = c.args.number in
    let index = slice_get (connections_of c.args.self.now) number in
    let none : has_left_at index ≡ false = sym c.has_left.ensures ∙ c.if-has_left.false in
    let opened : is_open_at index ≡ true = sym c.is_open.ensures ∙ c.if-not-is_open.false in
    let mid = served_by c.pump.new.turn c.pump.new.self in
    let (effects, goings, told, pumps) = c.pump.ensures.pumps c.args.now in
    let (rest, reading, idle) = c.read_piece.ensures.reads in
    let no_message : is_some effects.message ≡ false = sym told ∙ c.if-pump.false in (
      Happens (Pump number) effects goings ∷ rest,
      record {
        are = (mid, pumps, reading.are);
        closed = λ no. clashes (is_open_at index) opened no;
        left = λ left. clashes (has_left_at index) left none;
        none_left = λ is no. record {
          effects = effects;
          goings = goings;
          rest = rest;
          pumped = mid;
          are = refl;
          pumps = pumps;
          one = λ one. clashes (is_some effects.message) one no_message;
          none = λ none. reading;
        };
      },
      λ nothing. (is_none effects.message no_message, idle nothing),
    )

pub returns-then-not-is_open-clause-stalled : goal.returns-then-not-is_open-clause-stalled
returns-then-not-is_open-clause-stalled g c = λ stalled. not_open (λ d. used_of d ≡ c.args.now) (slice_get (connections_of c.args.self.now) c.args.number) (sym c.is_open.ensures ∙ c.if-not-is_open.true)

pub returns-then-not-is_open-clause-silent : goal.returns-then-not-is_open-clause-silent
returns-then-not-is_open-clause-silent g c = λ m kept silent. not_open (IsInUse c.args.now) (slice_get (connections_of c.args.self.now) c.args.number) (sym c.is_open.ensures ∙ c.if-not-is_open.true)

pub returns-in-Ended-clause-stalled : goal.returns-in-Ended-clause-stalled
returns-in-Ended-clause-stalled g c = λ stalled. is_gone (λ d. used_of d ≡ c.args.now) c.args.number (places_of c.write-moved.new.self) (connections_of c.close.new.self) c.close.ensures.closed.gone

pub returns-in-Ended-clause-silent : goal.returns-in-Ended-clause-silent
returns-in-Ended-clause-silent g c = λ m kept silent. is_gone (IsInUse c.args.now) c.args.number (places_of c.write-moved.new.self) (connections_of c.close.new.self) c.close.ensures.closed.gone

pub returns-then-is_stalled-clause-stalled : goal.returns-then-is_stalled-clause-stalled
returns-then-is_stalled-clause-stalled g c = λ stalled.
    is_gone (λ d. used_of d ≡ c.args.now) c.args.number (places_of c.write-moved.new.self) (connections_of c.close-then-is_stalled.new.self) c.close-then-is_stalled.ensures.closed.gone

pub returns-then-is_stalled-clause-silent : goal.returns-then-is_stalled-clause-silent
returns-then-is_stalled-clause-silent g c = λ m kept silent.
    is_gone (IsInUse c.args.now) c.args.number (places_of c.write-moved.new.self) (connections_of c.close-then-is_stalled.new.self) c.close-then-is_stalled.ensures.closed.gone

-- where octets were left to write
pub returns-then-has_left-clause-stalled : goal.returns-then-has_left-clause-stalled
returns-then-has_left-clause-stalled g c = λ stalled.
    let lasts = λ (is : IsOpenWith (IsStalled c.args.now) (slice_get (places_of c.write-moved.new.self) c.args.number)).
    let told : c.is_stalled.result ≡ true = c.is_stalled.ensures.1 is in
    absurd (let clash : true ≡ false = sym told ∙ c.if-is_stalled.false in cc) in
    written_now g.S.Stream c.args.now c.args.number c.write-moved.result (connections_of c.args.self.now) (places_of c.write-moved.new.self) c.write-moved.ensures lasts stalled

pub returns-then-has_left-clause-silent : goal.returns-then-has_left-clause-silent
returns-then-has_left-clause-silent g c = λ m kept silent.
    absurd (unused_left c.args.now (slice_get (connections_of c.args.self.now) c.args.number) (sym c.has_left.ensures ∙ c.if-has_left.true) silent)

-- where none were
pub returns-then-pump-clause-stalled : goal.returns-then-pump-clause-stalled
returns-then-pump-clause-stalled g c = λ stalled.
    absurd (stalled_left c.args.now (slice_get (connections_of c.args.self.now) c.args.number) (sym c.has_left.ensures ∙ c.if-has_left.false) stalled)

pub returns-then-pump-clause-silent : goal.returns-then-pump-clause-silent
returns-then-pump-clause-silent g c = λ m kept silent.
    let here = connections_of c.args.self.now in
    let there = connections_of c.pump.new.self in
    let pumped : HasPumped c.args.number true here there = subst (λ (told : Bool). HasPumped c.args.number told here there) c.if-pump.true (c.pump.ensures.pumped m kept) in
    pumped_in_use c.args.now c.args.number here there silent pumped

pub returns-clause-stalled : goal.returns-clause-stalled
returns-clause-stalled g c = λ stalled.
    absurd (stalled_left c.args.now (slice_get (connections_of c.args.self.now) c.args.number) (sym c.has_left.ensures ∙ c.if-has_left.false) stalled)

pub returns-clause-silent : goal.returns-clause-silent
returns-clause-silent g c = λ m kept silent.
    let here = connections_of c.args.self.now in
    let there = connections_of c.pump.new.self in
    let pumped : HasPumped c.args.number false here there = subst (λ (told : Bool). HasPumped c.args.number told here there) c.if-pump.false (c.pump.ensures.pumped m kept) in
    c.read_piece.ensures.silent (after_pump c.args.now c.args.number here there silent pumped)
