use Rattle.std.proofs.Common.{◌≡◌, ◌∙◌, inl, inr, ℕ, true, false, List, [], ◌∷◌, Option, refl, sym, ap, subst}
use Rattle.dns_network.specs.declared.connection.Connection.{Connection}
use Rattle.std.specs.Prelude.{slice_get}
use Rattle.dns_network.specs.declared.stream.Moved.TheVariants.{Octets, Later, Ended}
use Rattle.dns_network.specs.Closing.{HasEnded, NoMemory, Silent}
use Rattle.dns_network.specs.Connection.{HasHandedOver, HasLost, IsInUse, IsSilent, held_of}
use Rattle.dns_network.specs.Connections.{IsGoneOr, IsOpenWith, places_of}
use Rattle.dns_primary.specs.Step.{Arrives}
use Rattle.dns_network.specs.Delivery.{connections_of, served_by}
use Rattle.dns_network.specs.Turn.{Closes, Happens, Moves}
use Rattle.dns_network.specs.Turns.{HandlesOne}
use Rattle.dns_network.proofs.Leads.{closed_from, closed_still, closed_then, closes, ends, happened, loses, moves, standing, standing_by}
use Rattle.dns_network.proofs.Parts.{has_ended, moved_ended, none_held, open_become, open_with, read_ended, read_then}
use Rattle.dns_network.proofs.Used.{handed_now, heard_none, in_use_stays, is_gone}
use Rattle.dns_network.proofs.Visited.{effects_stay}
use Rattle.dns_network.proofs.edge.Edge.read_piece.Goals as goal

pub returns-in_default-clause-reads : goal.returns-in_default-clause-reads
returns-in_default-clause-reads g c =
    let now = c.args.now in
    let number = c.args.number in
    let here = connections_of c.args.self.now in
    let mid = places_of c.read.new.self in
    let new = connections_of c.close.new.self in
    let old = served_by c.args.turn.now c.args.self.now in
    let read = standing c.args.turn.now.primary.now c.args.turn.now.network.now c.note.new.self mid in
    let ended = served_by c.close.new.turn c.close.new.self in
    let gone = closed_then g.S.Stream (HasLost g.S.Stream) number here mid new c.in_default.ensures.lost c.close.ensures.closed.gone in
    let closed = closes g.S.Stream g.N.Network g.L.Observer now number NoMemory old (record old { notes = c.note.new.self }) ended
    (loses g.S.Stream now number here mid c.in_default.ensures.lost) (record { rest = refl; noted = c.note.ensures }) (closed_from g.L.Observer number here read ended gone c.close.ensures.closed) in (
      Closes number NoMemory ∷ [],
      record {
        are = (ended, closed, refl);
        reads = inr (inr (inr refl));
      },
      λ none. absurd (let clash : true ≡ false = none in cc),
    )

pub returns-in-Ended-clause-reads : goal.returns-in-Ended-clause-reads
returns-in-Ended-clause-reads g c =
    let now = c.args.now in
    let number = c.args.number in
    let here = connections_of c.args.self.now in
    let there = places_of c.read.new.self in
    let moved = read_ended g.S.Stream now number c.in-Ok.moved here there c.in-Ended.is (c.in-Ok.ensures.moved now) in
    let new = served_by c.close-in-Ended.new.turn c.close-in-Ended.new.self in
    let read = standing_by c.args.turn.now there in
    let closed = closes g.S.Stream g.N.Network g.L.Observer now number HasEnded read read new
    (ends g.S.Stream now number c.in-Ok.moved here there c.in-Ended.is moved) refl c.close-in-Ended.ensures.closed in (
      Moves number c.in-Ok.moved ∷ Closes number HasEnded ∷ [],
      record {
        are = (
          read,
          moves g.S.Stream g.N.Network g.L.Observer now number c.in-Ok.moved c.args.turn.now.primary.now c.args.turn.now.network.now c.args.turn.now.notes.now here there
              (moved_ended g.S.Stream now number c.in-Ok.moved here there c.in-Ended.is moved),
          (new, closed, refl),
        );
        reads = inr (inr (inl (c.in-Ok.moved, Closes number HasEnded ∷ [], refl, has_ended number c.in-Ok.moved (λ done. HandlesOne number done new) c.in-Ended.is)));
      },
      λ none. absurd (let clash : true ≡ false = none in cc),
    )

pub returns-in-Some-clause-reads : goal.returns-in-Some-clause-reads
returns-in-Some-clause-reads g c =
    let now = c.args.now in
    let number = c.args.number in
    let here = connections_of c.args.self.now in
    let there = places_of c.read.new.self in
    let mid = standing_by c.args.turn.now there in
    let given = standing_by c.args.turn.now (places_of c.next_message.new.self) in
    let told = standing_by c.happen-effects.new.self (places_of c.next_message.new.self) in
    let new = served_by c.deliver.new.turn c.deliver.new.self in
    let handed = c.in-Some.ensures in
    let opened = open_become (HasHandedOver now c.in-Some.message.items) number there (places_of c.next_message.new.self) handed in
    let octets = c.deref.result.now in
    let goings = c.deliver.ensures.happened.0 in
    let handles = happened g.S.Stream g.N.Network g.L.Observer now (Arrives number octets) c.happen-effects.result goings mid given told new (
      handed.0,
      handed.1,
      handed.2,
      subst (λ (octets : List ℕ). HasHandedOver now octets handed.0 handed.1) (sym c.deref.ensures.value) handed.3,
      ap (standing_by c.args.turn.now) handed.4,
    )
    c.happen-effects.ensures.takes c.happen-effects.ensures.observed refl c.happen-effects.ensures.network c.deliver.ensures.happened.1 in
    let (moments, reads, idle) = read_then g.S.Stream g.N.Network g.L.Observer now number c.in-Ok.moved (Happens (Arrives number octets) c.happen-effects.result goings ∷ [])
    c.args.turn.now.primary.now c.args.turn.now.network.now c.args.turn.now.notes.now here there new c.in_default-moved.not-Ended (c.in-Ok.ensures.moved now) (inl opened) (new, handles, refl)
    (inl (octets, c.happen-effects.result, goings, refl)) in (
      moments,
      reads,
      λ none. absurd (let clash : true ≡ false = none in cc),
    )

pub returns-then-is_silent-clause-reads : goal.returns-then-is_silent-clause-reads
returns-then-is_silent-clause-reads g c =
    let now = c.args.now in
    let number = c.args.number in
    let here = connections_of c.args.self.now in
    let there = places_of c.read.new.self in
    let still = c.in_default-next_message.ensures.0 in
    let new = connections_of c.close-then-is_silent.new.self in
    let gone = closed_still number there (places_of c.next_message.new.self) new still c.close-then-is_silent.ensures.closed.gone in
    let silent = subst (λ (cs : List (Option (Connection g.row.S.Denot))). IsOpenWith (IsSilent now) (slice_get cs number)) still
    (c.is_silent.ensures.0 c.if-is_silent.true) in
    let opened = open_with (IsSilent now) (slice_get there number) silent in
    let ended = served_by c.close-then-is_silent.new.turn c.close-then-is_silent.new.self in
    let read = standing_by c.args.turn.now there in
    let told = standing c.args.turn.now.primary.now c.args.turn.now.network.now c.note-then-is_silent.new.self (places_of c.next_message.new.self) in
    let closed = closes g.S.Stream g.N.Network g.L.Observer now number Silent read (record read { notes = c.note-then-is_silent.new.self }) ended
    silent (record { rest = refl; noted = c.note-then-is_silent.ensures }) (closed_from g.L.Observer number there told ended gone c.close-then-is_silent.ensures.closed) in
    let (moments, reads, idle) = read_then g.S.Stream g.N.Network g.L.Observer now number c.in-Ok.moved (Closes number Silent ∷ []) c.args.turn.now.primary.now c.args.turn.now.network.now c.args.turn.now.notes.now
    here there ended c.in_default-moved.not-Ended (c.in-Ok.ensures.moved now) (inl opened) (ended, closed, refl) (inr (inr refl)) in (
      moments,
      reads,
      λ none. absurd (let clash : true ≡ false = none in cc),
    )

pub returns-clause-reads : goal.returns-clause-reads
returns-clause-reads g c =
    let waited = λ (none_done : c.ne.result ≡ false). elim c.in-Ok.moved as (λ m. c.in-Ok.moved ≡ m → m ≡ Later) [
      | Octets count ↦ λ is. absurd (let told : c.ne.result ≡ true = rw is at c.ne.ensures in let clash : true ≡ false = sym told ∙ none_done in cc)
      | Later ↦ λ is. refl
      | Ended ↦ λ is. absurd (c.in_default-moved.not-Ended is)
    ] refl in
    let now = c.args.now in
    let number = c.args.number in
    let here = connections_of c.args.self.now in
    let there = places_of c.read.new.self in
    let new = places_of c.next_message.new.self in
    let standing_as = standing_by c.args.turn.now in
    let (same, none) = c.in_default-next_message.ensures in
    let held = subst (λ (cs : List (Option (Connection g.row.S.Denot))). IsGoneOr (λ e. held_of e ≡ []) (slice_get cs number)) (sym same)
    (none_held (slice_get there number) none) in
    let (moments, reads, idle) = read_then g.S.Stream g.N.Network g.L.Observer now number c.in-Ok.moved [] c.args.turn.now.primary.now c.args.turn.now.network.now c.args.turn.now.notes.now
    here there (standing_as new) c.in_default-moved.not-Ended (c.in-Ok.ensures.moved now) (inr refl) (ap standing_as same) (inr (inl (refl, held))) in (
      moments,
      reads,
      λ nothing. idle (waited nothing) tt,
    )

pub returns-in_default-clause-silent : goal.returns-in_default-clause-silent
returns-in_default-clause-silent g c = λ silent. is_gone (IsInUse c.args.now) c.args.number (places_of c.read.new.self) (connections_of c.close.new.self) c.close.ensures.closed.gone

pub returns-in-Ended-clause-silent : goal.returns-in-Ended-clause-silent
returns-in-Ended-clause-silent g c = λ silent. is_gone (IsInUse c.args.now) c.args.number (places_of c.read.new.self) (connections_of c.close-in-Ended.new.self) c.close-in-Ended.ensures.closed.gone

pub returns-in-Some-clause-silent : goal.returns-in-Some-clause-silent
returns-in-Some-clause-silent g c = λ silent.
    let now = c.args.now in
    let told = standing_by c.happen-effects.new.self (places_of c.next_message.new.self) in
    let new = served_by c.deliver.new.turn c.deliver.new.self in
    let handed = handed_now now c.args.number c.in-Some.message.items (places_of c.read.new.self) (places_of c.next_message.new.self) c.in-Some.ensures in
    effects_stay g.N.Network g.L.Observer (IsInUse now) c.args.number (in_use_stays now) c.happen-effects.result c.deliver.ensures.happened.0 told new c.deliver.ensures.happened.1 handed

pub returns-then-is_silent-clause-silent : goal.returns-then-is_silent-clause-silent
returns-then-is_silent-clause-silent g c = λ silent.
    is_gone (IsInUse c.args.now) c.args.number (places_of c.next_message.new.self) (connections_of c.close-then-is_silent.new.self) c.close-then-is_silent.ensures.closed.gone

pub returns-clause-silent : goal.returns-clause-silent
returns-clause-silent g c = λ before.
    let silent = λ (is : IsOpenWith (IsSilent c.args.now) (slice_get (places_of c.next_message.new.self) c.args.number)).
    let told : c.is_silent.result ≡ true = c.is_silent.ensures.1 is in
    let not : c.is_silent.result ≡ false = c.if-is_silent.false in
    absurd (let clash : true ≡ false = sym told ∙ not in cc) in
    heard_none g.S.Stream c.args.now c.args.number c.in-Ok.moved (connections_of c.args.self.now) (places_of c.read.new.self) (places_of c.next_message.new.self)
    (c.in-Ok.ensures.moved c.args.now) c.in_default-next_message.ensures silent before
