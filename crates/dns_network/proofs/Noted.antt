-- What is reported of turns.
use Rattle.std.proofs.Common.{◌≡◌, ◌⊎◌, inl, inr, ℕ, ◌<◌, Bool, true, false, Option, List, [], ◌∷◌, ◌++◌, length, refl, ap, sym, subst}
use Rattle.dns_network.specs.declared.stream.Stream as stream
use Rattle.dns_zone.specs.declared.index.ZoneIndex as zone_index
use Rattle.dns_store.specs.declared.zone_store.ZoneStore as store
use Rattle.dns_primary.specs.declared.event.Effects.{Effects}
use Rattle.dns_primary.specs.declared.event.To.{To}
use Rattle.dns_primary.specs.declared.event.To.TheVariants as to
use Rattle.dns_primary.specs.Step.{Event, Datagram, Connect, Arrives, Flush, Checkpoint, Pump, Closed}
use Rattle.dns_network.specs.declared.network.Network.{Ghosts}
use Rattle.dns_network.specs.declared.network.Note.{Note}
use Rattle.dns_network.specs.declared.network.Note.TheVariants as note
use Rattle.dns_network.specs.declared.network.Observer as notes
use Rattle.dns_network.specs.Closing.{Cause, HasEnded, Silent, Stalled, NoMemory, NoPlace}
use Rattle.dns_network.specs.Connections.{is_open}
use Rattle.dns_network.specs.Delivery.{ClosedInstead, Going, HasNoted, IsSent, Served}
use Rattle.dns_network.specs.Notes.{Report, OfNote, OfEvent, AreNoted, AreReported, IsReported, notes_of, notes_of_opened, of_notes}
use Rattle.dns_network.specs.Reports.{AreNotesOfReply, AreOfEach, AreReportsOfMoment, AreReportsOfTurn, AreReportsOfTurns, notes_of_cause}
use Rattle.dns_network.specs.Steps.{AreSteps}
use Rattle.dns_network.specs.Turn.{ClosedFor, EventComes, HasAsked, HasHappened, IsCauseNoted, IsMoment}
use Rattle.dns_network.specs.Turns.{AreDone, AreTurns, IsRound, IsTurn}
use Rattle.dns_network.specs.Turn.{TurnMoment, Asks, Moves, Connects, Refuses, Happens, Closes}
use Rattle.dns_network.proofs.Steps.{steps_on}

module _ {L R : Type 0} (takes : L → R → L → Type 0) where
  -- Reports of which this holds were taken.
  abbrev pub TookAll : (List R → Type 0) → L → L → Type 0
  TookAll told first last = (taken : List R) × told taken × AreSteps takes taken first last

  -- What holds of the reports of each step holds of all.
  pub steps_taken : {S T : Type 0} (log : S → L) (step : S → T → S → Type 0) (told : T → List R → Type 0)
      → ((old : S) (one : T) (new : S) → step old one new → TookAll (told one) (log old) (log new))
      → (all : List T) (old new : S) → AreSteps step all old new → TookAll (AreOfEach told all) (log old) (log new)
  steps_taken log step told each [] old new same = ([], refl, ap log same)
  steps_taken log step told each (one ∷ rest) old new (between, here, pending) =
      let first = each old one between here in
      let later = steps_taken log step told each rest between new pending in
      (first.0 ++ later.0, (first.0, later.0, first.1, later.1, refl), steps_on takes first.0 later.0 (log old) (log between) (log new) first.2 later.2)

module _ {L : Type 0} (l : notes.Ghosts L) where
  abbrev pub TookNotes : (List Note → Type 0) → L → L → Type 0
  TookNotes = TookAll (λ x a y. l.takes x a y)

  abbrev pub Took : (List Report → Type 0) → L → L → Type 0
  Took = TookAll (IsReported l)

  -- Notes that were taken are reported.
  pub notes_reported : (taken : List Note) (old new : L) → AreNoted l taken old new → AreReported l (of_notes taken) old new
  notes_reported [] old new same = same
  notes_reported (one ∷ rest) old new (between, here, pending) = (between, here, notes_reported rest between new pending)

  pub reported_as : (taken : List Note) (old new : L) → AreNoted l taken old new → Took (λ reports. reports ≡ of_notes taken) old new
  reported_as taken old new are = (of_notes taken, refl, notes_reported taken old new are)

module _ {I D S N L : Type 0} {i : zone_index.Ghosts I} {d : store.Ghosts D} (s : stream.Ghosts S) (n : Ghosts N S) (l : notes.Ghosts L) where
  abbrev log_of : Served I D S N L i d → L
  log_of served = served.notes

  -- A connection is closed in the stead of a reply.
  cut_noted : (number : ℕ) (reply : List ℕ) (old new : Served I D S N L i d) → ClosedInstead l number reply old new → TookNotes l (AreNotesOfReply (to.Connection number) reply true) old.notes new.notes
  cut_noted number reply old new is = go is.cause
    where
      go : ((65535 < length reply) × (is.told ≡ old)) ⊎ ((is_open number old.connections ≡ true) × HasNoted l note.OutOfMemory old is.told) → TookNotes l (AreNotesOfReply (to.Connection number) reply true) old.notes new.notes
      go (inl (long, same)) = (note.Closed number ∷ [], inl (long, refl), (new.notes, subst (λ (x : Served I D S N L i d). l.takes x.notes (note.Closed number) new.notes) same is.closed.noted, refl))
      go (inr (there, first)) = (note.OutOfMemory ∷ note.Closed number ∷ [], inr refl, (is.told.notes, first.noted, (new.notes, is.closed.noted, refl)))

  sent_noted : (going : To) (reply : List ℕ) (cut : Bool) (old new : Served I D S N L i d) → IsSent n l going reply cut old new → TookNotes l (AreNotesOfReply going reply cut) old.notes new.notes
  sent_noted (to.Address peer) reply false old new h = ([], refl, ap log_of h.0)
  sent_noted (to.Address peer) reply true old new h = absurd h
  sent_noted (to.Connection number) reply false old new h = ([], refl, ap log_of h.0)
  sent_noted (to.Connection number) reply true old new h = cut_noted number reply old new h
  sent_noted to.Nowhere reply false old new h = ([], refl, ap log_of h)
  sent_noted to.Nowhere reply true old new h = absurd h

  -- Nothing is noted where an event comes.
  come_noted : (now : ℕ) (event : Event) (old given : Served I D S N L i d) → EventComes n now event old given → given.notes ≡ old.notes
  come_noted now (Datagram peer octets) old given h = ap log_of h.0
  come_noted now (Arrives number message) old given h = ap log_of h.4
  come_noted now (Pump number) old given h = ap log_of h
  come_noted now Flush old given h = ap log_of h
  come_noted now (Connect peer) old given h = absurd h
  come_noted now (Checkpoint index) old given h = absurd h
  come_noted now (Closed number) old given h = absurd h

  closed_noted : (now number : ℕ) (cause : Cause) (old new : Served I D S N L i d) → ClosedFor s l now number cause old new → AreNoted l (notes_of_cause number cause ++ note.Closed number ∷ []) old.notes new.notes
  closed_noted now number cause old new is = go cause is.noted
    where
      alone : is.told ≡ old → AreNoted l (note.Closed number ∷ []) old.notes new.notes
      alone same = (new.notes, subst (λ (x : Served I D S N L i d). l.takes x.notes (note.Closed number) new.notes) same is.closed.noted, refl)

      after : (one : Note) → HasNoted l one old is.told → AreNoted l (one ∷ note.Closed number ∷ []) old.notes new.notes
      after one first = (is.told.notes, first.noted, (new.notes, is.closed.noted, refl))

      go : (cause : Cause) → IsCauseNoted l number cause old is.told → AreNoted l (notes_of_cause number cause ++ note.Closed number ∷ []) old.notes new.notes
      go HasEnded same = alone same
      go Silent first = after (note.Silent number) first
      go Stalled first = after (note.Stalled number) first
      go NoMemory first = after note.OutOfMemory first
      go NoPlace same = alone same

  -- An event is observed, and then what its replies and its effects note is taken.
  happened_noted : (now : ℕ) (event : Event) (effects : Effects) (goings : List Going) (old new : Served I D S N L i d) → HasHappened n l now event effects goings old new
      → Took l (AreReportsOfMoment (Happens event effects goings)) old.notes new.notes
  happened_noted now event effects goings old new h =
      let closings = steps_taken (λ x a y. l.takes x a y) log_of (λ x one y. IsSent n l one.to one.octets one.cut x y) (λ one. AreNotesOfReply one.to one.octets one.cut)
      (λ x one y sent. sent_noted one.to one.octets one.cut x y sent) goings h.told h.happened.between h.happened.sent in
      let noted : AreNoted l (closings.0 ++ notes_of effects.noted) h.told.notes new.notes =
      steps_on (λ x a y. l.takes x a y) closings.0 (notes_of effects.noted) h.told.notes h.happened.between.notes new.notes closings.2 h.happened.noted in
      let observed : l.observes old.notes event effects h.told.notes =
      subst (λ (x : L). l.observes x event effects h.told.notes) (come_noted now event old h.given h.is_given) h.observed in (
        OfEvent event effects ∷ of_notes (closings.0 ++ notes_of effects.noted),
        (closings.0, closings.1, refl),
        (h.told.notes, observed, notes_reported l (closings.0 ++ notes_of effects.noted) h.told.notes new.notes noted),
      )

  moment_noted : (now : ℕ) (one : TurnMoment) (old new : Served I D S N L i d) → IsMoment s n l now one old new → Took l (AreReportsOfMoment one) old.notes new.notes
  moment_noted now Asks old new h = ([], refl, ap log_of h.rest)
  moment_noted now (Moves number answer) old new h = ([], refl, ap log_of h.rest)
  moment_noted now (Connects peer effects) old new h = reported_as l (notes_of effects.noted ++ notes_of_opened effects.accepted peer) old.notes new.notes h.taken.noted
  moment_noted now (Refuses peer) old new h = reported_as l (note.Refused ∷ []) old.notes new.notes (new.notes, h.noted, refl)
  moment_noted now (Happens event effects goings) old new h = happened_noted now event effects goings old new h
  moment_noted now (Closes number cause) old new h =
      reported_as l (notes_of_cause number cause ++ note.Closed number ∷ []) old.notes new.notes (closed_noted now number cause old new h)

  done_noted : (now : ℕ) (rested : Option ℕ) (moments : List TurnMoment) (old new : Served I D S N L i d) → AreDone s n l now rested moments old new → Took l (AreOfEach AreReportsOfMoment moments) old.notes new.notes
  done_noted now rested moments old new is =
      let step = λ (x : Served I D S N L i d) (one : TurnMoment) (y : Served I D S N L i d). IsMoment s n l now one x y in
      subst (λ (all : List TurnMoment). Took l (AreOfEach AreReportsOfMoment all) old.notes new.notes) (sym is.are)
      (steps_taken (IsReported l) log_of step AreReportsOfMoment (λ x one y h. moment_noted now one x y h) (is.first ++ is.last) old new (steps_on step is.first is.last old is.between new is.done is.flushed))

  turn_noted : (now : ℕ) (rested : Option ℕ) (moments : List TurnMoment) (old new : Served I D S N L i d) → IsTurn s n l now rested moments old new → Took l (AreReportsOfTurn moments) old.notes new.notes
  turn_noted now rested moments old new is =
      let within = done_noted now rested moments is.begun is.ended is.done in (
        OfNote (note.Begins now) ∷ within.0 ++ OfNote note.Ends ∷ [],
        (now, within.0, within.1, refl),
        (
          is.begun.notes,
          is.begins.noted,
          steps_on (IsReported l) within.0 (OfNote note.Ends ∷ []) is.begun.notes is.ended.notes new.notes within.2 (new.notes, is.ends.noted, refl),
        ),
      )

  -- Nothing is noted where the network is asked, or waits.
  rest_noted : (old new : Served I D S N L i d) → (new ≡ old) ⊎ HasAsked n old new → new.notes ≡ old.notes
  rest_noted old new (inl same) = ap log_of same
  rest_noted old new (inr asked) = ap log_of asked.rest

  round_noted : (moments : List TurnMoment) (old new : Served I D S N L i d) → IsRound s n l moments old new → Took l (AreReportsOfTurn moments) old.notes new.notes
  round_noted moments old new is =
      let told = AreReportsOfTurn moments in
      subst (λ (x : L). Took l told x new.notes) (rest_noted old is.begun is.before)
      (subst (λ (x : L). Took l told is.begun.notes x) (sym (rest_noted is.ended new is.after)) (turn_noted is.now is.rested moments is.begun is.ended is.turn))

  pub turns_noted : (turns : List (List TurnMoment)) (old new : Served I D S N L i d) → AreTurns s n l turns old new → Took l (AreReportsOfTurns turns) old.notes new.notes
  turns_noted = steps_taken (IsReported l) log_of (λ x moments y. IsRound s n l moments x y) AreReportsOfTurn (λ x moments y h. round_noted moments x y h)
