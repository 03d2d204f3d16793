-- What turns are of the machine.
use Rattle.std.proofs.Common.{◌≡◌, ◌⊎◌, inl, inr, ℕ, Bool, true, false, Option, List, [], ◌∷◌, ◌++◌, refl, ap, sym, subst, ◌∙◌}
use Rattle.std.specs.List.{flat_map}
use Rattle.std.proofs.lemmas.Grind.{flat_map-append}
use Rattle.dns_network.specs.declared.stream.Stream as stream
use Rattle.dns_zone.specs.declared.index.ZoneIndex as zone_index
use Rattle.dns_store.specs.declared.zone_store.ZoneStore as store
use Rattle.dns_versions.specs.Each.{Each2}
use Rattle.dns_primary.specs.declared.event.Effects.{Effects}
use Rattle.dns_primary.specs.declared.event.To.{To}
use Rattle.dns_primary.specs.declared.event.To.TheVariants as to
use Rattle.dns_primary.specs.declared.primary.Primary.{Primary}
use Rattle.dns_primary.specs.Machine.{Machine}
use Rattle.dns_primary.specs.Flush.{Sent, all_out}
use Rattle.dns_primary.specs.Keeps.{IsKept}
use Rattle.dns_primary.specs.Step as machine
use Rattle.dns_primary.specs.Step.{Event, Datagram, Connect, Arrives, Flush, Checkpoint, Pump, Closed, Step}
use Rattle.dns_primary.specs.Runs.{Moment, Took, Run, machine_at_end, machine_after}
use Rattle.dns_network.specs.declared.network.Network.{Ghosts}
use Rattle.dns_network.specs.declared.network.Note.{Note}
use Rattle.dns_network.specs.declared.network.Note.TheVariants as note
use Rattle.dns_network.specs.declared.network.Observer as notes
use Rattle.dns_network.specs.Closing.{Cause, HasEnded, Silent, Stalled, NoMemory, NoPlace}
use Rattle.dns_network.specs.Delivery.{Served, Going, AreGoing, HasEffects, HasNoted, IsSent, TakesEvent}
use Rattle.dns_network.specs.Turn.{TurnMoment, Asks, Moves, Connects, Refuses, Happens, Closes, AreMoments, HasAsked, EventComes, IsCauseNoted, IsMoment}
use Rattle.dns_network.specs.Turns.{AreDone, AreTurns, IsTurn}
use Rattle.dns_network.specs.Left.{LeadsThrough, RestLaw}
use Rattle.dns_network.specs.Runs.{IsRunOf, IsStepOf, Told, closed_for, closing, told_by, told_in, told_of}
use Rattle.dns_network.proofs.Left.{leads_nowhere, leads_on, led_by}

run_on : (first later : List Moment) (m : Machine) → Run m first → Run (machine_at_end m first) later → Run m (first ++ later)
run_on [] later m is more = more
run_on (t ∷ rest) later m (here, is) more = (here, run_on rest later (machine_after t) is more)

last_on : (first later : List Moment) (m : Machine) → machine_at_end (machine_at_end m first) later ≡ machine_at_end m (first ++ later)
last_on [] later m = refl
last_on (t ∷ rest) later m = last_on rest later (machine_after t)

each_on : (first later : List Told) (run more : List Moment) → Each2 IsStepOf first run → Each2 IsStepOf later more → Each2 IsStepOf (first ++ later) (run ++ more)
each_on [] later [] more is next = next
each_on (one ∷ rest) later (t ∷ run) more (here, is) next = (here, each_on rest later run more is next)
each_on [] later (t ∷ run) more is next = absurd is
each_on (one ∷ rest) later [] more is next = absurd is

-- A run of these from a machine that a primary keeps, to one that the other keeps.
record RunsTo {I D : Type 0} {i : zone_index.Ghosts I} {d : store.Ghosts D} (told : List Told) (old new : Primary I D i d) (start : Machine) : Type 0 where
  pub run : List Moment
  pub runs : Run start run
  pub each : Each2 IsStepOf told run
  pub kept : IsKept new (machine_at_end start run)
  pub left : RestLaw d → LeadsThrough old new start run

closing_is : (number : ℕ) (fails : List Bool) (m next : Machine) (stated : machine.Effects) → Step fails m (Closed number) stated next
    → IsStepOf (closing number) (Took (Closed number) fails stated next)
closing_is number fails m next stated (inl (none, gives)) = (refl, ap (λ (out : List Sent). all_out out) gives.sent, gives.accepted, gives.noted)
closing_is number fails m next stated (inr lacks) = absurd (let clash : false ≡ true = lacks.takes in cc)

module _ {I D : Type 0} {i : zone_index.Ghosts I} {d : store.Ghosts D} where
  -- no event is a run of no moment
  none_told : (old new : Primary I D i d) (m : Machine) → new ≡ old → IsKept old m → RunsTo [] old new m
  none_told old new m same kept = record {
    run = [];
    runs = tt;
    each = tt;
    kept = subst (λ (p : Primary I D i d). IsKept p m) (sym same) kept;
    left = λ law. subst (λ (p : Primary I D i d). LeadsThrough old p m []) (sym same) (leads_nowhere law old m kept);
  }

  -- one run after another
  told_on : (first later : List Told) (old mid new : Primary I D i d) (m : Machine) → RunsTo first old mid m
      → ((e : Machine) → IsKept mid e → RunsTo later mid new e) → RunsTo (first ++ later) old new m
  told_on first later old mid new m is more =
      let next = more (machine_at_end m is.run) is.kept in
      record {
        run = is.run ++ next.run;
        runs = run_on is.run next.run m is.runs next.runs;
        each = each_on first later is.run next.run is.each next.each;
        kept = subst (λ (e : Machine). IsKept new e) (last_on is.run next.run m) next.kept;
        left = λ law. leads_on m is.run next.run old mid new (is.left law) (next.left law);
      }

  -- nothing more is done to the primary
  told_still : (told : List Told) (old mid new : Primary I D i d) (m : Machine) → new ≡ mid → RunsTo told old mid m → RunsTo told old new m
  told_still told old mid new m same is = subst (λ (p : Primary I D i d). RunsTo told old p m) (sym same) is

  -- it came from one that is the same
  told_from : (told : List Told) (first old new : Primary I D i d) (m : Machine) → old ≡ first → RunsTo told old new m → RunsTo told first new m
  told_from told first old new m same is = subst (λ (p : Primary I D i d). RunsTo told p new m) same is

told_append : (first last : List TurnMoment) → flat_map told_in first ++ flat_map told_in last ≡ flat_map told_in (first ++ last)
told_append first last = sym (flat_map-append told_in first last)

module _ {I D : Type 0} {i : zone_index.Ghosts I} {d : store.Ghosts D} where
  -- an event that a primary takes
  event_told : (event : Event) (effects : Effects) (old new : Primary I D i d) (m : Machine) → TakesEvent old event new effects → IsKept old m
      → RunsTo (told_of event effects ∷ []) old new m
  event_told event effects old new m takes kept =
      let step = takes m kept in
      record {
        run = Took event step.fails step.stated step.next ∷ [];
        runs = (step.is, tt);
        each = ((refl, step.effects_are.sent, step.effects_are.accepted, step.effects_are.noted), tt);
        kept = step.kept;
        left = λ law. led_by m event step.fails step.stated step.next old new step.any_moment step.honest;
      }

  closing_told : (number : ℕ) (effects : Effects) (old new : Primary I D i d) (m : Machine) → TakesEvent old (Closed number) new effects → IsKept old m
      → RunsTo (closing number ∷ []) old new m
  closing_told number effects old new m takes kept =
      let step = takes m kept in
      record {
        run = Took (Closed number) step.fails step.stated step.next ∷ [];
        runs = (step.is, tt);
        each = (closing_is number step.fails m step.next step.stated step.is, tt);
        kept = step.kept;
        left = λ law. led_by m (Closed number) step.fails step.stated step.next old new step.any_moment step.honest;
      }

module _ {I D S N L : Type 0} {i : zone_index.Ghosts I} {d : store.Ghosts D} (n : Ghosts N S) (l : notes.Ghosts L) where
  -- where the primary stays
  stays : (old new : Served I D S N L i d) (m : Machine) → new.primary ≡ old.primary → IsKept old.primary m → IsKept new.primary m
  stays old new m same kept = subst (λ (p : Primary I D i d). IsKept p m) (sym same) kept

  noted_stays : (one : Note) (old new : Served I D S N L i d) → HasNoted l one old new → new.primary ≡ old.primary
  noted_stays one old new is = ap (λ (x : Served I D S N L i d). x.primary) is.rest

  cut_stays : {P Q : Type 0} (old new : Served I D S N L i d) → (P × (new ≡ old)) ⊎ (Q × HasNoted l note.OutOfMemory old new) → new.primary ≡ old.primary
  cut_stays old new (inl (long, same)) = ap (λ (x : Served I D S N L i d). x.primary) same
  cut_stays old new (inr (there, noted)) = noted_stays note.OutOfMemory old new noted

  cause_stays : (number : ℕ) (cause : Cause) (old new : Served I D S N L i d) → IsCauseNoted l number cause old new → new.primary ≡ old.primary
  cause_stays number HasEnded old new same = ap (λ (x : Served I D S N L i d). x.primary) same
  cause_stays number Silent old new noted = noted_stays (note.Silent number) old new noted
  cause_stays number Stalled old new noted = noted_stays (note.Stalled number) old new noted
  cause_stays number NoMemory old new noted = noted_stays note.OutOfMemory old new noted
  cause_stays number NoPlace old new same = ap (λ (x : Served I D S N L i d). x.primary) same

  sent_told : (target : To) (reply : List ℕ) (cut : Bool) (old new : Served I D S N L i d) (m : Machine) → IsSent n l target reply cut old new → IsKept old.primary m
      → RunsTo (closed_for target cut) old.primary new.primary m
  sent_told (to.Address peer) reply false old new m is kept =
      none_told old.primary new.primary m (ap (λ (x : Served I D S N L i d). x.primary) is.0) kept
  sent_told (to.Connection number) reply false old new m is kept =
      none_told old.primary new.primary m (ap (λ (x : Served I D S N L i d). x.primary) is.0) kept
  sent_told (to.Connection number) reply true old new m is kept =
      told_from (closing number ∷ []) old.primary is.told.primary new.primary m (cut_stays old is.told is.cause)
      (closing_told number is.closed.effects is.told.primary new.primary m is.closed.told (stays old is.told m (cut_stays old is.told is.cause) kept))
  sent_told to.Nowhere reply false old new m is kept =
      none_told old.primary new.primary m (ap (λ (x : Served I D S N L i d). x.primary) is) kept
  sent_told (to.Address peer) reply true old new m is kept = absurd is
  sent_told to.Nowhere reply true old new m is kept = absurd is

  goings_told : (goings : List Going) (old new : Served I D S N L i d) (m : Machine) → AreGoing n l goings old new → IsKept old.primary m
      → RunsTo (flat_map (λ going. closed_for going.to going.cut) goings) old.primary new.primary m
  goings_told [] old new m is kept =
      none_told old.primary new.primary m (ap (λ (x : Served I D S N L i d). x.primary) is) kept
  goings_told (one ∷ rest) old new m (between, here, is) kept =
      told_on (closed_for one.to one.cut) (flat_map (λ going. closed_for going.to going.cut) rest) old.primary between.primary new.primary m
      (sent_told one.to one.octets one.cut old between m here kept) (λ e kept'. goings_told rest between new e is kept')

  effects_told : (effects : Effects) (goings : List Going) (old new : Served I D S N L i d) (m : Machine) → HasEffects n l effects goings old new
      → IsKept old.primary m → RunsTo (flat_map (λ going. closed_for going.to going.cut) goings) old.primary new.primary m
  effects_told effects goings old new m is kept =
      let run = goings_told goings old is.between m is.sent kept in
      told_still (flat_map (λ going. closed_for going.to going.cut) goings) old.primary is.between.primary new.primary m (ap (λ (x : Served I D S N L i d). x.primary) is.rest) run

  given_stays : (now : ℕ) (event : Event) (old given : Served I D S N L i d) → EventComes n now event old given → given.primary ≡ old.primary
  given_stays now (Datagram peer octets) old given is = ap (λ (x : Served I D S N L i d). x.primary) is.0
  given_stays now (Arrives number message) old given is = ap (λ (x : Served I D S N L i d). x.primary) is.4
  given_stays now (Pump number) old given is = ap (λ (x : Served I D S N L i d). x.primary) is
  given_stays now Flush old given is = ap (λ (x : Served I D S N L i d). x.primary) is
  given_stays now (Connect peer) old given is = absurd is
  given_stays now (Checkpoint index) old given is = absurd is
  given_stays now (Closed number) old given is = absurd is

  asked_stays : (old new : Served I D S N L i d) → HasAsked n old new → new.primary ≡ old.primary
  asked_stays old new is = ap (λ (x : Served I D S N L i d). x.primary) is.rest

module _ {I D S N L : Type 0} {i : zone_index.Ghosts I} {d : store.Ghosts D} (s : stream.Ghosts S) (n : Ghosts N S) (l : notes.Ghosts L) where
  moment_told : (now : ℕ) (one : TurnMoment) (old new : Served I D S N L i d) (m : Machine) → IsMoment s n l now one old new → IsKept old.primary m
      → RunsTo (told_in one) old.primary new.primary m
  moment_told now Asks old new m is kept = none_told old.primary new.primary m (asked_stays n l old new is) kept
  moment_told now (Moves number answer) old new m is kept =
      none_told old.primary new.primary m (ap (λ (x : Served I D S N L i d). x.primary) is.rest) kept
  moment_told now (Connects peer effects) old new m is kept = event_told (Connect peer) effects old.primary new.primary m is.taken.told kept
  moment_told now (Refuses peer) old new m is kept =
      none_told old.primary new.primary m (ap (λ (x : Served I D S N L i d). x.primary) is.rest) kept
  moment_told now (Happens event effects goings) old new m is kept =
      told_on (told_of event effects ∷ []) (flat_map (λ going. closed_for going.to going.cut) goings) old.primary is.told.primary new.primary m
      (told_from (told_of event effects ∷ []) old.primary is.given.primary is.told.primary m (given_stays n l now event old is.given is.is_given)
      (event_told event effects is.given.primary is.told.primary m is.takes (stays n l old is.given m (given_stays n l now event old is.given is.is_given) kept)))
      (λ e kept'. effects_told n l effects goings is.told new e is.happened kept')
  moment_told now (Closes number cause) old new m is kept =
      told_from (closing number ∷ []) old.primary is.told.primary new.primary m (cause_stays n l number cause old is.told is.noted)
      (closing_told number is.closed.effects is.told.primary new.primary m is.closed.told (stays n l old is.told m (cause_stays n l number cause old is.told is.noted) kept))

  moments_told : (now : ℕ) (moments : List TurnMoment) (old new : Served I D S N L i d) (m : Machine) → AreMoments s n l now moments old new → IsKept old.primary m
      → RunsTo (flat_map told_in moments) old.primary new.primary m
  moments_told now [] old new m is kept =
      none_told old.primary new.primary m (ap (λ (x : Served I D S N L i d). x.primary) is) kept
  moments_told now (one ∷ rest) old new m (between, here, is) kept =
      told_on (told_in one) (flat_map told_in rest) old.primary between.primary new.primary m
      (moment_told now one old between m here kept) (λ e kept'. moments_told now rest between new e is kept')

  pub moments_kept : (now : ℕ) (moments : List TurnMoment) (old new : Served I D S N L i d) (m : Machine) → AreMoments s n l now moments old new
      → IsKept old.primary m → (e : Machine) × IsKept new.primary e
  moments_kept now moments old new m is kept =
      let run = moments_told now moments old new m is kept in
      (machine_at_end m run.run, run.kept)

  paused : (old new : Served I D S N L i d) (m : Machine) → (new ≡ old) ⊎ HasAsked n old new → IsKept old.primary m → IsKept new.primary m
  paused old new m (inl same) kept = stays n l old new m (ap (λ (x : Served I D S N L i d). x.primary) same) kept
  paused old new m (inr asked) kept = stays n l old new m (asked_stays n l old new asked) kept

  done_told : (now : ℕ) (rested : Option ℕ) (moments : List TurnMoment) (old new : Served I D S N L i d) (m : Machine) → AreDone s n l now rested moments old new → IsKept old.primary m
      → RunsTo (flat_map told_in moments) old.primary new.primary m
  done_told now rested moments old new m is kept =
      subst (λ (l : List Told). RunsTo l old.primary new.primary m)
      (told_append is.first is.last ∙ ap (flat_map told_in) (sym is.are))
      (told_on (flat_map told_in is.first) (flat_map told_in is.last) old.primary is.between.primary new.primary m
      (moments_told now is.first old is.between m is.done kept) (λ e kept'. moments_told now is.last is.between new e is.flushed kept'))

  -- what is noted changes nothing of it
  turn_told : (now : ℕ) (rested : Option ℕ) (moments : List TurnMoment) (old new : Served I D S N L i d) (m : Machine) → IsTurn s n l now rested moments old new → IsKept old.primary m
      → RunsTo (flat_map told_in moments) old.primary new.primary m
  turn_told now rested moments old new m is kept =
      let begun = noted_stays n l (note.Begins now) old is.begun is.begins in
      let run = done_told now rested moments is.begun is.ended m is.done (stays n l old is.begun m begun kept) in
      told_still (flat_map told_in moments) old.primary is.ended.primary new.primary m (noted_stays n l note.Ends is.ended new is.ends)
      (told_from (flat_map told_in moments) old.primary is.begun.primary is.ended.primary m begun run)

  pause_stays : (old new : Served I D S N L i d) → (new ≡ old) ⊎ HasAsked n old new → new.primary ≡ old.primary
  pause_stays old new (inl same) = ap (λ (x : Served I D S N L i d). x.primary) same
  pause_stays old new (inr asked) = asked_stays n l old new asked

  turns_to : (turns : List (List TurnMoment)) (old new : Served I D S N L i d) (m : Machine) → AreTurns s n l turns old new → IsKept old.primary m
      → RunsTo (told_by turns) old.primary new.primary m
  turns_to [] old new m is kept =
      none_told old.primary new.primary m (ap (λ (x : Served I D S N L i d). x.primary) is) kept
  turns_to (one ∷ rest) old new m (between, here, is) kept =
      told_on (flat_map told_in one) (told_by rest) old.primary between.primary new.primary m
      (told_still (flat_map told_in one) old.primary here.ended.primary between.primary m (pause_stays here.ended between here.after)
      (told_from (flat_map told_in one) old.primary here.begun.primary here.ended.primary m (pause_stays old here.begun here.before)
      (turn_told here.now here.rested one here.begun here.ended m here.turn (paused old here.begun m here.before kept))))
      (λ e kept'. turns_to rest between new e is kept')

  pub turns_run : RestLaw d → (turns : List (List TurnMoment)) (old new : Served I D S N L i d) (m : Machine) → AreTurns s n l turns old new → IsKept old.primary m
      → (run : List Moment) × IsRunOf (told_by turns) m run × IsKept new.primary (machine_at_end m run) × LeadsThrough old.primary new.primary m run
  turns_run law turns old new m is kept =
      let made = turns_to turns old new m is kept in
      (made.run, record { runs = made.runs; each = made.each }, made.kept, made.left law)
