-- The counts that are told of turns.
use Rattle.std.proofs.Common.{◌≡◌, ◌⊎◌, inl, inr, ℕ, Bool, true, false, List, [], ◌∷◌, ◌++◌, length, Option, Result, Ok, Err, IfOk, refl, sym, ap, subst, ◌∙◌, append-nil, arith}
use Rattle.std.proofs.lemmas.List.{length_push}
use borrow.Author.Tests.{eqb-true}
use Rattle.std.specs.Prelude.{◌+◌, ◌==◌, nat_le, not, ◌&&◌, is_ok}
use Rattle.std.specs.Io.KnownBytes.{Appends}
use Rattle.std.proofs.KnownBytes.{Appends-nil, Appends-trans}
use Rattle.dns_names.specs.Name.{Labels}
use Rattle.dns_zone.specs.declared.index.ZoneIndex as zone_index
use Rattle.dns_store.specs.declared.zone_store.ZoneStore as store
use Rattle.dns_primary.specs.Keeps.{IsKept}
use Rattle.dns_primary.specs.Machine.{Machine}
use Rattle.dns_primary.specs.Runs.{Moment, machine_at_end}
use Rattle.dns_primary.specs.Step.{Event}
use Rattle.dns_primary.specs.declared.event.Effects.{Effects}
use Rattle.dns_primary.specs.declared.primary.Primary.{Primary}
use Rattle.dns_network.specs.declared.network.Network.{Ghosts}
use Rattle.dns_network.specs.declared.network.Note.{Note}
use Rattle.dns_network.specs.declared.network.Note.TheVariants.{Unrecorded}
use Rattle.dns_network.specs.declared.network.Observer as notes
use Rattle.dns_network.specs.declared.stream.Stream as stream
use Rattle.dns_network.specs.declared.connection.Connection.{Connection}
use Rattle.dns_network.specs.Delivery.{Served}
use Rattle.dns_network.specs.Reports.{AreReportsOfTurn}
use Rattle.dns_network.specs.Runs.{IsRunOf, told_by}
use Rattle.dns_network.specs.Left.{RestLaw}
use Rattle.dns_network.specs.Notes.{AreReported, IsReported, OfEvent, OfNote, Report}
use Rattle.dns_network.specs.Steps.{AreSteps}
use Rattle.dns_network.specs.Turn.{TurnMoment}
use Rattle.dns_network.specs.Turns.{AreTurns, IsRound}
use Rattle.dns_network.proofs.Noted.{turns_noted}
use Rattle.dns_network.proofs.Running.{turns_run}
use Rattle.dns_network.proofs.Steps.{step_more}
use Rattle.dns_counters.specs.Counters.{counted_if, no_counts, with_report, with_reports}
use Rattle.dns_counters.specs.Lines.{counts_told}
use Rattle.dns_counters.specs.Telling.{IsToldIfDue, is_due}
use Rattle.dns_counters.specs.declared.counters.Counters.{Counters}
use Rattle.dns_counters.specs.declared.counting.Counting.{Counting}
use Rattle.dns_service.specs.Counting.{AreCountedTurns, all_of, counting_after}
use Rattle.dns_recording.specs.Recorder.{handed_on}
use Rattle.dns_service.specs.Watching.{uncounted}
use Rattle.dns_service.specs.ServedTurns.{BeginsCounting, IsCountedOn, served_at_start}

-- Counts are told in no second if they are told each none.
none_due : (now every next : ℕ) → true ≡ is_due now every next → every ≡ 0 → ⊥
none_due now every next due none = let clash : true ≡ false = due ∙ ap (λ (x : ℕ). not (x == 0) && nat_le next now) none in absurd (cc clash)

-- What was told, if it could be written.
pub told_after : {E : Type 0} (r : Result Bool E) (now every next : ℕ) (told same : Type 0) → is_ok r ≡ true → IsToldIfDue r told same → IfOk r (λ due. due ≡ is_due now every next)
    → same ⊎ ((every ≡ 0 → ⊥) × told)
told_after (Ok true) now every next told same is h due = inr (none_due now every next due, h)
told_after (Ok false) now every next told same is h due = inl h
told_after (Err e) now every next told same is h due = absurd (let clash : false ≡ true = is in cc)

pub both_true : (a b : Bool) → (a && b) ≡ true → (a ≡ true) × (b ≡ true)
both_true true true is = (refl, refl)
both_true true false is = absurd (let clash : false ≡ true = is in cc)
both_true false b is = absurd (let clash : false ≡ true = is in cc)

-- A primary that is served, and what the output holds.
pub record ServedTo (I D S N L : Type 0) (i : zone_index.Ghosts I) (d : store.Ghosts D) : Type 0 where
  pub served : Served I D S N L i d
  pub out : Option (List ℕ)

-- What an observer has counted that counts.
module _ {L : Type 0} (l : notes.Ghosts L) (counting : L → Counting) (noted : (old : L) (note : Note) (new : L) → l.takes old note new → counting new ≡ counting_after (counting old) (OfNote note))
    (seen : (old : L) (event : Event) (effects : Effects) (new : L) → l.observes old event effects new → counting new ≡ counting_after (counting old) (OfEvent event effects)) where
  each_counted : (old : L) (one : Report) (new : L) → IsReported l old one new → counting new ≡ counting_after (counting old) one
  each_counted old (OfNote note) new taken = noted old note new taken
  each_counted old (OfEvent event effects) new observed = seen old event effects new observed

  all_counted : (reports : List Report) (old new : L) (c : Counters) → AreReported l reports old new → (counting old).is_on ≡ true → (counting old).counters ≡ c
      → ((counting new).is_on ≡ true) × ((counting new).counters ≡ with_reports c reports)
  all_counted [] old new c same on is =
      (subst (λ (x : L). (counting x).is_on ≡ true) (sym same) on, subst (λ (x : L). (counting x).counters ≡ c) (sym same) is)
  all_counted (one ∷ rest) old new c (between, here, pending) on is =
      let step = each_counted old one between here in
      all_counted rest between new (with_report c one) pending (ap (λ (x : Counting). x.is_on) step ∙ on)
      (ap (λ (x : Counting). x.counters) step ∙ ap (λ (b : Bool). counted_if b (counting old).counters one) on ∙ ap (λ (x : Counters). with_report x one) is)

module _ {I D S N L : Type 0} {i : zone_index.Ghosts I} {d : store.Ghosts D} (s : stream.Ghosts S) (n : Ghosts N S) (l : notes.Ghosts L) (counting : L → Counting) (every : ℕ) (origins : List Labels) where
  -- A turn is made, after which nothing is told, or the counts are.
  pub record IsCountedRound (turn : List TurnMoment) (a b : ServedTo I D S N L i d) : Type 0 where
    pub round : IsRound s n l turn a.served b.served
    pub told : (b.out ≡ a.out) ⊎ ((every ≡ 0 → ⊥) × ((m : Machine) → IsKept b.served.primary m → Appends a.out b.out (counts_told (counting b.served.notes).counters origins m.zones)))

  abbrev pub AreCountedRounds : List (List TurnMoment) → ServedTo I D S N L i d → ServedTo I D S N L i d → Type 0
  AreCountedRounds = AreSteps (λ a turn b. IsCountedRound turn a b)

  -- So many were made.
  abbrev pub MadeCounted : ℕ → ServedTo I D S N L i d → ServedTo I D S N L i d → Type 0
  MadeCounted count a b = (turns : List (List TurnMoment)) × (length turns ≡ count) × AreCountedRounds turns a b

  pub one_more : (count : ℕ) (a old new : ServedTo I D S N L i d) (turn : List TurnMoment) → MadeCounted count a old → IsCountedRound turn old new → MadeCounted (count + 1) a new
  one_more count a old new turn (turns, many, made) is = (turns ++ turn ∷ [], omega (arith, many, length_push turns turn), step_more (λ x one y. IsCountedRound one x y) turns turn a old new made is)

  -- They are turns.
  rounds_of : (turns : List (List TurnMoment)) (a b : ServedTo I D S N L i d) → AreCountedRounds turns a b → AreTurns s n l turns a.served b.served
  rounds_of [] a b same = ap (λ (x : ServedTo I D S N L i d). x.served) same
  rounds_of (turn ∷ turns) a b (between, here, pending) = (between.served, here.round, rounds_of turns between b pending)

  module _ (law : RestLaw d) (noted : (old : L) (note : Note) (new : L) → l.takes old note new → counting new ≡ counting_after (counting old) (OfNote note))
      (seen : (old : L) (event : Event) (effects : Effects) (new : L) → l.observes old event effects new → counting new ≡ counting_after (counting old) (OfEvent event effects)) where
    -- What is told of turns from a machine.
    told_of : (turns : List (List TurnMoment)) (a b : ServedTo I D S N L i d) (m : Machine) (c : Counters) → AreCountedRounds turns a b → IsKept a.served.primary m
        → ((every ≡ 0 → ⊥) → ((counting a.served.notes).is_on ≡ true) × ((counting a.served.notes).counters ≡ c))
        → (texts : List (List ℕ)) × AreCountedTurns every origins c m turns texts × Appends a.out b.out (all_of texts)
    told_of [] a b m c same kept on = ([], tt, subst (λ (x : ServedTo I D S N L i d). Appends a.out x.out []) (sym same) (Appends-nil a.out))
    told_of (turn ∷ turns) a b m c (between, here, pending) kept on =
        let alone : AreTurns s n l (turn ∷ []) a.served between.served = (between.served, here.round, refl) in
        let to = turns_run s n l law (turn ∷ []) a.served between.served m alone kept in
        let took = turns_noted s n l (turn ∷ []) a.served between.served alone in
        let (first, later, reported, none, are) = took.1 in
        let all : took.0 ≡ first = are ∙ ap (λ (x : List Report). first ++ x) none ∙ append-nil first in
        let handed : AreReported l first a.served.notes between.served.notes = subst (λ (x : List Report). AreReported l x a.served.notes between.served.notes) all took.2 in
        let so_far = with_reports c first in
        let after = machine_at_end m to.0 in
        let counts : (every ≡ 0 → ⊥) → ((counting between.served.notes).is_on ≡ true) × ((counting between.served.notes).counters ≡ so_far) = λ some. all_counted l counting noted seen first a.served.notes between.served.notes c handed (on some).0 (on some).1 in
        let rest = told_of turns between b after so_far pending to.2 counts in
        go first reported to.0 to.1 rest (text_of here.told counts to.2)
      where
        go : (first : List Report) → AreReportsOfTurn turn first → (run : List Moment) → IsRunOf (told_by (turn ∷ [])) m run
            → ((texts : List (List ℕ)) × AreCountedTurns every origins (with_reports c first) (machine_at_end m run) turns texts × Appends between.out b.out (all_of texts))
            → ((text : List ℕ) × ((text ≡ []) ⊎ ((every ≡ 0 → ⊥) × (text ≡ counts_told (with_reports c first) origins (machine_at_end m run).zones))) × Appends a.out between.out text)
            → (texts : List (List ℕ)) × AreCountedTurns every origins c m (turn ∷ turns) texts × Appends a.out b.out (all_of texts)
        go first reported run ran (texts, each, later) (text, told, now) = (
          text ∷ texts,
          (record { reports = first; reported = reported; run = run; ran = ran; told = told }, each),
          Appends-trans a.out between.out b.out text (all_of texts) now later,
        )

        text_of : {so_far : Counters} {after : Machine} → (between.out ≡ a.out) ⊎ ((every ≡ 0 → ⊥) × ((m : Machine) → IsKept between.served.primary m → Appends a.out between.out (counts_told (counting between.served.notes).counters origins m.zones)))
            → ((every ≡ 0 → ⊥) → ((counting between.served.notes).is_on ≡ true) × ((counting between.served.notes).counters ≡ so_far)) → IsKept between.served.primary after
            → (text : List ℕ) × ((text ≡ []) ⊎ ((every ≡ 0 → ⊥) × (text ≡ counts_told so_far origins after.zones))) × Appends a.out between.out text
        text_of (inl same) counts kept = ([], inl refl, subst (λ (x : Option (List ℕ)). Appends a.out x []) (sym same) (Appends-nil a.out))
        text_of {so_far = so_far} {after = after} (inr (some, told)) counts kept = (
          counts_told so_far origins after.zones,
          inr (some, refl),
          subst (λ (x : Counters). Appends a.out between.out (counts_told x origins after.zones)) (counts some).1 (told after kept),
        )

    -- All turns were made, and counts were told of them.
    pub counted_on : (count : ℕ) (old new : Primary I D i d) (network network' : N) (first last : L) (connections : List (Option (Connection S))) (out out_after : Option (List ℕ))
        → MadeCounted count (record { served = served_at_start old network first; out = out }) (record { served = record { primary = new; connections = connections; network = network'; notes = last }; out = out_after })
        → IsCountedOn s n l every origins count old network first (counting first) out new network' last out_after
    counted_on count old new network network' first last connections out out_after (turns, many, made) = record {
      served = record {
        connections = connections;
        turns = turns;
        many = many;
        made = rounds_of turns _ _ made;
      };
      counts = λ begins m kept.
          let told = told_of turns _ _ m no_counts made kept (λ some. (begins.on some, begins.none)) in
          record { texts = told.0; each = told.1; written = told.2 };
    }

-- What a recorder handed on when it began is not counted.
pub start_counted : {L : Type 0} (l : notes.Ghosts L) (counting : L → Counting) → ((old : L) (note : Note) (new : L) → l.takes old note new → counting new ≡ counting_after (counting old) (OfNote note))
    → (o n : Bool) (first last : L) → AreReported l (handed_on o n []) first last → counting last ≡ counting first
start_counted l counting noted true false first last (between, ended, same) = ap counting same ∙ noted first Unrecorded between ended ∙ uncounted (counting first)
start_counted l counting noted true true first last same = ap counting same
start_counted l counting noted false n first last same = ap counting same

pub still_begins : (every : ℕ) (c d : Counting) → d ≡ c → BeginsCounting every c → BeginsCounting every d
still_begins every c d same begins = subst (λ (x : Counting). BeginsCounting every x) (sym same) begins

-- One begins that was made to count if counts are told each some seconds.
pub begins_so : (every : ℕ) {c : Counting} → c ≡ (record { counters = no_counts; is_on = not (every == 0) }) → BeginsCounting every c
begins_so every made = record { none = ap (λ (x : Counting). x.counters) made; on = λ some. ap (λ (x : Counting). x.is_on) made ∙ go (every == 0) refl some }
  where
    go : (b : Bool) → (every == 0) ≡ b → (every ≡ 0 → ⊥) → not b ≡ true
    go true is some = absurd (some (eqb-true every 0 is))
    go false is some = refl
