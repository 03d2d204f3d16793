-- The script of turns.
use Rattle.std.proofs.Common.{◌≡◌, inl, inr, ℕ, Bool, true, false, List, [], ◌∷◌, ◌++◌, Option, Some, None, refl, sym, ap, subst, ◌∙◌, append-nil}
use Rattle.std.specs.Io.KnownBytes.{Appends, append_known}
use Rattle.std.proofs.KnownBytes.{Appends-trans}
use Rattle.dns_zone.specs.declared.index.ZoneIndex as zone_index
use Rattle.dns_store.specs.declared.zone_store.ZoneStore as store
use Rattle.dns_primary.specs.Step.{Event}
use Rattle.dns_primary.specs.declared.event.Effects.{Effects}
use Rattle.dns_primary.specs.declared.primary.Primary.{Primary}
use Rattle.dns_primary.specs.Keeps.{IsKept}
use Rattle.dns_primary.specs.Machine.{Machine}
use Rattle.dns_network.specs.declared.network.Network.{Ghosts}
use Rattle.dns_network.specs.declared.network.Note.{Note}
use Rattle.dns_network.specs.declared.network.Note.TheVariants.{Unrecorded}
use Rattle.dns_network.specs.declared.network.Observer as notes
use Rattle.dns_network.specs.declared.stream.Stream as stream
use Rattle.dns_network.specs.Left.{RestLaw}
use Rattle.dns_network.specs.Notes.{AreReported, IsReported, OfEvent, OfNote, Report}
use Rattle.dns_network.specs.Reports.{AreReportsOfTurns}
use Rattle.dns_network.specs.Turn.{TurnMoment}
use Rattle.dns_network.proofs.Steps.{steps_on}
use Rattle.dns_recording.specs.Recorder.{AreHandedOn, AreRecorded, HasScripted, Recording, fresh_recording, handed_on, said_so_far, unstirred}
use Rattle.dns_recording.specs.Script.{Scripted, script_of}
use Rattle.dns_recording.proofs.Recorded.{RecordsOn, recorded_so, reports_recorded}
use Rattle.dns_service.specs.ServedTurns.{HasTurned, IsLedTo, IsServedOn}
use Rattle.dns_service.specs.Telling.{AreScripted}
use Rattle.dns_service.proofs.Logged.{says_all}
use Rattle.dns_service.proofs.Turned.{turned_from}

-- What is said first in a file.
abbrev pub first_said : List ℕ → Scripted
first_said comments = record { text = comments; stirred = unstirred }

known_all : (written : Option (List ℕ)) → append_known written [] ≡ written
known_all None = refl
known_all (Some xs) = ap (λ (x : List ℕ). Some x) (append-nil xs)

-- The script of reports comes after its comments, in a file to which all lines are written.
script_written : (comments : List ℕ) (reports : List Report) (script : Option (List ℕ)) (begun ended : Recording)
    → Appends (append_known script []) (said_so_far begun) comments → begun.stirred ≡ unstirred → Appends (said_so_far begun) (said_so_far ended) (script_of begun.stirred reports)
    → ended.lines ≡ [] → Appends script ended.written (comments ++ script_of unstirred reports)
script_written comments reports script begun ended first fresh later none =
    let all = comments ++ script_of unstirred reports in
    let more = Appends-trans (append_known script []) (said_so_far begun) (said_so_far ended) comments (script_of unstirred reports) first
    (subst (λ (x : List Bool). Appends (said_so_far begun) (said_so_far ended) (script_of x reports)) fresh later) in
    let whole = says_all script (said_so_far ended) all more in
    let written = subst (λ (x : List ℕ). Appends script (append_known ended.written x) all) none whole in
    subst (λ (x : Option (List ℕ)). Appends script x all) (known_all ended.written) written

-- What recorded turns tell, where it is known whether a script is wanted.
module _ {L : Type 0} (l : notes.Ghosts L) (comments : List ℕ) (script : Option (List ℕ)) (log between last : L) (turns : List (List TurnMoment)) (reports : List Report) (of_turns : AreReportsOfTurns turns reports) (begun ended : Recording) where
  -- These were told at first, and then those.
  handed_all : (first : List Report) (all : AreRecorded l reports begun ended between last) → AreReported l first log between → AreReported l (first ++ all.told) log last
  handed_all first all handed = steps_on (IsReported l) first all.told log between last handed all.handed

  -- None is wanted.
  none_wanted : HasScripted l (first_said comments) [] (fresh_recording false script) begun log between → AreRecorded l reports begun ended between last → AreScripted l false comments script ended.written turns log last
  none_wanted first all =
      let off = first.off refl in
      record {
        reports = reports;
        of_turns = of_turns;
        told = all.told;
        written = ((all.off off.is_off).written ∙ off.written, subst (λ (o : Bool). AreHandedOn o ended.is_on reports all.told) off.is_off all.are_told);
        handed = handed_all [] all first.handed;
      }

  -- One is wanted, and it records to the end, or no longer; or it ended before the first turn.
  module _ (first : HasScripted l (first_said comments) [] (fresh_recording true script) begun log between) (all : AreRecorded l reports begun ended between last) where
    to_the_end : begun.is_on ≡ true → ended.is_on ≡ true → ended.lines ≡ [] → AreScripted l true comments script ended.written turns log last
    to_the_end on still none =
        let said = (first.on on).1 in
        record {
          reports = reports;
          of_turns = of_turns;
          told = all.told;
          written = inl (
            script_written comments reports script begun ended said.text said.stirred (all.on still).1 none,
            subst (λ (n : Bool). AreHandedOn true n reports all.told) still (subst (λ (o : Bool). AreHandedOn o ended.is_on reports all.told) on all.are_told),
          );
          handed = handed_all [] all (subst (λ (n : Bool). AreReported l (handed_on true n []) log between) on first.handed);
        }

    ended_later : begun.is_on ≡ true → ended.is_on ≡ false → AreScripted l true comments script ended.written turns log last
    ended_later on off =
        let (before, one, after, are, as_told) = subst (λ (n : Bool). AreHandedOn true n reports all.told) off (subst (λ (o : Bool). AreHandedOn o ended.is_on reports all.told) on all.are_told) in
        record {
          reports = reports;
          of_turns = of_turns;
          told = all.told;
          written = inr (record { before = before; after = one ∷ after; reported = are; and_told = as_told });
          handed = handed_all [] all (subst (λ (n : Bool). AreReported l (handed_on true n []) log between) on first.handed);
        }

    ended_before : begun.is_on ≡ false → AreScripted l true comments script ended.written turns log last
    ended_before off =
        record {
          reports = reports;
          of_turns = of_turns;
          told = OfNote Unrecorded ∷ all.told;
          written = inr (record {
            before = [];
            after = reports;
            reported = refl;
            and_told = ap (λ (x : List Report). OfNote Unrecorded ∷ x) (subst (λ (o : Bool). AreHandedOn o ended.is_on reports all.told) off all.are_told);
          });
          handed = handed_all (OfNote Unrecorded ∷ []) all (subst (λ (n : Bool). AreReported l (handed_on true n []) log between) off first.handed);
        }

    one_wanted : (b e : Bool) → begun.is_on ≡ b → ended.is_on ≡ e → (ended.is_on ≡ true → ended.lines ≡ []) → AreScripted l true comments script ended.written turns log last
    one_wanted true true on still none = to_the_end on still (none still)
    one_wanted true false on off none = ended_later on off
    one_wanted false e off at none = ended_before off

  as_wanted : (wanted : Bool) → HasScripted l (first_said comments) [] (fresh_recording wanted script) begun log between → AreRecorded l reports begun ended between last
      → (ended.is_on ≡ true → ended.lines ≡ []) → AreScripted l wanted comments script ended.written turns log last
  as_wanted true first all none = one_wanted first all begun.is_on ended.is_on refl refl none
  as_wanted false first all none = none_wanted first all

-- Turns were made over a recorder of any kind, which stays the same one, and all lines of it are written.
pub has_recorded : {I D S N R L M : Type 0} {i : zone_index.Ghosts I} {d : store.Ghosts D} {s : stream.Ghosts S} {n : Ghosts N S} {r : notes.Ghosts R} {l : notes.Ghosts L}
    {count : ℕ} {old new : Primary I D i d} {network network' : N} {first last : R} {log log_after : L} {script_after : Option (List ℕ)}
    → RestLaw d → (is : IsServedOn s n r count old network first new network' last) (more : List (List TurnMoment) → Machine → Type 0) → ((m : Machine) → IsKept old m → more is.turns m)
    → (mark : R → M) (state : R → Recording) (behind : R → L)
    → ((x : R) (one : Note) (y : R) → r.takes x one y → RecordsOn l mark state behind (OfNote one) x y)
    → ((x : R) (event : Event) (effects : Effects) (y : R) → r.observes x event effects y → RecordsOn l mark state behind (OfEvent event effects) x y)
    → (wanted : Bool) (comments : Machine → List ℕ) (script : Option (List ℕ))
    → ((m : Machine) → IsKept old m → HasScripted l (first_said (comments m)) [] (fresh_recording wanted script) (state first) log (behind first))
    → ((state last).is_on ≡ true → (state last).lines ≡ [])
    → (mark last ≡ mark first → (script_after ≡ (state last).written) × (log_after ≡ behind last))
    → HasTurned count (λ turns m. AreScripted l wanted (comments m) script script_after turns log log_after × more turns m) (λ m. IsKept old m) (IsLedTo old new)
has_recorded {R = R} {L = L} {r = r} {l = l} {old = old} {first = first} {last = last} {log = log} {log_after = log_after} {script_after = script_after} law is more besides mark state behind taken observed wanted comments script begun none at =
    turned_from law (λ turns m. AreScripted l wanted (comments m) script script_after turns log log_after × more turns m) is
    (λ m kept took.
    let turns = is.turns in
    let so = reports_recorded r l mark state behind (recorded_so r l mark state behind taken observed) took.0 first last took.2 in
    let same = at so.0 in
    let made = as_wanted l (comments m) script log (behind first) (behind last) turns took.0 took.1 (state first) (state last) wanted (begun m kept) so.1 none in (
      subst (λ (x : Option (List ℕ)). AreScripted l wanted (comments m) script x turns log log_after) (sym same.0)
          (subst (λ (x : L). AreScripted l wanted (comments m) script (state last).written turns log x) (sym same.1) made),
      besides m kept,
    ))
