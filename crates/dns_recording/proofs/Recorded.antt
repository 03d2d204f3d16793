-- What a recorder says of reports, one after the other.
use Rattle.std.proofs.Common.{◌≡◌, Bool, true, false, List, [], ◌∷◌, ◌++◌, refl, sym, ap, subst, ◌∙◌}
use Rattle.std.specs.Io.KnownBytes.{Appends}
use Rattle.std.proofs.KnownBytes.{Appends-nil, Appends-trans}
use Rattle.dns_primary.specs.Step.{Event}
use Rattle.dns_primary.specs.declared.event.Effects.{Effects}
use Rattle.dns_network.specs.declared.network.Note.{Note}
use Rattle.dns_network.specs.declared.network.Note.TheVariants.{Unrecorded}
use Rattle.dns_network.specs.declared.network.Observer.{Ghosts}
use Rattle.dns_network.specs.Notes.{AreReported, IsReported, OfEvent, OfNote, Report}
use Rattle.dns_network.proofs.Steps.{steps_on}
use Rattle.dns_recording.specs.Recorder.{AreHandedOn, AreRecorded, IsRecorded, Recording, StaysOff, handed_on, said_so_far}
use Rattle.dns_recording.specs.Script.{report_scripted, script_of}

-- None was handed on where none was taken.
none_handed : (o : Bool) → AreHandedOn o o [] []
none_handed true = refl
none_handed false = refl

-- One more is handed on before others.
handed_more : (o b n : Bool) (one : Report) (rest told : List Report) → (o ≡ false → b ≡ false) → (b ≡ false → n ≡ false) → AreHandedOn b n rest told
    → AreHandedOn o n (one ∷ rest) (handed_on o b (one ∷ []) ++ told)
handed_more true true true one rest told first later h = ap (λ (x : List Report). one ∷ x) h
handed_more true true false one rest told first later (before, here, after, are, as_told) =
    (one ∷ before, here, after, ap (λ (x : List Report). one ∷ x) are, ap (λ (x : List Report). one ∷ x) as_told)
handed_more true false true one rest told first later h = absurd (let clash : true ≡ false = later refl in cc)
handed_more true false false one rest told first later h = ([], one, rest, refl, ap (λ (x : List Report). OfNote Unrecorded ∷ one ∷ x) h)
handed_more false true n one rest told first later h = absurd (let clash : true ≡ false = first refl in cc)
handed_more false false n one rest told first later h = ap (λ (x : List Report). one ∷ x) h

-- A recorder that stayed off twice.
off_twice : (old between new : Recording) → StaysOff old between → (between.is_on ≡ false → StaysOff between new) → StaysOff old new
off_twice old between new first later =
    let more = later first.is_off in record { is_off = more.is_off; written = more.written ∙ first.written }

-- What is known of a recorder of any kind, which stays the same one, and of the observer behind it.
abbrev pub RecordsOn : {R L M : Type 0} → Ghosts L → (R → M) → (R → Recording) → (R → L) → Report → R → R → Type 0
RecordsOn l mark state behind one old new = (mark new ≡ mark old) × IsRecorded l one (state old) (state new) (behind old) (behind new)

-- It holds of each report if it does of each note and each event.
pub recorded_so : {R L M : Type 0} (r : Ghosts R) (l : Ghosts L) (mark : R → M) (state : R → Recording) (behind : R → L)
    → ((old : R) (one : Note) (new : R) → r.takes old one new → RecordsOn l mark state behind (OfNote one) old new)
    → ((old : R) (event : Event) (effects : Effects) (new : R) → r.observes old event effects new → RecordsOn l mark state behind (OfEvent event effects) old new)
    → (old : R) (one : Report) (new : R) → IsReported r old one new → RecordsOn l mark state behind one old new
recorded_so r l mark state behind taken observed old (OfNote one) new h = taken old one new h
recorded_so r l mark state behind taken observed old (OfEvent event effects) new h = observed old event effects new h

-- So it does of all reports, one after the other.
module _ {R L M : Type 0} (r : Ghosts R) (l : Ghosts L) (mark : R → M) (state : R → Recording) (behind : R → L)
    (each : (old : R) (one : Report) (new : R) → IsReported r old one new → RecordsOn l mark state behind one old new) where
  none_recorded : (old : R) → AreRecorded l [] (state old) (state old) (behind old) (behind old)
  none_recorded old = record {
    on = λ is. (is, Appends-nil (said_so_far (state old)));
    off = λ is. record { is_off = is; written = refl };
    told = [];
    are_told = none_handed (state old).is_on;
    handed = refl;
  }

  pub reports_recorded : (reports : List Report) (old new : R) → AreReported r reports old new
      → (mark new ≡ mark old) × AreRecorded l reports (state old) (state new) (behind old) (behind new)
  reports_recorded [] old new same =
      subst (λ (x : R). (mark x ≡ mark old) × AreRecorded l [] (state old) (state x) (behind old) (behind x)) (sym same) (refl, none_recorded old)
  reports_recorded (one ∷ rest) old new (between, here, pending) =
      let step = each old one between here in
      let later = reports_recorded rest between new pending in
      let first = report_scripted (state old).stirred one in (
        later.0 ∙ step.0,
        record {
          on = λ is.
              let after = later.1.on is in
              let before = step.1.said.on after.0 in (
                before.0,
                Appends-trans (said_so_far (state old)) (said_so_far (state between)) (said_so_far (state new)) first.text (script_of first.stirred rest) before.1.text
                    (subst (λ (x : List Bool). Appends (said_so_far (state between)) (said_so_far (state new)) (script_of x rest)) before.1.stirred after.1),
              );
          off = λ is. off_twice (state old) (state between) (state new) (step.1.said.off is) later.1.off;
          told = handed_on (state old).is_on (state between).is_on (one ∷ []) ++ later.1.told;
          are_told = handed_more (state old).is_on (state between).is_on (state new).is_on one rest later.1.told (λ is. (step.1.said.off is).is_off) (λ is. (later.1.off is).is_off) later.1.are_told;
          handed = steps_on (IsReported l) (handed_on (state old).is_on (state between).is_on (one ∷ [])) later.1.told (behind old) (behind between) (behind new) step.1.said.handed later.1.handed;
        },
      )
