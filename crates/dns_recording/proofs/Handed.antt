-- What becomes of a report that a recorder takes.
use Rattle.std.proofs.Common.{◌≡◌, ◌⊎◌, inl, inr, Bool, true, false, List, [], ◌∷◌, refl, sym, subst, ◌∙◌}
use Rattle.dns_network.specs.declared.network.Note.TheVariants.{Ends, Unrecorded}
use Rattle.dns_network.specs.declared.network.Observer.{Ghosts}
use Rattle.dns_network.specs.Notes.{AreReported, IsReported, OfNote, Report}
use Rattle.dns_recording.specs.Recorder.{HasScripted, IsRecorded, IsScripted, Recording, handed_on}
use Rattle.dns_recording.specs.Script.{Scripted, report_scripted}

both_ways : (b : Bool) → b ≡ true → b ≡ false → true ≡ false
both_ways b on off = sym on ∙ off

-- Nothing is handed on besides where it is on, or off, before and after.
handed_alone : (b : Bool) (told : List Report) → handed_on b b told ≡ told
handed_alone true told = refl
handed_alone false told = refl

module _ {L : Type 0} (l : Ghosts L) where
  -- It goes on: what is to be handed on is.
  pub goes_on : (said : Scripted) (told : List Report) (old new : Recording) (first last : L) → old.is_on ≡ true → new.is_on ≡ true → IsScripted said old new
      → AreReported l told first last → HasScripted l said told old new first last
  goes_on said told old new first last was is scripted are = record {
    on = λ _. (was, scripted);
    off = λ off. absurd (let clash : true ≡ false = both_ways old.is_on was off in cc);
    handed = subst (λ (n : Bool). AreReported l (handed_on old.is_on n told) first last) (was ∙ sym is) (subst (λ (x : List Report). AreReported l x first last) (sym (handed_alone old.is_on told)) are);
  }

  -- It ends here: that is noted before.
  pub ends_here : (said : Scripted) (told : List Report) (old new : Recording) (first between last : L) → old.is_on ≡ true → new.is_on ≡ false
      → l.takes first Unrecorded between → AreReported l told between last → HasScripted l said told old new first last
  ends_here said told old new first between last was is noted are = record {
    on = λ on. absurd (let clash : true ≡ false = both_ways new.is_on on is in cc);
    off = λ off. absurd (let clash : true ≡ false = both_ways old.is_on was off in cc);
    handed = subst (λ (o : Bool). AreReported l (handed_on o new.is_on told) first last) (sym was)
        (subst (λ (n : Bool). AreReported l (handed_on true n told) first last) (sym is) (between, noted, are));
  }

  -- It is off.
  pub is_off : (said : Scripted) (told : List Report) (state : Recording) (first last : L) → state.is_on ≡ false → AreReported l told first last
      → HasScripted l said told state state first last
  is_off said told state first last is are = record {
    on = λ on. absurd (let clash : true ≡ false = both_ways state.is_on on is in cc);
    off = λ off. record { is_off = is; written = refl };
    handed = subst (λ (x : List Report). AreReported l x first last) (sym (handed_alone state.is_on told)) are;
  }

  -- So it is with one report.
  pub off_at : (one : Report) (state : Recording) (first last : L) → state.is_on ≡ false → IsReported l first one last → IsRecorded l one state state first last
  off_at one state first last is taken = record {
    said = is_off (report_scripted state.stirred one) (one ∷ []) state first last is (last, taken, refl);
    none_left = λ ends on. absurd (let clash : true ≡ false = both_ways state.is_on on is in cc);
  }

  -- What was said of it, or that the recording ended.
  abbrev pub HasTaken : Report → Recording → Recording → L → L → Type 0
  HasTaken one old new first between =
      ((new.is_on ≡ old.is_on) × (between ≡ first) × IsScripted (report_scripted old.stirred one) old new × (one ≡ OfNote Ends → new.lines ≡ []))
      ⊎ ((new.is_on ≡ false) × l.takes first Unrecorded between)

  pub taken_at : (one : Report) (old new : Recording) (first between last : L) → old.is_on ≡ true → HasTaken one old new first between → IsReported l between one last
      → IsRecorded l one old new first last
  taken_at one old new first between last was (inl (same, still, scripted, none)) taken = record {
    said = goes_on (report_scripted old.stirred one) (one ∷ []) old new first last was (same ∙ was) scripted (last, subst (λ (x : L). IsReported l x one last) still taken, refl);
    none_left = λ ends on. none ends;
  }
  taken_at one old new first between last was (inr (is, noted)) taken = record {
    said = ends_here (report_scripted old.stirred one) (one ∷ []) old new first between last was is noted (last, taken, refl);
    none_left = λ ends on. absurd (let clash : true ≡ false = both_ways new.is_on on is in cc);
  }
