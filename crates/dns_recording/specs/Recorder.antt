-- A recorder, as its contracts see it.
use Rattle.std.specs.Prelude.{◌≡◌, ◌⊎◌, ℕ, Bool, true, false, List, [], ◌∷◌, ◌++◌, Option, replicate}
use Rattle.std.specs.Io.KnownBytes.{Appends, append_known}
use Rattle.dns_names.specs.Name.{Labels}
use Rattle.dns_primary.specs.Machine.{ZoneState}
use Rattle.dns_primary.specs.Step.{Event}
use Rattle.dns_primary.specs.declared.event.Effects.{Effects}
use Rattle.dns_network.specs.declared.network.Note.{Note}
use Rattle.dns_network.specs.declared.network.Note.TheVariants.{Ends, Unrecorded}
use Rattle.dns_network.specs.declared.network.Observer.{Ghosts}
use Rattle.dns_network.specs.Notes.{AreReported, Report, OfNote}
use Rattle.dns_recording.specs.declared.recorder.Recorder.{Recorder}
use Rattle.dns_recording.specs.Script.{Scripted, comments_scripted, event_scripted, note_scripted}
use Rattle.dns_recording.specs.Script.{places_recorded, report_scripted, script_of}

-- Whether it records, what its file holds, the lines of the turn, which are still to be written, and which
-- connections are stirred.
pub record Recording : Type 0 where
  pub is_on : Bool
  pub written : Option (List ℕ)
  pub lines : List ℕ
  pub stirred : List Bool

-- What is said so far.
abbrev pub said_so_far : Recording → Option (List ℕ)
said_so_far r = append_known r.written r.lines

-- Before anything is recorded no line is left, and no connection is stirred.
abbrev pub unstirred : List Bool
unstirred = replicate places_recorded false

abbrev pub fresh_recording : Bool → Option (List ℕ) → Recording
fresh_recording is_on written =
    record { is_on = is_on; written = written; lines = []; stirred = unstirred }

-- A text comes after all that was said, and these connections are stirred then.
pub record IsScripted (said : Scripted) (old new : Recording) : Type 0 where
  pub text : Appends (said_so_far old) (said_so_far new) said.text
  pub stirred : new.stirred ≡ said.stirred

-- What the observer behind a recorder is told, where it is to be told these: they alone; and that the
-- recording ended, before them, if it did so here.
abbrev pub handed_on : Bool → Bool → List Report → List Report
handed_on true false reports = OfNote Unrecorded ∷ reports
handed_on true true reports = reports
handed_on false is_on reports = reports

-- The same of reports one after the other: the recording ended at one of them.
abbrev pub AreHandedOn : Bool → Bool → List Report → List Report → Type 0
AreHandedOn true false reports told =
    (before : List Report) × (one : Report) × (after : List Report)
    × (reports ≡ before ++ one ∷ after) × (told ≡ before ++ OfNote Unrecorded ∷ one ∷ after)
AreHandedOn true true reports told = told ≡ reports
AreHandedOn false is_on reports told = told ≡ reports

-- It stays off, and its file as it is.
pub record StaysOff (old new : Recording) : Type 0 where
  pub is_off : new.is_on ≡ false
  pub written : new.written ≡ old.written

module _ {L : Type 0} (l : Ghosts L) where
  -- If it records after this, it did before, and this is said then; if it didn't before, it stays off. What
  -- is told is handed on to the observer behind it.
  pub record HasScripted (said : Scripted) (told : List Report) (old new : Recording) (first last : L)
      : Type 0 where
    pub on : new.is_on ≡ true → (old.is_on ≡ true) × IsScripted said old new
    pub off : old.is_on ≡ false → StaysOff old new
    pub handed : AreReported l (handed_on old.is_on new.is_on told) first last

  -- A report was taken: what is written of it is said, and where a turn ends, no line is left to write.
  pub record IsRecorded (one : Report) (old new : Recording) (first last : L) : Type 0 where
    pub said : HasScripted (report_scripted old.stirred one) (one ∷ []) old new first last
    pub none_left : one ≡ OfNote Ends → new.is_on ≡ true → new.lines ≡ []

  -- Reports were taken, one after the other: if it records after them, it did before, and their script comes
  -- after all that was said; and they were handed on, with a note of the end of the recording if it ended.
  pub record AreRecorded (reports : List Report) (old new : Recording) (first last : L) : Type 0 where
    pub on : new.is_on ≡ true → (old.is_on ≡ true)
        × Appends (said_so_far old) (said_so_far new) (script_of old.stirred reports)
    pub off : old.is_on ≡ false → StaysOff old new
    pub told : List Report
    pub are_told : AreHandedOn old.is_on new.is_on reports told
    pub handed : AreReported l told first last

module _ {W L : Type 0} where
  -- What a recorder has, where a file of its kind holds these octets.
  abbrev pub recording_of : (W → Option (List ℕ)) → Recorder W L → Recording
  recording_of contents r = record {
    is_on = r.is_on;
    written = contents r.file.now;
    lines = r.lines.now.items;
    stirred = r.stirred;
  }

  -- It writes to the same file as before: the reference is the same.
  abbrev pub IsSameRecorder : Recorder W L → Recorder W L → Type 0
  IsSameRecorder old new =
      (new.file.ghost_name ≡ old.file.ghost_name) × (new.notes.ghost_name ≡ old.notes.ghost_name)

  -- The recording ended, and the observer behind it was told so.
  abbrev pub IsOver : Ghosts L → Recorder W L → Recorder W L → Type 0
  IsOver l old new = (new.is_on ≡ false) × l.takes old.notes.now Unrecorded new.notes.now

  -- It goes on, and what is written of a note is said; where a turn ends, no line is left to write. Or the
  -- recording ended.
  abbrev pub HasRecordedNote : (W → Option (List ℕ)) → Ghosts L → Note → Recorder W L → Recorder W L → Type 0
  HasRecordedNote contents l note old new =
      ((new.is_on ≡ old.is_on) × (new.notes.now ≡ old.notes.now)
      × IsScripted (note_scripted old.stirred note) (recording_of contents old) (recording_of contents new)
      × (note ≡ Ends → new.lines.now.items ≡ []))
      ⊎ IsOver l old new

  -- The same of an event and its effects.
  abbrev pub HasRecordedEvent : (W → Option (List ℕ)) → Ghosts L → Event → Effects → Recorder W L
      → Recorder W L → Type 0
  HasRecordedEvent contents l event effects old new =
      ((new.is_on ≡ old.is_on) × (new.notes.now ≡ old.notes.now)
      × IsScripted (event_scripted old.stirred event effects)
      (recording_of contents old) (recording_of contents new))
      ⊎ IsOver l old new

  -- Before any report, comments on the zones of a machine are written.
  abbrev pub HasBegun : (W → Option (List ℕ)) → Ghosts L → List Labels → List ZoneState → Recorder W L
      → Recorder W L → Type 0
  HasBegun contents l origins zones old new =
      HasScripted l (comments_scripted (recording_of contents old).stirred origins zones) []
      (recording_of contents old) (recording_of contents new) old.notes.now new.notes.now

  -- Whatever reports a recorder takes, they are recorded in its file.
  abbrev pub RecordsAll : (W → Option (List ℕ)) → Ghosts (Recorder W L) → Ghosts L → Type 0
  RecordsAll contents r l =
      (reports : List Report) (old new : Recorder W L) → AreReported r reports old new
      → IsSameRecorder old new
      × AreRecorded l reports (recording_of contents old) (recording_of contents new) old.notes.now
      new.notes.now
