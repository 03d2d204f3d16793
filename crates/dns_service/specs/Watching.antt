-- What an observer behind a recorder counts: the end of a recording is not counted.
use Rattle.std.specs.Prelude.{◌≡◌, Bool, true, false, [], ◌∷◌, refl}
use Rattle.std.proofs.Common.{ap, ◌∙◌}
use Rattle.dns_primary.specs.Step.{Event}
use Rattle.dns_primary.specs.declared.event.Effects.{Effects}
use Rattle.dns_network.specs.declared.network.Note.{Note}
use Rattle.dns_network.specs.declared.network.Note.TheVariants.{Unrecorded}
use Rattle.dns_network.specs.declared.network.Observer.{Ghosts}
use Rattle.dns_network.specs.Notes.{AreReported, IsReported, OfEvent, OfNote, Report}
use Rattle.dns_counters.specs.declared.counting.Counting.{Counting}
use Rattle.dns_recording.specs.Recorder.{handed_on}
use Rattle.dns_service.specs.Counting.{counting_after}

-- The end of a recording changes no count.
pub uncounted : (c : Counting) → counting_after c (OfNote Unrecorded) ≡ c
uncounted c = go c.is_on refl
  where
    go : (b : Bool) → c.is_on ≡ b → counting_after c (OfNote Unrecorded) ≡ c
    go true is = rw is refl
    go false is = rw is refl

module _ {L : Type 0} (l : Ghosts L) (counting : L → Counting)
    (noted : (old : L) (note : Note) (new : L) → l.takes old note new
    → counting new ≡ counting_after (counting old) (OfNote note)) where
  -- A report that is handed on is counted, whether the recording ended before it or not.
  handed_counted : (one : Report) (o n : Bool) (first last : L)
      → ((old new : L) → IsReported l old one new → counting new ≡ counting_after (counting old) one)
      → AreReported l (handed_on o n (one ∷ [])) first last
      → counting last ≡ counting_after (counting first) one
  handed_counted one true false first last each (between, ended, (end, taken, same)) =
      ap counting same ∙ each between end taken
      ∙ ap (λ c. counting_after c one) (noted first Unrecorded between ended ∙ uncounted (counting first))
  handed_counted one true true first last each (end, taken, same) =
      ap counting same ∙ each first end taken
  handed_counted one false n first last each (end, taken, same) =
      ap counting same ∙ each first end taken

  pub note_counted : (note : Note) (o n : Bool) (first last : L)
      → AreReported l (handed_on o n (OfNote note ∷ [])) first last
      → counting last ≡ counting_after (counting first) (OfNote note)
  note_counted note o n first last handed =
      handed_counted (OfNote note) o n first last (λ old new taken. noted old note new taken) handed

  pub event_counted : ((old : L) (event : Event) (effects : Effects) (new : L)
      → l.observes old event effects new
      → counting new ≡ counting_after (counting old) (OfEvent event effects))
      → (event : Event) (effects : Effects) (o n : Bool) (first last : L)
      → AreReported l (handed_on o n (OfEvent event effects ∷ [])) first last
      → counting last ≡ counting_after (counting first) (OfEvent event effects)
  event_counted seen event effects o n first last handed =
      handed_counted (OfEvent event effects) o n first last
      (λ old new observed. seen old event effects new observed) handed
