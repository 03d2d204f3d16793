-- What is reported of a turn.
use Rattle.std.specs.Prelude.{ℕ, List, [], ◌∷◌, map, Option, Some, None}
use Rattle.dns_primary.specs.declared.event.Effects.{Effects}
use Rattle.dns_primary.specs.declared.event.Peer.{Peer}
use Rattle.dns_primary.specs.declared.event.Noted.{Noted}
use Rattle.dns_primary.specs.declared.event.Noted.TheVariants as noted
use Rattle.dns_primary.specs.Step.{Event}
use Rattle.dns_network.specs.declared.network.Note.{Note}
use Rattle.dns_network.specs.declared.network.Note.TheVariants.{Opened, Refused, OutOfMemory, Device}
use Rattle.dns_network.specs.declared.network.Observer.{Ghosts}
use Rattle.dns_network.specs.Steps.{AreSteps}

-- of what a primary reports
abbrev pub notes_of : Noted → List Note
notes_of noted.Nothing = []
notes_of noted.OutOfMemory = OutOfMemory ∷ []
notes_of (noted.Device index) = Device index ∷ []

-- of a peer that gets this number, or none, so that its connection is closed at once
abbrev pub notes_of_opened : Option ℕ → Peer → List Note
notes_of_opened None peer = Refused ∷ []
notes_of_opened (Some number) peer = Opened number peer ∷ []

-- A note, or an event with its effects.
pub data Report : Type 0 where
  OfNote : Note → Report
  OfEvent : Event → Effects → Report

abbrev pub of_notes : List Note → List Report
of_notes = map OfNote

-- These were taken, one after the other.
abbrev pub AreNoted : {L : Type 0} → Ghosts L → List Note → L → L → Type 0
AreNoted l = AreSteps (λ old one new. l.takes old one new)

-- The note was taken, or the event observed.
abbrev pub IsReported : {L : Type 0} → Ghosts L → L → Report → L → Type 0
IsReported l old (OfNote one) new = l.takes old one new
IsReported l old (OfEvent event effects) new = l.observes old event effects new

-- So was each of these, one after the other.
abbrev pub AreReported : {L : Type 0} → Ghosts L → List Report → L → L → Type 0
AreReported l = AreSteps (IsReported l)
