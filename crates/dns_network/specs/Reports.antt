-- What is reported of turns, in order.
use Rattle.std.specs.Prelude.{◌≡◌, ◌⊎◌, ◌<◌, ℕ, Bool, true, false, List, [], ◌∷◌, ◌++◌, length}
use Rattle.dns_primary.specs.declared.event.To.{To}
use Rattle.dns_primary.specs.declared.event.To.TheVariants as to
use Rattle.dns_network.specs.declared.network.Note.{Note}
use Rattle.dns_network.specs.declared.network.Note.TheVariants.{Begins, Closed, Ends, OutOfMemory, Refused}
use Rattle.dns_network.specs.declared.network.Note.TheVariants as note
use Rattle.dns_network.specs.Closing.{Cause, HasEnded, Silent, Stalled, NoMemory, NoPlace}
use Rattle.dns_network.specs.Notes.{Report, OfNote, OfEvent, notes_of, notes_of_opened, of_notes}
use Rattle.dns_network.specs.Turn.{TurnMoment, Asks, Moves, Connects, Refuses, Happens, Closes}

-- This is reported of all of them, one after the other.
abbrev pub AreOfEach : {T R : Type 0} → (T → List R → Type 0) → List T → List R → Type 0
AreOfEach told [] reports = reports ≡ []
AreOfEach {R = R} told (one ∷ rest) reports =
    (first : List R) × (later : List R) × told one first × AreOfEach told rest later
    × (reports ≡ first ++ later)

-- Of a reply to send: nothing, unless the connection to which it was to go is closed in its stead, before
-- which refused memory is noted if the reply is not too long.
abbrev pub AreNotesOfReply : To → List ℕ → Bool → List Note → Type 0
AreNotesOfReply (to.Connection number) reply true notes =
    ((65535 < length reply) × (notes ≡ Closed number ∷ []))
    ⊎ (notes ≡ OutOfMemory ∷ Closed number ∷ [])
AreNotesOfReply (to.Connection number) reply false notes = notes ≡ []
AreNotesOfReply (to.Address peer) reply cut notes = notes ≡ []
AreNotesOfReply to.Nowhere reply cut notes = notes ≡ []

-- Of the cause for which the connection with a number is closed.
abbrev pub notes_of_cause : ℕ → Cause → List Note
notes_of_cause number HasEnded = []
notes_of_cause number Silent = note.Silent number ∷ []
notes_of_cause number Stalled = note.Stalled number ∷ []
notes_of_cause number NoMemory = OutOfMemory ∷ []
notes_of_cause number NoPlace = []

-- Of a moment: an event is observed before its replies are sent.
abbrev pub AreReportsOfMoment : TurnMoment → List Report → Type 0
AreReportsOfMoment Asks reports = reports ≡ []
AreReportsOfMoment (Moves number answer) reports = reports ≡ []
AreReportsOfMoment (Connects peer effects) reports =
    reports ≡ of_notes (notes_of effects.noted ++ notes_of_opened effects.accepted peer)
AreReportsOfMoment (Refuses peer) reports = reports ≡ of_notes (Refused ∷ [])
AreReportsOfMoment (Happens event effects goings) reports =
    (closings : List Note) × AreOfEach (λ g. AreNotesOfReply g.to g.octets g.cut) goings closings
    × (reports ≡ OfEvent event effects ∷ of_notes (closings ++ notes_of effects.noted))
AreReportsOfMoment (Closes number cause) reports =
    reports ≡ of_notes (notes_of_cause number cause ++ Closed number ∷ [])

-- Of a turn, which is told by its moments: that it begins, in some second of the clock; what is reported in
-- it; that it ends.
abbrev pub AreReportsOfTurn : List TurnMoment → List Report → Type 0
AreReportsOfTurn moments reports =
    (now : ℕ) × (within : List Report) × AreOfEach AreReportsOfMoment moments within
    × (reports ≡ OfNote (Begins now) ∷ within ++ OfNote Ends ∷ [])

abbrev pub AreReportsOfTurns : List (List TurnMoment) → List Report → Type 0
AreReportsOfTurns = AreOfEach AreReportsOfTurn
