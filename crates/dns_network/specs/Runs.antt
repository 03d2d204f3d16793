-- What turns are of the machine.
use Rattle.std.specs.Prelude.{◌≡◌, ℕ, Bool, true, false, List, [], ◌∷◌, Option, None}
use Rattle.std.specs.List.{flat_map}
use Rattle.dns_zone.specs.declared.index.ZoneIndex as zone_index
use Rattle.dns_store.specs.declared.zone_store.ZoneStore as store
use Rattle.dns_network.specs.declared.stream.Stream as stream
use Rattle.dns_versions.specs.Each.{Each2}
use Rattle.dns_primary.specs.declared.event.To.{To}
use Rattle.dns_primary.specs.declared.event.To.TheVariants as to
use Rattle.dns_primary.specs.declared.event.Effects.{Effects}
use Rattle.dns_primary.specs.declared.event.Noted.{Noted}
use Rattle.dns_primary.specs.declared.event.Noted.TheVariants.{Nothing}
use Rattle.dns_primary.specs.Machine.{Machine}
use Rattle.dns_primary.specs.Flush.{all_out}
use Rattle.dns_primary.specs.Keeps.{IsKept}
use Rattle.dns_primary.specs.Step.{Event, Connect, Closed}
use Rattle.dns_primary.specs.Runs.{Moment, Took, Stopped, Configured, Run, machine_at_end}
use Rattle.dns_network.specs.declared.network.Network.{Ghosts}
use Rattle.dns_network.specs.declared.network.Observer as notes
use Rattle.dns_network.specs.Delivery.{Served, out_of}
use Rattle.dns_network.specs.Left.{LeadsThrough}
use Rattle.dns_network.specs.Turn.{TurnMoment, Asks, Moves, Connects, Refuses, Happens, Closes}
use Rattle.dns_network.specs.Turns.{AreTurns}

-- An event that a primary is told, and what it reports of it: the replies that go out, in order, the number
-- of a connection that is taken up, and what is noted.
pub record Told : Type 0 where
  pub event : Event
  pub out : List (To × List ℕ)
  pub accepted : Option ℕ
  pub noted : Noted

abbrev pub told_of : Event → Effects → Told
told_of event effects = record {
  event = event;
  out = out_of effects;
  accepted = effects.accepted;
  noted = effects.noted;
}

-- A connection is closed. Nothing comes of it.
abbrev pub closing : ℕ → Told
closing number = record { event = Closed number; out = []; accepted = None; noted = Nothing }

-- A connection that is closed in place of a reply to it.
abbrev pub closed_for : To → Bool → List Told
closed_for (to.Connection number) true = closing number ∷ []
closed_for (to.Connection number) false = []
closed_for (to.Address peer) cut = []
closed_for to.Nowhere cut = []

-- What the primary is told in a moment, in order.
abbrev pub told_in : TurnMoment → List Told
told_in Asks = []
told_in (Moves number answer) = []
told_in (Connects peer effects) = told_of (Connect peer) effects ∷ []
told_in (Refuses peer) = []
told_in (Happens event effects goings) =
    told_of event effects ∷ flat_map (λ going. closed_for going.to going.cut) goings
told_in (Closes number cause) = closing number ∷ []

-- What it is told in turns, in order.
abbrev pub told_by : List (List TurnMoment) → List Told
told_by turns = flat_map (λ moments. flat_map told_in moments) turns

-- A moment of the machine is this event, and nothing else is reported of it.
abbrev pub IsStepOf : Told → Moment → Type 0
IsStepOf told (Took event fails effects new) =
    (event ≡ told.event) × (all_out effects.sent ≡ told.out) × (effects.accepted ≡ told.accepted)
    × (effects.noted ≡ told.noted)
IsStepOf told (Stopped event tries new) = ⊥
IsStepOf told (Configured new) = ⊥

-- A run from this machine, of which each moment is the event that was told, in order.
pub record IsRunOf (told : List Told) (start : Machine) (run : List Moment) : Type 0 where
  pub runs : Run start run
  pub each : Each2 IsStepOf told run

-- Whatever turns are made, and whichever machine the primary kept before them: a run of that machine has
-- their events, and the primary keeps the machine at its end.
abbrev pub TurnsAreRuns : {I D S N L : Type 0} → zone_index.Ghosts I → store.Ghosts D → stream.Ghosts S
    → Ghosts N S → notes.Ghosts L → Type 0
TurnsAreRuns {I = I} {D = D} {S = S} {N = N} {L = L} i d s n l =
    (turns : List (List TurnMoment)) (old new : Served I D S N L i d) (start : Machine)
    → AreTurns s n l turns old new → IsKept old.primary start
    → (run : List Moment) × IsRunOf (told_by turns) start run × IsKept new.primary (machine_at_end start run)
    × LeadsThrough old.primary new.primary start run
