-- Turns that are made one after the other.
use Rattle.std.proofs.Common.{◌≡◌, ◌⊎◌, inl, inr, ℕ, ◌+◌, List, [], ◌∷◌, ◌++◌, length, Option, refl, arith}
use Rattle.std.proofs.lemmas.List.{length_push}
use Rattle.dns_network.specs.declared.connection.Connection.{Connection}
use Rattle.dns_network.specs.declared.stream.Stream as stream
use Rattle.dns_zone.specs.declared.index.ZoneIndex as zone_index
use Rattle.dns_store.specs.declared.zone_store.ZoneStore as store
use Rattle.dns_primary.specs.declared.primary.Primary.{Primary}
use Rattle.dns_primary.specs.Keeps.{IsKept}
use Rattle.dns_network.specs.declared.network.Network.{Ghosts}
use Rattle.dns_network.specs.declared.network.Observer as notes
use Rattle.dns_network.specs.Delivery.{Served}
use Rattle.dns_network.specs.Turn.{TurnMoment, HasAsked}
use Rattle.dns_network.specs.Turns.{AreTurns, IsRound, IsTurn}
use Rattle.dns_network.specs.Reports.{AreReportsOfTurns}
use Rattle.dns_network.proofs.Noted.{Took, turns_noted}
use Rattle.dns_network.proofs.Running.{turns_run}
use Rattle.dns_network.proofs.Steps.{step_more}
use Rattle.dns_primary.specs.Machine.{Machine}
use Rattle.dns_network.specs.Left.{RestLaw}
use Rattle.dns_network.proofs.Left.{leads_nowhere}
use Rattle.dns_service.specs.ServedTurns.{HasPaused, HasRun, HasTurned, IsLedTo, IsServedOn, OfRun, served_at_start}

module _ {I D S N L : Type 0} {i : zone_index.Ghosts I} {d : store.Ghosts D} (s : stream.Ghosts S) (n : Ghosts N S) (l : notes.Ghosts L) where
  -- So many turns were made.
  abbrev pub Made : ℕ → Served I D S N L i d → Served I D S N L i d → Type 0
  Made count a b = (turns : List (List TurnMoment)) × (length turns ≡ count) × AreTurns s n l turns a b

  pub paused : (primary : Primary I D i d) (connections : List (Option (Connection S))) (noted : L) (old new : N) → HasPaused n old new
      → ◌≡◌ {A = Served I D S N L i d} (record { primary = primary; connections = connections; network = new; notes = noted }) (record { primary = primary; connections = connections; network = old; notes = noted })
      ⊎ HasAsked n (record { primary = primary; connections = connections; network = old; notes = noted }) (record { primary = primary; connections = connections; network = new; notes = noted })
  paused primary connections noted old new (inl same) = inl (λ k. record { primary = primary; connections = connections; network = same k; notes = noted })
  paused primary connections noted old new (inr looks) = inr (record { rest = refl; nothing = inr (inr looks) })

  pub turned : (count now : ℕ) (rested : Option ℕ) (moments : List TurnMoment) (a old start end new : Served I D S N L i d) → Made count a old
      → (start ≡ old) ⊎ HasAsked n old start → IsTurn s n l now rested moments start end → (new ≡ end) ⊎ HasAsked n end new → Made (count + 1) a new
  turned count now rested moments a old start end new (turns, many, made) before turn after = (
    turns ++ moments ∷ [],
    omega (arith, many, length_push turns moments),
    step_more (λ x one y. IsRound s n l one x y) turns moments a old new made
        (record { now = now; rested = rested; begun = start; ended = end; before = before; turn = turn; after = after }),
  )

  -- What its notes say of turns, and that they are a run.
  pub has_turned : RestLaw d → (said : List (List TurnMoment) → Machine → Type 0) (count : ℕ) (old new : Primary I D i d) (network network' : N) (first last : L) (is : IsServedOn s n l count old network first new network' last)
      → ((m : Machine) → IsKept old m → Took l (AreReportsOfTurns is.turns) first last → said is.turns m)
      → HasTurned count said (λ m. IsKept old m) (IsLedTo old new)
  has_turned law said count old new network network' first last is log = (
    is.turns,
    is.many,
    λ m kept.
        let start : Served I D S N L i d = served_at_start old network first in
        let end : Served I D S N L i d = record { primary = new; connections = is.connections; network = network'; notes = last } in
        let to = turns_run s n l law is.turns start end m is.made kept in
        (log m kept (turns_noted s n l is.turns start end is.made), (to.0, to.1, (to.2, to.3))),
  )

-- ... whatever the network is.
pub turned_from : {I D S N L : Type 0} {i : zone_index.Ghosts I} {d : store.Ghosts D} {s : stream.Ghosts S} {n : Ghosts N S} {l : notes.Ghosts L}
    {count : ℕ} {old new : Primary I D i d} {network network' : N} {first last : L} → RestLaw d → (said : List (List TurnMoment) → Machine → Type 0) (is : IsServedOn s n l count old network first new network' last)
    → ((m : Machine) → IsKept old m → Took l (AreReportsOfTurns is.turns) first last → said is.turns m)
    → HasTurned count said (λ m. IsKept old m) (IsLedTo old new)
turned_from {s = s} {n = n} {l = l} {count = count} {old = old} {new = new} {network = network} {network' = network'} {first = first} {last = last} law said is log =
    has_turned s n l law said count old new network network' first last is log

-- What follows from what is said of turns.
pub turned_so : {count : ℕ} {says : OfRun} (said said' : List (List TurnMoment) → Machine → Type 0) (keeps : Machine → Type 0) → HasTurned count said keeps says
    → ((turns : List (List TurnMoment)) (m : Machine) → keeps m → said turns m → said' turns m) → HasTurned count said' keeps says
turned_so said said' keeps is so = (is.0, is.1, λ m kept. (so is.0 m kept (is.2 m kept).0, (is.2 m kept).1))

-- Some turns were made.
pub some_run : (count : ℕ) (said : List (List TurnMoment) → Machine → Type 0) (keeps : Machine → Type 0) (says : OfRun) → HasTurned count said keeps says → HasRun keeps says
some_run count said keeps says is = (is.0, λ m kept. (is.2 m kept).1)

-- However it ended.
pub has_run : {I D S N L : Type 0} {i : zone_index.Ghosts I} {d : store.Ghosts D} {s : stream.Ghosts S} {n : Ghosts N S} {l : notes.Ghosts L}
    {count : ℕ} {old new : Primary I D i d} {network network' : N} {first last : L} → RestLaw d → IsServedOn s n l count old network first new network' last → HasRun (λ m. IsKept old m) (IsLedTo old new)
has_run {count = count} {old = old} {new = new} law is = some_run count (λ _ _. Unit {0}) (λ m. IsKept old m) (IsLedTo old new) (turned_from law (λ _ _. Unit {0}) is (λ m kept took. tt))

-- No turn was made.
pub none_run : {I D : Type 0} {i : zone_index.Ghosts I} {d : store.Ghosts D} → RestLaw d → (p : Primary I D i d) → HasRun (λ m. IsKept p m) (IsLedTo p p)
none_run law p = ([], λ m kept. ([], record { runs = tt; each = tt }, (kept, leads_nowhere law p m kept)))
