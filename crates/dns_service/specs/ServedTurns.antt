-- What is done to a primary while it is served.
use Rattle.std.specs.Prelude.{◌≡◌, ◌⊎◌, ℕ, true, List, length, Option, None, replicate}
use Rattle.dns_network.specs.declared.connection.Connection.{Connection}
use Rattle.dns_network.specs.declared.stream.Stream as stream
use Rattle.dns_zone.specs.declared.index.ZoneIndex as zone_index
use Rattle.dns_store.specs.declared.zone_store.ZoneStore as store
use Rattle.dns_primary.specs.declared.primary.Primary.{Primary}
use Rattle.dns_primary.specs.Keeps.{IsKept}
use Rattle.dns_primary.specs.Machine.{Machine}
use Rattle.dns_primary.specs.Runs.{Moment, machine_at_end}
use Rattle.dns_network.specs.declared.network.Network.{Ghosts}
use Rattle.dns_network.specs.declared.network.Observer as notes
use Rattle.dns_network.specs.Delivery.{Served}
use Rattle.dns_network.specs.Turn.{TurnMoment}
use Rattle.dns_network.specs.Turns.{AreTurns}
use Rattle.dns_network.specs.Left.{LeadsThrough}
use Rattle.dns_network.specs.Runs.{IsRunOf, told_by}
use Rattle.dns_names.specs.Name.{Labels}
use Rattle.dns_counters.specs.declared.counting.Counting.{Counting}
use Rattle.dns_counters.specs.declared.telling.CountLines.{CountLines}
use Rattle.dns_counters.specs.Counters.{no_counts}
use Rattle.dns_service.specs.Counting.{AreCountsOf}

-- A network looked what came meanwhile, or waited, or nothing was done.
abbrev pub HasPaused : {S N : Type 0} → Ghosts N S → N → N → Type 0
HasPaused n old new = (new ≡ old) ⊎ n.looks old new

-- An observer that has counted nothing, and counts if that is told each some seconds.
pub record BeginsCounting (every : ℕ) (c : Counting) : Type 0 where
  pub none : c.counters ≡ no_counts
  pub on : (every ≡ 0 → ⊥) → c.is_on ≡ true

module _ {I D S N L : Type 0} {i : zone_index.Ghosts I} {d : store.Ghosts D} where
  -- A primary before the first connection.
  abbrev pub served_at_start : Primary I D i d → N → L → Served I D S N L i d
  served_at_start primary network notes =
      record { primary = primary; connections = replicate 64 None; network = network; notes = notes }

  -- A primary is served over a network, from no connection on: so many turns are made, and nothing else is
  -- done to it.
  pub record IsServedOn (s : stream.Ghosts S) (n : Ghosts N S) (l : notes.Ghosts L) (count : ℕ)
      (old : Primary I D i d) (network : N) (notes : L) (new : Primary I D i d) (network' : N) (notes' : L)
      : Type 0 where
    pub connections : List (Option (Connection S))
    pub turns : List (List TurnMoment)
    pub many : length turns ≡ count
    pub made : AreTurns s n l turns (served_at_start old network notes)
        (record { primary = new; connections = connections; network = network'; notes = notes' })

  -- So it is, and what is told of counts comes after all that an output held, where an observer had these
  -- before.
  pub record IsCountedOn (s : stream.Ghosts S) (n : Ghosts N S) (l : notes.Ghosts L) (every : ℕ)
      (origins : List Labels) (count : ℕ) (old : Primary I D i d) (network : N) (notes : L)
      (before : Counting) (out : Option (List ℕ)) (new : Primary I D i d) (network' : N) (notes' : L)
      (out_after : Option (List ℕ)) : Type 0 where
    pub served : IsServedOn s n l count old network notes new network' notes'
    pub counts : BeginsCounting every before → (m : Machine) → IsKept old m
        → AreCountsOf every origins m served.turns out out_after

-- What is said of a run from a machine.
abbrev pub OfRun : Type 1
OfRun = Machine → List Moment → Type 0

-- The events of these turns are those of a run from this machine, of which this is said.
abbrev pub HaveRun : List (List TurnMoment) → OfRun → Machine → Type 0
HaveRun turns says m = (run : List Moment) × IsRunOf (told_by turns) m run × says m run

-- So many turns were made, and whichever machine was kept before them: this is said of it and the turns, and
-- their events are those of a run from it, of which that is said.
abbrev pub HasTurned : ℕ → (List (List TurnMoment) → Machine → Type 0) → (Machine → Type 0) → OfRun → Type 0
HasTurned count said keeps says =
    (turns : List (List TurnMoment)) × (length turns ≡ count)
    × ((m : Machine) → keeps m → said turns m × HaveRun turns says m)

-- Some turns were made, perhaps none.
abbrev pub HasRun : (Machine → Type 0) → OfRun → Type 0
HasRun keeps says = (turns : List (List TurnMoment)) × ((m : Machine) → keeps m → HaveRun turns says m)

-- The run led from one primary to the other: to the machine that this keeps, and a crash at any moment of it
-- leaves each zone's store, if its device is honest, as it allows.
abbrev pub IsLedTo : {I S : Type 0} {i : zone_index.Ghosts I} {s : store.Ghosts S} → Primary I S i s
    → Primary I S i s → OfRun
IsLedTo old new m run = IsKept new (machine_at_end m run) × LeadsThrough old new m run

-- So many turns were made of a primary, which is this one now; and of each machine that it kept, and the
-- turns, this is said.
abbrev pub HasTurnedFrom : {I S : Type 0} {i : zone_index.Ghosts I} {s : store.Ghosts S} → ℕ
    → Primary I S i s → Primary I S i s → (List (List TurnMoment) → Machine → Type 0) → Type 0
HasTurnedFrom count before after said = HasTurned count said (λ m. IsKept before m) (IsLedTo before after)

-- A primary is served over a network, and counts are told by these lines of them, where the observer had
-- counted so before.
abbrev pub IsCountedBy : {I D S N L O : Type 0} {i : zone_index.Ghosts I} {d : store.Ghosts D}
    → stream.Ghosts S → Ghosts N S → notes.Ghosts L → (L → Counting) → (O → Option (List ℕ)) → CountLines O
    → CountLines O → ℕ → Primary I D i d → N → L → Primary I D i d → N → L → Type 0
IsCountedBy s n l counting contents lines lines' count old network observer new network' observer' =
    IsCountedOn s n l lines.every lines.origins.now count old network observer (counting observer)
    (contents lines.out.now) new network' observer' (contents lines'.out.now)
