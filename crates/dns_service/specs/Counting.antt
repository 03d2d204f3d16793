-- What a server tells of counts.
use Rattle.std.specs.Prelude.{◌≡◌, ◌⊎◌, ℕ, List, [], ◌∷◌, ◌++◌, Option}
use Rattle.std.specs.Io.KnownBytes.{Appends}
use Rattle.dns_names.specs.Name.{Labels}
use Rattle.dns_primary.specs.Machine.{Machine}
use Rattle.dns_primary.specs.Runs.{Moment, machine_at_end}
use Rattle.dns_network.specs.Notes.{Report}
use Rattle.dns_network.specs.Reports.{AreReportsOfTurn}
use Rattle.dns_network.specs.Runs.{IsRunOf, told_by}
use Rattle.dns_network.specs.Turn.{TurnMoment}
use Rattle.dns_counters.specs.Counters.{counted_if, no_counts, with_reports}
use Rattle.dns_counters.specs.Lines.{counts_told}
use Rattle.dns_counters.specs.declared.counters.Counters.{Counters}
use Rattle.dns_counters.specs.declared.counting.Counting.{Counting}

-- What an observer that counts, if it does, has after a report.
abbrev pub counting_after : Counting → Report → Counting
counting_after c one = record { counters = counted_if c.is_on c.counters one; is_on = c.is_on }

-- A turn is made of a machine, before which these were the counts: after it nothing is told of them, or, if
-- they are told each some seconds, the counts of all that was reported so far, and the zones as they are
-- then.
pub record IsCountedTurn (every : ℕ) (origins : List Labels) (c : Counters) (m : Machine)
    (turn : List TurnMoment) (text : List ℕ) : Type 0 where
  pub reports : List Report
  pub reported : AreReportsOfTurn turn reports
  pub run : List Moment
  pub ran : IsRunOf (told_by (turn ∷ [])) m run
  pub told : (text ≡ [])
      ⊎ ((every ≡ 0 → ⊥) × (text ≡ counts_told (with_reports c reports) origins (machine_at_end m run).zones))

-- So it is with each of these turns, one after the other.
abbrev pub AreCountedTurns : ℕ → List Labels → Counters → Machine → List (List TurnMoment)
    → List (List ℕ) → Type 0
AreCountedTurns every origins c m [] [] = Unit {0}
AreCountedTurns every origins c m (turn ∷ turns) (text ∷ texts) =
    (is : IsCountedTurn every origins c m turn text)
    × AreCountedTurns every origins (with_reports c is.reports) (machine_at_end m is.run) turns texts
AreCountedTurns every origins c m _ _ = ⊥

abbrev pub all_of : List (List ℕ) → List ℕ
all_of [] = []
all_of (text ∷ texts) = text ++ all_of texts

-- What is told of counts in these turns of a machine comes after all that the output held.
pub record AreCountsOf (every : ℕ) (origins : List Labels) (m : Machine) (turns : List (List TurnMoment))
    (out out_after : Option (List ℕ)) : Type 0 where
  pub texts : List (List ℕ)
  pub each : AreCountedTurns every origins no_counts m turns texts
  pub written : Appends out out_after (all_of texts)
