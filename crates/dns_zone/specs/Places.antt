-- Runs of the records of a set.
use Rattle.std.specs.Prelude.{◌≡◌, ℕ, List, ◌++◌, drop}
use Rattle.dns_records.specs.Record.{Record}

-- These records follow one another from the position on.
abbrev pub IsRun : List Record → ℕ → List Record → Type 0
IsRun records position run = (rest : List Record) × (drop position records ≡ run ++ rest)
