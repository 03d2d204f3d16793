-- How much of an answer has come.
use Rattle.std.specs.Prelude.{ℕ, Bool, true, false, List, [], ◌∷◌, length, Option, Some, None}
use Rattle.dns_records.specs.Record.{Record}
use Rattle.dns_secondary.specs.State.{State, Begun, Led, Whole, Removing, Adding, Ended}

-- The set that an answer has led to: the SOA that leads, until a second record comes.
abbrev pub set_reached : State → List Record
set_reached Begun = []
set_reached (Led soa) = soa ∷ []
set_reached (Whole soa set) = set
set_reached (Removing soa set) = set
set_reached (Adding soa set reached) = set
set_reached (Ended set) = set

-- How many records it has; none where the answer is over.
abbrev pub received_count : Option State → ℕ
received_count None = 0
received_count (Some at) = length (set_reached at)

-- The answer is within changes of the version that is held.
abbrev pub is_incremental : Option State → Bool
is_incremental (Some (Removing soa set)) = true
is_incremental (Some (Adding soa set reached)) = true
is_incremental at = false
