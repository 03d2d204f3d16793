-- Where chains of pointers end.
use Rattle.std.specs.Prelude.{◌≢◌, ℕ, ◌≤◌, List, get_or}
use Rattle.dns_names.specs.Name.{Labels}
use Rattle.dns_wire.specs.NameAt.{NameAt}

-- The name at an offset is also at another.
abbrev pub PointsTo : List ℕ → ℕ → ℕ → Type 0
PointsTo message at end =
    (name : Labels) (stop : ℕ) → NameAt message at name stop → (after : ℕ) × NameAt message end name after

pub record LeadsBack (message : List ℕ) (at end : ℕ) : Type 0 where
  pub back : end ≤ at
  pub leads : PointsTo message at end

-- Each number that is not zero is an offset to which pointers lead from the offset that is its index.
abbrev pub AreEnds : List ℕ → List ℕ → Type 0
AreEnds message ends = (at : ℕ) → get_or ends at 0 ≢ 0 → LeadsBack message at (get_or ends at 0)
