-- Records lent in one piece.
use Rattle.std.specs.Prelude.{◌≡◌, ℕ, ◌+◌, ◌<◌, ◌≤◌, List, ◌∷◌, ◌++◌, length}
use Rattle.dns_records.specs.Record.{Record}
use Rattle.dns_zone.specs.Places.{IsRun}
use Rattle.dns_zoneindex.specs.Entries.{PathRecord, Child, flat}
use Rattle.dns_zoneindex.specs.Children.{items, joined}
use Rattle.dns_zoneindex.specs.Owned.{path_records}
use Rattle.dns_zoneindex.specs.Size.{children_size, weight}
use Rattle.dns_zoneindex.specs.declared.run.Step.{Step}
use Rattle.dns_zoneindex.specs.declared.run.Step.TheVariants as found

-- The run starts at this index, and has a record where one is left.
pub record IsLent (records : List Record) (position : ℕ) (lent : List Record) : Type 0 where
  pub run : IsRun records position lent
  pub some : position < length records → 0 < length lent

-- The index among the records of all slots is another index among those of one of them.
pub record IsThere (slots : List (List Child)) (position : ℕ) (slot : List Child) (left : ℕ) : Type 0 where
  pub front : List (List Child)
  pub back : List (List Child)
  pub whole : slots ≡ front ++ slot ∷ back
  pub before : position ≡ length (flat (joined front)) + left
  pub within : left < length (flat slot)

-- The index is past the records of all slots.
abbrev pub IsBeyond : List (List Child) → ℕ → Type 0
IsBeyond slots position = length (flat (joined slots)) ≤ position

-- The records are these; or the run of the children that starts at another index is the run of these, and the
-- children weigh less.
abbrev pub LeadsToRun : List PathRecord → ℕ → Step → Type 0
LeadsToRun own position (found.Run run) = IsLent (path_records own) position run.now
LeadsToRun own position (found.Below children left) =
    (children_size (items children.now) ≤ weight own)
    × ((run : List Record) → IsLent (path_records (flat (items children.now))) left run
    → IsLent (path_records own) position run)
