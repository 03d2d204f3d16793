-- How far the answer to a transfer was read.
use Rattle.std.specs.Prelude.{⊤, List}
use Rattle.dns_records.specs.Record.{Record}

pub data State : Type 0 where
  -- no record yet
  Begun : State
  -- the SOA that leads, and no record after it
  Led : (soa : Record) → State
  -- within a whole zone: the SOA that leads, and the records so far, with it
  Whole : (soa : Record) (set : List Record) → State
  -- within a sequence, in the records that go: the SOA that leads, and the set reached, without the old SOA
  -- and what went
  Removing : (soa : Record) (set : List Record) → State
  -- within a sequence, in the records that come: the same with its new SOA, and what came
  Adding : (soa : Record) (set : List Record) (reached : Record) → State
  -- after the end, with the set that the answer leads to
  Ended : (set : List Record) → State

-- The answer is not at its end there: a record may follow.
abbrev pub IsUnfinished : State → Type 0
IsUnfinished (Ended set) = ⊥
IsUnfinished state = ⊤
