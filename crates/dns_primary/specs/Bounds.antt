-- How much waits for a flush, and for which zones.
use Rattle.std.specs.Prelude.{◌≡◌, ◌≤◌, false, List, length, slice_get}
use Rattle.std.specs.List.{AllByRecursion}
use Rattle.dns_primary.specs.Machine.{ZoneState, Waits, Machine}
use Rattle.dns_primary.specs.Flush.{is_closed_in}
use Rattle.dns_primary.specs.Update.{most_waiting}

abbrev pub HasFewStaged : ZoneState → Type 0
HasFewStaged z = length z.staged ≤ most_waiting

-- The zone that a reply waits for is open.
abbrev pub IsForOpen : List ZoneState → Waits → Type 0
IsForOpen zones w = is_closed_in (slice_get zones w.zone) ≡ false

-- No more replies wait than may, and of no zone are more updates staged: a flush makes no more entries of it.
-- None waits for a zone that is closed.
pub record IsBounded (m : Machine) : Type 0 where
  pub waiting : length m.waiting ≤ most_waiting
  pub staged : AllByRecursion HasFewStaged m.zones
  pub opened : AllByRecursion (IsForOpen m.zones) m.waiting
