-- When counts are told.
use Rattle.std.specs.Prelude.{ℕ, ◌+◌, ◌==◌, ◌&&◌, nat_le, not, min, Bool, true, false, Result, Ok, Err}
use Rattle.std.specs.Prelude.{if◌then◌else◌}
use Rattle.dns_counters.specs.Counters.{most}

-- It is time in the second `now` where they are told each so many seconds, and next from the second `next`
-- on; with each 0 seconds it never is.
abbrev pub is_due : ℕ → ℕ → ℕ → Bool
is_due now every next = not (every == 0) && nat_le next now

-- From which second on they are told next after that.
abbrev pub next_due : ℕ → ℕ → ℕ → ℕ
next_due now every next = if is_due now every next then min (now + every) most else next

-- They were told, or it wasn't time and this stayed as it was.
abbrev pub IsToldIfDue : {E : Type 0} → Result Bool E → Type 0 → Type 0 → Type 0
IsToldIfDue (Ok true) told same = told
IsToldIfDue (Ok false) told same = same
IsToldIfDue (Err e) told same = Unit {0}
