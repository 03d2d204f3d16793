-- Whether a line that peers cause is written.
use Rattle.std.specs.Prelude.{ℕ, Bool, true, false, ◌+◌, List, [], nat_lt, if◌then◌else◌}
use Rattle.dns_service.specs.declared.log.Counts.{Counts}

-- What peers have caused at the start of a second.
abbrev pub none_in : ℕ → Counts
none_in second = record { second = second; written = 0; left_out = 0; refused = 0 }

-- Whether one more line that peers cause is written, and the counts after it: of one second at most 20 are,
-- and of a quiet log none.
abbrev pub line_verdict : Bool → Counts → Bool × Counts
line_verdict true counts = (false, counts)
line_verdict false counts =
    if nat_lt counts.written 20 then (true, record counts { written = counts.written + 1 })
    else (false, record counts { left_out = counts.left_out + 1 })

-- What is written if the verdict on a line is this, and the counts after it.
abbrev pub by_verdict : Bool × Counts → List ℕ → List ℕ × Counts
by_verdict v text = (if v.0 then text else [], v.1)
