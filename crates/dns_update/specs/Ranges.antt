-- The records of a name by their types, which rise.
use Rattle.std.specs.Prelude.{ℕ, Bool, ◌||◌, nat_lt}
use Rattle.dns_records.specs.Record.{Record}

-- The type is none of those from one on up to another.
abbrev pub is_outside : ℕ → ℕ → Record → Bool
is_outside first last r = nat_lt r.rtype first || nat_lt last r.rtype
