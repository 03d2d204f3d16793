-- Which form the answer to a transfer has.
use Rattle.std.specs.Prelude.{ℕ, ◌+◌, ◌^◌, Bool, not, ◌&&◌, ◌||◌, ◌==◌, nat_lt, List, [], ◌∷◌, Option, Some}
use Rattle.std.specs.Prelude.{None, if◌then◌else◌}
use Rattle.dns_records.specs.Record.{serial_of}
use Rattle.dns_serial.specs.Serial.{advance, greater}
use Rattle.dns_changes.specs.Change.{Change}

-- How far the serial goes over changes that follow one another (RFC 1982 3.1).
abbrev pub advances : List Change → ℕ
advances [] = 0
advances (c ∷ rest) = advance (serial_of c.old_soa) (serial_of c.new_soa) + advances rest

-- The version before the first of the changes is journalled where the serial goes less than 2^31 over all of
-- them: what is further away can't be compared with the version that is shown (RFC 1982 3.2).
abbrev pub is_journalled : List Change → Bool
is_journalled changes = nat_lt (advances changes) (2 ^ 31)

-- The changes from the journalled version of a serial on, among all that are kept (RFC 1995 4).
abbrev pub since : ℕ → List Change → Option (List Change)
since serial [] = None
since serial (c ∷ rest) =
    if is_journalled (c ∷ rest) && serial_of c.old_soa == serial then Some (c ∷ rest) else since serial rest

pub data Form : Type 0 where
  -- the SOA of the version that is shown, alone (RFC 1995 2)
  Current : Form
  -- the changes from the client's version on, the oldest first (RFC 1995 4)
  Incremental : List Change → Form
  -- the whole zone (RFC 5936 2.2)
  Full : Form

abbrev pub form_since : Option (List Change) → Form
form_since None = Full
form_since (Some changes) = Incremental changes

-- The form for a client that has a serial, where the shown version has the current one; AXFR has none. Where
-- the two are 2^31 apart, neither is greater, and the form is the full one.
abbrev pub form_of : ℕ → List Change → Option ℕ → Form
form_of current changes None = Full
form_of current changes (Some serial) =
    if current == serial || greater serial current then Current
    else if not (greater current serial) then Full
    else form_since (since serial changes)
