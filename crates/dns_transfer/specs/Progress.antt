-- A transfer comes to its end.
use Rattle.std.specs.Prelude.{◌<◌, ◌≤◌, List, length, Option}
use Rattle.dns_records.specs.Record.{Record}
use Rattle.dns_wire.specs.Text.{EchoedQuestion}
use Rattle.dns_wire.specs.Puts.{asked}

-- A question has a name of at most 255 octets, a type and a class (RFC 1035 4.1.2).
abbrev pub IsShort : Option EchoedQuestion → Type 0
IsShort question = length (asked question).octets ≤ 259

abbrev pub HasFewer : List Record → List Record → Type 0
HasFewer rest left = length rest < length left
