-- The question of a request as it goes out again.
use Rattle.std.specs.Prelude.{ℕ, ◌+◌, List, length, slice_range}
use Rattle.dns_names.specs.Name.{wire}
use Rattle.dns_wire.specs.Message.{Question}
use Rattle.dns_wire.specs.Text.{EchoedQuestion}

-- It follows the header. No pointer can occur in it.
abbrev pub echo_of : List ℕ → Question → EchoedQuestion
echo_of octets q = record { octets = slice_range octets 12 (12 + length (wire q.name) + 4); name = q.name }
