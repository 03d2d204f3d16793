-- The numbers of response codes and of kinds of requests.
use Rattle.std.specs.Prelude.{ℕ}
use Rattle.dns_wire.specs.declared.codes.Rcode.{Rcode}
use Rattle.dns_wire.specs.declared.codes.Rcode.TheVariants as rcode
use Rattle.dns_wire.specs.declared.codes.Opcode.{Opcode}
use Rattle.dns_wire.specs.declared.codes.Opcode.TheVariants as opcode

-- RFC 1035 4.1.1, RFC 2136 2.2
abbrev pub number_of_rcode : Rcode → ℕ
number_of_rcode rcode.NoError = 0
number_of_rcode rcode.FormErr = 1
number_of_rcode rcode.ServFail = 2
number_of_rcode rcode.NxDomain = 3
number_of_rcode rcode.NotImp = 4
number_of_rcode rcode.Refused = 5
number_of_rcode rcode.YxDomain = 6
number_of_rcode rcode.YxRrset = 7
number_of_rcode rcode.NxRrset = 8
number_of_rcode rcode.NotAuth = 9
number_of_rcode rcode.NotZone = 10

-- QUERY and UPDATE (RFC 1035 4.1.1, RFC 2136 2.2)
abbrev pub number_of_opcode : Opcode → ℕ
number_of_opcode opcode.Query = 0
number_of_opcode opcode.Update = 5
