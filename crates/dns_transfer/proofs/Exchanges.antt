-- Transfers of the example zone of RFC 4592, octet for octet.
use Rattle.std.specs.Prelude.{◌≡◌, ℕ, true, false, List, [], ◌∷◌, ◌++◌, Option, Some, None, refl, codes, take, drop}
use Rattle.dns_records.specs.Types.{type_soa, type_txt}
use Rattle.dns_records.specs.Record.{Record, string}
use Rattle.dns_zone.specs.ExampleZone.{of, soa_octets, soa_e, ns_com, host1, example, example_records}
use Rattle.dns_wire.specs.Text.{EchoedQuestion}
use Rattle.dns_wire.specs.Message.{Message, Question}
use Rattle.dns_wire.specs.Reading.{message_of}
use Rattle.dns_request.specs.declared.request.Transport.TheVariants.{Udp, Tcp}
use Rattle.dns_changes.specs.Change.{Change}
use Rattle.dns_transfer.specs.Records.{transfer_of}
use Rattle.dns_transfer.specs.Messages.{Heading, octets_with, datagram_of}
use Rattle.dns_transfer.specs.Refusal.{client_serial, refusal}
use Rattle.dns_wire.proofs.Hex.{hex}

abbrev asked : List ℕ → Option EchoedQuestion
asked qtype = Some (record { octets = hex (codes "076578616d706c6500" ++ qtype ++ codes "0001"); name = example })

abbrev heading : ℕ → Heading
heading id = record { id = id; rd = false }

-- the whole zone in one message: its SOA, the eleven others in order, and its SOA
pub whole_zone : octets_with (heading 1) (asked (codes "00fc")) (transfer_of example_records [] None) ≡ hex (codes "000184000001000c00000000076578616d706c650000fc0001c00c0006000100000e100031026e73076578616d706c6503636f6d000a686f73746d6173746572c00c0000000700001c2000000384001275000000012cc00c0002000100000e100002c025c00c0002000100000e100010026e73076578616d706c65036e657400012ac00c000f000100000e10000a000a05686f737431c00cc0800010000100000e100013127468697320697320612077696c646361726403737562c0800010000100000e1000171674686973206973206e6f7420612077696c6463617264c0900001000100000e100004c0000201045f737368045f746370c0900021000100000e10001500000000001605686f737431076578616d706c6500045f737368045f74637005686f737432c00c0021000100000e10001500000000001605686f737432076578616d706c65000673756264656cc00c0002000100000e100002c025c14a0002000100000e100002c070c00c0006000100000e100018c025c0350000000700001c2000000384001275000000012c")
whole_zone = refl

-- the SOA of serial 8, and the TXT that came with it
abbrev soa_8 : Record
soa_8 = of example type_soa (soa_octets ns_com (codes "hostmaster" ∷ example) (8 ∷ 7200 ∷ 900 ∷ 1209600 ∷ 300 ∷ []))

abbrev text : Record
text = of (codes "_tcp" ∷ host1) type_txt (string (codes "x"))

abbrev changes : List Change
changes = record { old_soa = soa_e; removed = []; new_soa = soa_8; added = text ∷ [] } ∷ []

abbrev after : List Record
after = take 2 example_records ++ soa_8 ∷ take 4 (drop 3 example_records) ++ text ∷ drop 7 example_records

abbrev by_udp : ℕ → List ℕ
by_udp serial = datagram_of (heading 12) (asked (codes "00fb")) (transfer_of after changes (Some serial)) soa_8

-- a client of serial 7 gets the change, one of serial 8 the SOA alone
pub changed : by_udp 7 ≡ hex (codes "000c84000001000500000000076578616d706c650000fb0001c00c0006000100000e100031026e73076578616d706c6503636f6d000a686f73746d6173746572c00c0000000800001c2000000384001275000000012cc00c0006000100000e100018c025c0350000000700001c2000000384001275000000012cc00c0006000100000e100018c025c0350000000800001c2000000384001275000000012c045f74637005686f737431c00c0010000100000e1000020178c00c0006000100000e100018c025c0350000000800001c2000000384001275000000012c")
changed = refl

pub not_changed : by_udp 8 ≡ hex (codes "000c84000001000100000000076578616d706c650000fb0001c00c0006000100000e100031026e73076578616d706c6503636f6d000a686f73746d6173746572c00c0000000800001c2000000384001275000000012c")
not_changed = refl

-- the serial that a request has
abbrev serial_in : Option Message → Option ℕ
serial_in None = None
serial_in (Some m) = elim (m.questions) [ [] ↦ None | q ∷ rest ↦ client_serial q m.authorities ]

pub serial_of_request : serial_in (message_of (hex (codes "000c00000001000000010000076578616d706c650000fb0001c00c0006000100000000001600000000000700000000000000000000000000000000"))) ≡ Some 7
serial_of_request = refl

-- an AXFR by UDP, an IXFR without a SOA, a name that is not held, a peer that may not
abbrev question : ℕ → Question
question qtype = record { name = example; qtype = qtype; qclass = 1 }

pub whole_by_udp : refusal Udp (question 252) None true true ≡ Some 1
whole_by_udp = refl

pub without_soa : refusal Tcp (question 251) None true true ≡ Some 1
without_soa = refl

pub not_held : refusal Tcp (question 252) None false false ≡ Some 9
not_held = refl

pub not_allowed : refusal Udp (question 251) (Some 7) true false ≡ Some 5
not_allowed = refl

pub let_through : refusal Udp (question 251) (Some 7) true true ≡ None
let_through = refl
