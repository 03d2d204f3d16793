-- What octets are as a request.
use Rattle.std.specs.Prelude.{◌≡◌, ℕ, Bool, false, not, ◌&&◌, ◌||◌, ◌==◌, nat_lt, List, [], ◌∷◌, length}
use Rattle.std.specs.Prelude.{Option, Some, None, if◌then◌else◌}
use Rattle.dns_records.specs.Types.{type_ixfr, type_axfr, type_mailb, type_maila, class_in}
use Rattle.dns_wire.specs.Message.{Question, Message, header_of}
use Rattle.dns_wire.specs.Reads.{Reads}
use Rattle.dns_wire.specs.Reading.{message_of}
use Rattle.dns_request.specs.Codes.{rcode_formerr, rcode_notimp, rcode_refused}
use Rattle.dns_request.specs.declared.request.Transport.{Transport}
use Rattle.dns_request.specs.declared.request.Transport.TheVariants.{Udp, Tcp}

-- Kinds of requests (RFC 1035 4.1.1, RFC 2136 2.2).
abbrev pub opcode_query : ℕ
opcode_query = 0

abbrev pub opcode_update : ℕ
opcode_update = 5

-- What octets that came are: they get no reply; a header alone with a response code; their question back with
-- a response code; or they are a query, an update or a transfer request, each with its message and its one
-- question.
pub data Request : Type 0 where
  Ignored : Request
  Refused : ℕ → Request
  NotServed : Message → Question → ℕ → Request
  Query : Message → Question → Request
  Update : Message → Question → Request
  Transfer : Message → Question → Request

-- A message with one question, by its kind, its type and its class (RFC 1035 3.2.3 and 3.2.4).
abbrev pub question_as : Message → Question → Request
question_as m q =
    if m.header.opcode == opcode_update then Update m q
    else if q.qtype == type_ixfr || q.qtype == type_axfr then Transfer m q
    else if q.qtype == type_mailb || q.qtype == type_maila then NotServed m q rcode_notimp
    else if not (q.qclass == class_in) then NotServed m q rcode_refused
    else Query m q

-- What the header alone tells of it: one question, no additional records, and answers in an update alone.
abbrev pub counts_as_request : Message → Bool
counts_as_request m =
    length m.questions == 1
    && length m.additionals == 0
    && (m.header.opcode == opcode_update || length m.answers == 0)

-- It has no additional records, and as a query no others but those of an IXFR (RFC 1035 4.1.1, RFC 1995 3).
abbrev pub has_counts : Message → Question → Bool
has_counts m q =
    length m.additionals == 0
    && (m.header.opcode == opcode_update
    || length m.answers == 0 && (length m.authorities == 0 || q.qtype == type_ixfr))

-- A message, given its questions.
abbrev pub message_as : Message → List Question → Request
message_as m [] = Refused rcode_formerr
message_as m (q ∷ []) = if has_counts m q then question_as m q else Refused rcode_formerr
message_as m (q ∷ r ∷ rest) = Refused rcode_formerr

abbrev pub read_as : Option Message → Request
read_as None = Refused rcode_formerr
read_as (Some m) = message_as m m.questions

-- A datagram has at most 512 octets (RFC 1035 4.2.1).
abbrev pub too_long : Transport → List ℕ → Bool
too_long Udp octets = nat_lt 512 (length octets)
too_long Tcp octets = false

-- The tests in their order, given the message that the octets are, if they are one.
abbrev pub request_as : List ℕ → Transport → Option Message → Request
request_as octets transport read =
    if nat_lt (length octets) 12 || (header_of octets).qr then Ignored
    else if not ((header_of octets).opcode == opcode_query || (header_of octets).opcode == opcode_update)
    then Refused rcode_notimp
    else if too_long transport octets then Refused rcode_formerr
    else read_as read

-- The definition, over the grammar.
pub record IsRequest (octets : List ℕ) (transport : Transport) (r : Request) : Type 0 where
  pub read : (m : Message) → Reads octets m → r ≡ request_as octets transport (Some m)
  pub unread : ((m : Message) → Reads octets m → ⊥) → r ≡ request_as octets transport None

-- The same computed.
abbrev pub request_of : List ℕ → Transport → Request
request_of octets transport = request_as octets transport (message_of octets)
