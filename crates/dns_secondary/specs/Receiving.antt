-- One who asked for a transfer, and the headers of the messages that answer.
use Rattle.std.specs.Prelude.{ℕ, Bool, true, false, not, ◌&&◌, ◌==◌, List, [], ◌∷◌, Option, Some, None}
use Rattle.std.specs.Prelude.{if◌then◌else◌}
use Rattle.dns_names.specs.Name.{Labels, names_eq}
use Rattle.dns_records.specs.Types.{class_in, type_axfr, type_ixfr}
use Rattle.dns_zone.specs.Zone.{Zone}
use Rattle.dns_wire.specs.Message.{Message, Question}
use Rattle.dns_request.specs.Request.{opcode_query}
use Rattle.dns_request.specs.declared.request.Transport.{Transport}
use Rattle.dns_secondary.specs.State.{State}
use Rattle.dns_secondary.specs.declared.fault.Fault.{Fault}
use Rattle.dns_secondary.specs.declared.fault.Fault.TheVariants.{BadMessage, WrongId, Refused}

-- The zone that was asked for, the version that is held, if one is, the number of the request, how it went,
-- and how far the answer was read; the answer is over where there is no state.
pub record Receiving : Type 0 where
  pub apex : Labels
  pub held : Option Zone
  pub id : ℕ
  pub transport : Transport
  pub state : Option State

-- The changes of a version that is held are asked for, else the whole zone (RFC 1995 3, RFC 5936 2.1).
abbrev pub type_asked : Option Zone → ℕ
type_asked None = type_axfr
type_asked (Some z) = type_ixfr

-- A message repeats the question of the request, or has none (RFC 5936 2.2.1).
abbrev pub repeats_question : Labels → Option Zone → List Question → Bool
repeats_question apex held [] = true
repeats_question apex held (q ∷ []) =
    names_eq q.name apex && q.qtype == type_asked held && q.qclass == class_in
repeats_question apex held (q ∷ r ∷ rest) = false

-- It is a response to a query, whole, for that question (RFC 1035 4.1.1).
abbrev pub is_answer : Receiving → Message → Bool
is_answer s m =
    m.header.qr && m.header.opcode == opcode_query && not m.header.tc
    && repeats_question s.apex s.held m.questions

-- Why a message is refused by its header and its question: the first that applies.
abbrev pub header_fault : Receiving → Message → Option Fault
header_fault s m =
    if not (is_answer s m) then Some BadMessage
    else if not (m.header.id == s.id) then Some WrongId
    else if not (m.header.rcode == 0) then Some (Refused m.header.rcode)
    else None
