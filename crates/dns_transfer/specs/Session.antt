-- A transfer under way.
use Rattle.std.specs.Prelude.{◌≡◌, ◌<◌, ◌≤◌, ℕ, List, [], ◌∷◌, ◌++◌, length, Bool, Option, Some, None}
use Rattle.std.specs.Prelude.{is_some, Result, Ok, Err}
use Rattle.dns_records.specs.Record.{Record}
use Rattle.dns_zone.specs.Zone.{Zone, soas}
use Rattle.dns_changes.specs.Change.{Change}
use Rattle.dns_wire.specs.Message.{Question, Message}
use Rattle.dns_wire.specs.Text.{EchoedQuestion, Reply, text}
use Rattle.dns_wire.specs.Codes.{number_of_rcode}
use Rattle.dns_wire.specs.declared.codes.Rcode.{Rcode}
use Rattle.dns_wire.specs.Echo.{echo_of}
use Rattle.dns_request.specs.declared.request.Transport.{Transport}
use Rattle.dns_request.specs.declared.request.Transport.TheVariants.{Udp, Tcp}
use Rattle.dns_transfer.specs.Messages.{Heading, IsNextMessage, datagram_of}
use Rattle.dns_transfer.specs.Records.{transfer_of}
use Rattle.dns_transfer.specs.Refusal.{client_serial, refusal, serial_asked}

-- How its messages go, what they repeat of the request, the SOA of the version that it was opened for, and
-- the records that are still to be sent. The question is there until a message has it.
pub record Sending : Type 0 where
  pub transport : Transport
  pub heading : Heading
  pub question : Option EchoedQuestion
  pub soa : Record
  pub left : List Record

-- The next message by TCP: as many records as fit (RFC 5936 2.2). By UDP there is one (RFC 1995 2).
abbrev pub SendsBy : Transport → Sending → List ℕ → List Record → Type 0
SendsBy Tcp s message rest = IsNextMessage s.heading s.question s.left message rest
SendsBy Udp s message rest = (message ≡ datagram_of s.heading s.question s.left s.soa) × (rest ≡ [])

-- A message goes out, and these records are left.
abbrev pub SendsMessage : Sending → List ℕ → Sending → Type 0
SendsMessage s message next =
    (next ≡ record s { question = None; left = next.left }) × SendsBy s.transport s message next.left

-- A version of a zone that is held, and the changes that lead to it.
pub record Version : Type 0 where
  pub zone : Zone
  pub changes : List Change

-- The answer to the request, from that version, is still to be sent.
pub record IsTransferOpened (transport : Transport) (octets : List ℕ) (m : Message) (q : Question)
    (version : Version) (s : Sending) : Type 0 where
  pub by : s.transport ≡ transport
  pub heading : s.heading ≡ record { id = m.header.id; rd = m.header.rd }
  pub question : s.question ≡ Some (echo_of octets q)
  pub soa : soas (version.zone).records ≡ s.soa ∷ []
  pub left : s.left
      ≡ transfer_of (version.zone).records version.changes (serial_asked q (client_serial q m.authorities))

-- What a request is answered: the session, or a refusal.
abbrev pub Opens : Transport → List ℕ → Message → Question → Option Version → Bool
    → Result Sending Rcode → Type 0
Opens transport octets m q version allowed (Ok s) =
    (refusal transport q (client_serial q m.authorities) (is_some version) allowed ≡ None)
    × (v : Version)
    × (version ≡ Some v)
    × IsTransferOpened transport octets m q v s
Opens transport octets m q version allowed (Err rcode) =
    refusal transport q (client_serial q m.authorities) (is_some version) allowed
    ≡ Some (number_of_rcode rcode)

-- A reply with these records as its answer.
abbrev pub with_answer : Reply → List Record → Reply
with_answer reply records = record reply { answer = records }

-- A message that begins as that reply takes the first of the records that are left, as many as fit.
pub record IsFilled (reply : Reply) (limit : ℕ) (left : List Record) (message : List ℕ)
    (rest : List Record) : Type 0 where
  pub sent : List Record
  pub in_order : left ≡ sent ++ rest
  pub packed : message ≡ text (with_answer reply sent)
  pub fits : length message ≤ limit
  pub most : (r : Record) (more : List Record) → rest ≡ r ∷ more
      → limit < length (text (with_answer reply (sent ++ r ∷ [])))
