-- The lines of transfers that ended, and of those that one datagram answered.
use Rattle.std.specs.Prelude.{ℕ, ◌+◌, ◌-◌, ◌*◌, ◌==◌, ◌&&◌, Bool, not, List, [], ◌++◌, length, slice_get}
use Rattle.std.specs.Prelude.{slice_set, slice_index, position, Option, Some, None, option_map, codes}
use Rattle.std.specs.Prelude.{decimal, if◌then◌else◌}
use Rattle.std.specs.declared.net.ip_addr.IpAddr.{IpAddr}
use Rattle.dns_names.specs.Name.{Labels, names_eq}
use Rattle.dns_names.specs.Text.{printed_name}
use Rattle.dns_policy.specs.Printed.{printed_address}
use Rattle.dns_request.specs.Request.{Request, Ignored, Refused, NotServed, Query, Update, request_of}
use Rattle.dns_request.specs.Request as request
use Rattle.dns_request.specs.declared.request.Transport.TheVariants.{Udp, Tcp}
use Rattle.dns_primary.specs.declared.event.Effects.{Effects}
use Rattle.dns_primary.specs.declared.event.Noted.{Noted}
use Rattle.dns_primary.specs.declared.event.Noted.TheVariants.{Nothing, OutOfMemory, Device}
use Rattle.dns_primary.specs.declared.event.Reply.{Reply}
use Rattle.dns_primary.specs.Step.{Event, Datagram, Connect, Arrives, Flush, Checkpoint, Pump, Closed}
use Rattle.dns_primary.specs.To.{octets_in}
use Rattle.dns_configuration.specs.Faults.{line}
use Rattle.dns_service.specs.declared.transfer_lines.Transfer.{Transfer}
use Rattle.dns_service.specs.UpdateLines.{address_on, reply_code}

-- The transfer that a request asks for, before its first message.
abbrev pub transfer_wanted : List Labels → Request → Option Transfer
transfer_wanted origins (request.Transfer m q) =
    option_map (λ zone. record { zone = zone; serial = 0; records = 0 })
    (position (λ origin. names_eq origin q.name) origins)
transfer_wanted origins Ignored = None
transfer_wanted origins (Refused rcode) = None
transfer_wanted origins (NotServed m q rcode) = None
transfer_wanted origins (Query m q) = None
transfer_wanted origins (Update m q) = None

abbrev pub transfer_asked : List Labels → List ℕ → Option Transfer
transfer_asked origins octets = transfer_wanted origins (request_of octets Tcp)

-- How many records a message counts in its answer section, ANCOUNT (RFC 1035 4.1.1).
abbrev pub answers_in : List ℕ → ℕ
answers_in message = slice_index message 6 * 256 + slice_index message 7

-- The serial that a message tells if it is the last of its transfer. The last record of a transfer is the
-- zone's SOA (RFC 5936 2.2, RFC 1995 4), nothing follows the answer section, and the last 20 octets of a SOA
-- are five numbers of four octets, of which the serial is the first (RFC 1035 3.3.13).
abbrev pub serial_at_end : List ℕ → ℕ
serial_at_end message = let at = length message - 20 in
    slice_index message at * 16777216 + slice_index message (at + 1) * 65536
    + slice_index message (at + 2) * 256 + slice_index message (at + 3)

-- A transfer after one message more.
abbrev pub with_message : Transfer → List ℕ → Transfer
with_message t message = record {
  zone = t.zone;
  serial = serial_at_end message;
  records = t.records + answers_in message;
}

-- The open transfers by the numbers of their connections, after a message that got no reply: it asked for
-- one.
abbrev pub opened : List (Option Transfer) → ℕ → Option Transfer → List (Option Transfer)
opened transfers number None = transfers
opened transfers number (Some t) = slice_set transfers number (Some t)

abbrev pub after_message : List Labels → List (Option Transfer) → ℕ → List ℕ → Option Reply → Noted
    → List (Option Transfer)
after_message origins transfers number octets None Nothing =
    opened transfers number (transfer_asked origins octets)
after_message origins transfers number octets None OutOfMemory = transfers
after_message origins transfers number octets None (Device index) = transfers
after_message origins transfers number octets (Some reply) noted = transfers

-- The transfer that is open on a connection, if there is one.
abbrev pub held_transfer : Option (Option Transfer) → Option Transfer
held_transfer None = None
held_transfer (Some transfer) = transfer

abbrev pub open_on : List (Option Transfer) → ℕ → Option Transfer
open_on transfers number = held_transfer (slice_get transfers number)

-- After a pump: the transfer has sent a message more, or it has none left, and is over.
abbrev pub after_pump : List (Option Transfer) → ℕ → Option Transfer → Option Reply → Noted
    → List (Option Transfer)
after_pump transfers number (Some t) (Some reply) noted =
    slice_set transfers number (Some (with_message t (octets_in reply.octets)))
after_pump transfers number (Some t) None Nothing = slice_set transfers number None
after_pump transfers number (Some t) None OutOfMemory = transfers
after_pump transfers number (Some t) None (Device index) = transfers
after_pump transfers number None reply noted = transfers

abbrev pub transfers_after : List Labels → List (Option Transfer) → Event → Effects → List (Option Transfer)
transfers_after origins transfers (Arrives number octets) effects =
    after_message origins transfers number octets effects.message effects.noted
transfers_after origins transfers (Pump number) effects =
    after_pump transfers number (open_on transfers number) effects.message effects.noted
transfers_after origins transfers (Datagram peer octets) effects = transfers
transfers_after origins transfers (Connect peer) effects = transfers
transfers_after origins transfers Flush effects = transfers
transfers_after origins transfers (Checkpoint index) effects = transfers
transfers_after origins transfers (Closed number) effects = transfers

-- The line of a transfer that is over: who had it, of which zone, the serial of the version that was sent,
-- and how many records were sent.
abbrev pub over_text : Option IpAddr → Option Labels → ℕ → ℕ → List ℕ
over_text (Some address) (Some origin) serial records =
    line (codes "transfer " ++ printed_address address ++ codes " " ++ printed_name origin ++ codes " "
    ++ decimal serial ++ codes " records " ++ decimal records)
over_text (Some address) None serial records = []
over_text None origin serial records = []

abbrev pub over_line : List Labels → Option IpAddr → Option Transfer → List ℕ
over_line origins address (Some t) = over_text address (slice_get origins t.zone) t.serial t.records
over_line origins address None = []

-- What is written of a pump: the line of the transfer that is over, if it finds no message left.
abbrev pub pump_said : List Labels → Option IpAddr → Option Transfer → Option Reply → Noted → List ℕ
pump_said origins address transfer None Nothing = over_line origins address transfer
pump_said origins address transfer None OutOfMemory = []
pump_said origins address transfer None (Device index) = []
pump_said origins address transfer (Some reply) noted = []

-- It has a record in its authority section, NSCOUNT (RFC 1035 4.1.1), as an IXFR has the SOA of the client's
-- version there (RFC 1995 3), and a query has none.
abbrev pub has_authority : List ℕ → Bool
has_authority message = not (slice_index message 8 * 256 + slice_index message 9 == 0)

-- What is written of a datagram that is a request, given the octets of its reply: the line of the transfer
-- that the reply is (RFC 1995 2), if a transfer was asked for.
abbrev pub answered_text : IpAddr → Request → List ℕ → List ℕ
answered_text address (request.Transfer m q) reply =
    over_text (Some address) (Some q.name) (serial_at_end reply) (answers_in reply)
answered_text address Ignored reply = []
answered_text address (Refused rcode) reply = []
answered_text address (NotServed m q rcode) reply = []
answered_text address (Query m q) reply = []
answered_text address (Update m q) reply = []

-- A reply brings records: NOERROR, and not cut off (TC), as one without any record is.
abbrev pub brings_records : List ℕ → Bool
brings_records reply = reply_code reply == 0 && not (answers_in reply == 0)

-- What is written of a datagram: the line of the transfer that answers it.
abbrev pub datagram_said : IpAddr → List ℕ → Option Reply → List ℕ
datagram_said address octets None = []
datagram_said address octets (Some reply) =
    if has_authority octets && brings_records (octets_in reply.octets)
    then answered_text address (request_of octets Udp) (octets_in reply.octets)
    else []

abbrev pub transfer_said : List Labels → List (Option IpAddr) → List (Option Transfer) → Event → Effects
    → List ℕ
transfer_said origins addresses transfers (Pump number) effects =
    pump_said origins (address_on addresses number) (open_on transfers number) effects.message effects.noted
transfer_said origins addresses transfers (Datagram peer octets) effects =
    datagram_said peer.address octets effects.message
transfer_said origins addresses transfers (Connect peer) effects = []
transfer_said origins addresses transfers (Arrives number octets) effects = []
transfer_said origins addresses transfers Flush effects = []
transfer_said origins addresses transfers (Checkpoint index) effects = []
transfer_said origins addresses transfers (Closed number) effects = []
