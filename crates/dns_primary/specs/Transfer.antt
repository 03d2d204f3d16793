-- Transfers of zones: what a request opens, and what goes out (RFC 5936, RFC 1995).
use Rattle.std.specs.Prelude.{◌≡◌, ℕ, Bool, true, false, ◌&&◌, ◌==◌, List, [], ◌∷◌, ◌++◌, map, drop}
use Rattle.std.specs.Prelude.{slice_get, Option, Some, None, option_map, is_none, Result, Ok, Err}
use Rattle.std.specs.Prelude.{if◌then◌else◌}
use Rattle.std.specs.declared.net.ip_addr.IpAddr.{IpAddr}
use Rattle.dns_names.specs.Name.{Labels}
use Rattle.dns_records.specs.Record.{Record}
use Rattle.dns_zone.specs.Zone.{soas}
use Rattle.dns_changes.specs.Change.{Change, only_in}
use Rattle.dns_wire.specs.Message.{Question, Message}
use Rattle.dns_wire.specs.Text.{text}
use Rattle.dns_wire.specs.declared.codes.Rcode.{Rcode}
use Rattle.dns_wire.specs.declared.codes.Rcode.TheVariants.{FormErr}
use Rattle.dns_wire.specs.Codes.{number_of_rcode}
use Rattle.dns_request.specs.declared.request.Transport.{Transport}
use Rattle.dns_request.specs.declared.request.Transport.TheVariants.{Udp, Tcp}
use Rattle.dns_answer.specs.Answer.{bare_reply, fitted, with_question}
use Rattle.dns_store.specs.Versions.{Versions, version_at}
use Rattle.dns_transfer.specs.Session.{Sending, SendsMessage, Version, Opens}
use Rattle.dns_versions.specs.Held.{shown_zone}
use Rattle.dns_primary.specs.declared.event.Peer.{Peer}
use Rattle.dns_primary.specs.declared.event.To.{To}
use Rattle.dns_primary.specs.declared.event.To.TheVariants.{Address, Connection, Nowhere}
use Rattle.dns_primary.specs.Machine as machine
use Rattle.dns_primary.specs.Machine.{ZoneState, Machine, kept_of, versions_of, sending_at}
use Rattle.dns_primary.specs.Flush.{Sent, Replied}
use Rattle.dns_primary.specs.Update.{zone_position}

-- The change between two versions with one SOA each.
abbrev pub change_by : List Record → List Record → List Record → List Record → List Change
change_by before after (b ∷ []) (a ∷ []) =
    record { old_soa = b; removed = only_in before after; new_soa = a; added = only_in after before } ∷ []
change_by before after _ _ = []

-- The changes from a version to the one after it, and so on.
abbrev pub changes_along : List Record → Versions → List Change
changes_along before [] = []
changes_along before (v ∷ rest) = change_by before v (soas before) (soas v) ++ changes_along v rest

-- The version that is shown, and the journalled changes that lead to it (RFC 1995 4): those from the base on.
abbrev pub transfer_version : ZoneState → Version
transfer_version z = record {
  zone = shown_zone (kept_of z);
  changes = changes_along (version_at (kept_of z) z.base) (drop z.base (versions_of z.shown));
}

-- The first zone with this apex.
abbrev pub zone_at : List ZoneState → Option ℕ → Option ZoneState
zone_at zones None = None
zone_at zones (Some index) = slice_get zones index

abbrev pub zone_named : Labels → List ZoneState → Option ZoneState
zone_named apex zones = zone_at zones (zone_position apex zones)

-- The transport by which a reply goes.
abbrev pub transport_of : To → Transport
transport_of (Address peer) = Udp
transport_of (Connection number) = Tcp
transport_of Nowhere = Udp

-- No transfer is open where the reply goes.
abbrev pub is_free : To → List machine.Connection → Bool
is_free (Address peer) connections = true
is_free (Connection number) connections = is_none (sending_at number connections)
is_free Nowhere connections = true

-- The peer may have the zone.
abbrev pub may_have : IpAddr → Option ZoneState → Bool
may_have address None = false
may_have address (Some z) = z.setting.may_transfer address

-- What a request of a zone opens, from the version that is shown, or why it is refused.
abbrev pub OpensShown : Machine → ZoneState → To → Peer → List ℕ → Message → Question → Result Sending Rcode
    → Type 0
OpensShown m z to peer octets message question opened =
    Opens (transport_of to) octets message question (Some (transfer_version z))
    (z.setting.may_transfer peer.address && is_free to m.connections) opened

-- What a request opens, from the version that is shown, or why it is refused.
abbrev pub OpensFrom : Machine → To → Peer → List ℕ → Message → Question → Result Sending Rcode → Type 0
OpensFrom m to peer octets message question opened =
    Opens (transport_of to) octets message question
    (option_map transfer_version (zone_named question.name m.zones))
    (may_have peer.address (zone_named question.name m.zones) && is_free to m.connections) opened

-- The reply where it is refused: FORMERR as a header alone, else with the question.
abbrev pub refusal_of : Transport → List ℕ → Message → Question → Rcode → List ℕ
refusal_of transport octets message question FormErr =
    text (bare_reply message.header (number_of_rcode FormErr))
refusal_of transport octets message question rcode =
    fitted transport (with_question octets message question (number_of_rcode rcode))

-- This transfer, or none, is open on the connection with that number.
abbrev pub set_transfer : ℕ → Option Sending → machine.Connection → machine.Connection
set_transfer number s c = if c.number == number then record c { transfer = s } else c

abbrev pub with_transfer : ℕ → Option Sending → Machine → Machine
with_transfer number s m = record m { connections = map (set_transfer number s) m.connections }

-- By TCP the transfer is open then, and nothing goes out yet. By UDP its one message goes out (RFC 1995 2).
abbrev pub TransferBegins : Machine → To → Sending → List Sent → Machine → Type 0
TransferBegins m (Connection number) s out next = (out ≡ []) × (next ≡ with_transfer number (Some s) m)
TransferBegins m (Address peer) s out next =
    (message : List ℕ) × (rest : Sending) × SendsMessage s message rest
    × (out ≡ Replied (Address peer) message ∷ []) × (next ≡ m)
TransferBegins m Nowhere s out next = (out ≡ []) × (next ≡ m)

abbrev pub IsStarted : Machine → To → List ℕ → Message → Question → Result Sending Rcode → List Sent
    → Machine → Type 0
IsStarted m to octets message question (Ok s) out next = TransferBegins m to s out next
IsStarted m to octets message question (Err rcode) out next =
    (out ≡ Replied to (refusal_of (transport_of to) octets message question rcode) ∷ []) × (next ≡ m)

-- What becomes of a request for a transfer.
abbrev pub IsTransferred : Machine → To → Peer → List ℕ → Message → Question → List Sent → Machine → Type 0
IsTransferred m to peer octets message question out next =
    (opened : Result Sending Rcode) × OpensFrom m to peer octets message question opened
    × IsStarted m to octets message question opened out next

-- A transfer of which no record is left is at its end.
abbrev pub open_still : List Record → Sending → Option Sending
open_still [] s = None
open_still (r ∷ rest) s = Some s

-- The next message of a transfer goes out to its connection, and the one that leaves no record ends it.
abbrev pub IsSentOn : Machine → ℕ → Sending → List Record → List Sent → Machine → Type 0
IsSentOn m number s [] out next = (out ≡ []) × (next ≡ with_transfer number None m)
IsSentOn m number s (r ∷ left) out next =
    (message : List ℕ) × (rest : Sending) × SendsMessage s message rest
    × (out ≡ Replied (Connection number) message ∷ [])
    × (next ≡ with_transfer number (open_still rest.left rest) m)

abbrev pub IsPumped : Machine → ℕ → Option Sending → List Sent → Machine → Type 0
IsPumped m number None out next = (out ≡ []) × (next ≡ m)
IsPumped m number (Some s) out next = IsSentOn m number s s.left out next
