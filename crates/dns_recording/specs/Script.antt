-- What is written of a server's reports: a script, a line for each event of its machine.
use Rattle.std.specs.Prelude.{ℕ, ◌||◌, Bool, true, false, List, [], ◌∷◌, ◌++◌, length, codes, decimal}
use Rattle.std.specs.Prelude.{is_some, slice_get, slice_set, unwrap_or, if◌then◌else◌}
use Rattle.std.specs.declared.net.ip_addr.IpAddr.{IpAddr}
use Rattle.hex.specs.Hex.{encode_lower}
use Rattle.dns_names.specs.Name.{Labels}
use Rattle.dns_names.specs.Text.{printed_name}
use Rattle.dns_policy.specs.Printed.{printed_address}
use Rattle.dns_zone.specs.Zone.{Zone, soas}
use Rattle.dns_changes.specs.Version.{serial_in}
use Rattle.dns_versions.specs.Held.{shown_zone}
use Rattle.dns_primary.specs.Machine.{ZoneState, kept_of}
use Rattle.dns_primary.specs.Step.{Event, Datagram, Connect, Arrives, Flush, Checkpoint, Pump, Closed}
use Rattle.dns_primary.specs.declared.event.Effects.{Effects}
use Rattle.dns_primary.specs.declared.event.Noted.{Noted}
use Rattle.dns_primary.specs.declared.event.Noted.TheVariants as noted
use Rattle.dns_network.specs.declared.network.Note.{Note}
use Rattle.dns_network.specs.declared.network.Note.TheVariants as note
use Rattle.dns_network.specs.Notes.{Report, OfNote, OfEvent}

-- A text, unless there are no octets to tell: no script says an empty message, and none has an effect.
abbrev pub if_any : List ℕ → List ℕ → List ℕ
if_any [] text = []
if_any (octet ∷ rest) text = text

-- The line of a datagram that came from an address: `udp ADDR HEX`.
abbrev pub datagram_line : IpAddr → List ℕ → List ℕ
datagram_line address octets =
    if_any octets
    (codes "udp " ++ printed_address address ++ codes " " ++ encode_lower octets ++ codes "\n")

-- The line of a message that came on the connection with a number: `tcp N HEX`.
abbrev pub message_line : ℕ → List ℕ → List ℕ
message_line number octets =
    if_any octets (codes "tcp " ++ decimal number ++ codes " " ++ encode_lower octets ++ codes "\n")

-- The line of a peer that connects, from an address: `connect ADDR`.
abbrev pub connect_line : IpAddr → List ℕ
connect_line address = codes "connect " ++ printed_address address ++ codes "\n"

-- The line of a connection that is closed: `close N`.
abbrev pub close_line : ℕ → List ℕ
close_line number = codes "close " ++ decimal number ++ codes "\n"

-- The line of a transfer that is asked for its next message: `pump N`.
abbrev pub pump_line : ℕ → List ℕ
pump_line number = codes "pump " ++ decimal number ++ codes "\n"

-- The line of a flush.
abbrev pub flush_line : List ℕ
flush_line = codes "flush\n"

-- How many connections there may be.
abbrev pub places_recorded : ℕ
places_recorded = 64

-- What is written of a report, and of each connection, by its number, whether it is stirred: a message came
-- on it since a pump found nothing there. A pump of one that isn't finds nothing again, unless it says so.
pub record Scripted : Type 0 where
  pub text : List ℕ
  pub stirred : List Bool

abbrev pub unsaid : List Bool → Scripted
unsaid stirred = record { text = []; stirred = stirred }

abbrev pub is_stirred : List Bool → ℕ → Bool
is_stirred stirred number = unwrap_or (slice_get stirred number) false

-- A pump has found something if a message goes out, or something is noted.
abbrev pub is_noted : Noted → Bool
is_noted noted.Nothing = false
is_noted noted.OutOfMemory = true
is_noted (noted.Device index) = true

abbrev pub has_found : Effects → Bool
has_found effects = is_some effects.message || is_noted effects.noted

-- A pump has its line, unless it finds nothing on a connection that is not stirred. A server makes such pumps
-- in each turn, of each connection on which no transfer is open.
abbrev pub pump_scripted : List Bool → ℕ → Bool → Scripted
pump_scripted stirred number found = record {
  text = if found || is_stirred stirred number then pump_line number else [];
  stirred = slice_set stirred number found;
}

-- Of notes those of connections have lines: one that is opened is not stirred.
abbrev pub note_scripted : List Bool → Note → Scripted
note_scripted stirred (note.Opened number peer) =
    record { text = connect_line peer.address; stirred = slice_set stirred number false }
note_scripted stirred (note.Closed number) = record { text = close_line number; stirred = stirred }
note_scripted stirred (note.Silent number) = unsaid stirred
note_scripted stirred (note.Stalled number) = unsaid stirred
note_scripted stirred note.Refused = unsaid stirred
note_scripted stirred note.OutOfMemory = unsaid stirred
note_scripted stirred (note.Device index) = unsaid stirred
note_scripted stirred (note.Begins now) = unsaid stirred
note_scripted stirred note.Ends = unsaid stirred
note_scripted stirred note.Unrecorded = unsaid stirred

-- Of a connection that comes or ends there is a note, and no server asks for a checkpoint.
abbrev pub event_scripted : List Bool → Event → Effects → Scripted
event_scripted stirred (Datagram peer octets) effects =
    record { text = datagram_line peer.address octets; stirred = stirred }
event_scripted stirred (Arrives number octets) effects =
    record { text = message_line number octets; stirred = slice_set stirred number true }
event_scripted stirred (Pump number) effects = pump_scripted stirred number (has_found effects)
event_scripted stirred Flush effects = record { text = flush_line; stirred = stirred }
event_scripted stirred (Connect peer) effects = unsaid stirred
event_scripted stirred (Checkpoint index) effects = unsaid stirred
event_scripted stirred (Closed number) effects = unsaid stirred

abbrev pub report_scripted : List Bool → Report → Scripted
report_scripted stirred (OfNote one) = note_scripted stirred one
report_scripted stirred (OfEvent event effects) = event_scripted stirred event effects

-- The script of reports, in order, where these connections are stirred before them.
abbrev pub script_of : List Bool → List Report → List ℕ
script_of stirred [] = []
script_of stirred (one ∷ rest) =
    let said = report_scripted stirred one in said.text ++ script_of said.stirred rest

-- The comment that tells which version of a zone is shown where a script begins, and its serial.
abbrev pub zone_comment : Labels → ℕ → Zone → List ℕ
zone_comment origin version zone =
    codes "# zone " ++ printed_name origin ++ codes " version " ++ decimal version ++ codes " serial "
    ++ decimal (serial_in (soas zone.records)) ++ codes "\n"

-- Those of the zones of a machine, which have these names.
abbrev pub zone_comments : List Labels → List ZoneState → List ℕ
zone_comments [] zones = []
zone_comments (origin ∷ origins) [] = []
zone_comments (origin ∷ origins) (z ∷ zones) =
    zone_comment origin (length z.shown) (shown_zone (kept_of z)) ++ zone_comments origins zones

-- They are written before any report, and no connection is stirred by them.
abbrev pub comments_scripted : List Bool → List Labels → List ZoneState → Scripted
comments_scripted stirred origins zones =
    record { text = zone_comments origins zones; stirred = stirred }
