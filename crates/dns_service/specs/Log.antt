-- The lines of a server's log.
use Rattle.std.specs.Prelude.{◌≡◌, ◌+◌, ◌==◌, ℕ, Bool, true, false, List, [], ◌∷◌, ◌++◌, length, replicate}
use Rattle.std.specs.Prelude.{slice_get, slice_set, Option, Some, None, codes, decimal, flat_map}
use Rattle.std.specs.Prelude.{if◌then◌else◌}
use Rattle.std.specs.declared.net.ip_addr.IpAddr.{IpAddr}
use Rattle.std.specs.declared.net.socket_addr.SocketAddr.{SocketAddr}
use Rattle.std.specs.Net.Text.{socket_text}
use Rattle.std.specs.Io.KnownBytes.{Appends, append_known}
use Rattle.dns_names.specs.Name.{Labels}
use Rattle.dns_names.specs.Text.{printed_name}
use Rattle.dns_policy.specs.Printed.{printed_address}
use Rattle.dns_zone.specs.Zone.{Zone, soas}
use Rattle.dns_changes.specs.Version.{serial_in}
use Rattle.dns_versions.specs.Held.{shown_zone}
use Rattle.dns_primary.specs.Machine.{ZoneState, kept_of}
use Rattle.dns_primary.specs.Step.{Event}
use Rattle.dns_primary.specs.declared.event.Effects.{Effects}
use Rattle.dns_primary.specs.declared.event.Peer.{Peer}
use Rattle.dns_network.specs.declared.network.Note.{Note}
use Rattle.dns_network.specs.declared.network.Note.TheVariants as note
use Rattle.dns_network.specs.Notes.{Report, OfNote, OfEvent}
use Rattle.dns_configuration.specs.Faults.{line}
use Rattle.dns_service.specs.declared.log.Counts.{Counts}
use Rattle.dns_service.specs.declared.log.Log.{Log}
use Rattle.dns_service.specs.declared.transfer_lines.Transfer.{Transfer}
use Rattle.dns_service.specs.TransferLines.{transfer_said, transfers_after}
use Rattle.dns_service.specs.UpdateLines.{event_said}
use Rattle.dns_service.specs.Verdict.{by_verdict, line_verdict, none_in}

-- The line of a zone: its name, the number of the version that is shown, and its serial.
abbrev pub zone_line : Labels → ℕ → Zone → List ℕ
zone_line origin version zone =
    line (codes "zone " ++ printed_name origin ++ codes " version " ++ decimal version ++ codes " serial "
    ++ decimal (serial_in (soas zone.records)))

-- The lines of the zones of a machine, which have these names.
abbrev pub zone_lines : List Labels → List ZoneState → List ℕ
zone_lines [] zones = []
zone_lines (origin ∷ origins) [] = []
zone_lines (origin ∷ origins) (z ∷ zones) =
    zone_line origin (length z.shown) (shown_zone (kept_of z)) ++ zone_lines origins zones

-- The line of an address on which a server listens, and those of all its addresses, in order.
abbrev pub listening_line : SocketAddr → List ℕ
listening_line address = line (codes "listening on " ++ socket_text address)

abbrev pub listening_lines : List SocketAddr → List ℕ
listening_lines addresses = flat_map listening_line addresses

-- The lines of a connection: that it is open, and that it is closed.
abbrev pub opened_line : ℕ → Peer → List ℕ
opened_line number peer =
    line (codes "conn " ++ decimal number ++ codes " open " ++ printed_address peer.address)

abbrev pub closed_line : ℕ → List ℕ
closed_line number = line (codes "conn " ++ decimal number ++ codes " closed")

-- The line of a device, by the name of its zone; where there is no such zone there is none.
abbrev pub device_line : Option Labels → List ℕ
device_line None = []
device_line (Some origin) = line (codes "device " ++ printed_name origin)

-- A line of how many there were, if there was one.
abbrev pub count_line : ℕ → List ℕ → List ℕ
count_line count what = if count == 0 then [] else line (decimal count ++ 32 ∷ what)

-- The lines when a second is over: how many connections were closed for want of a place, and how many lines
-- were left out in it.
abbrev pub summary : Counts → List ℕ
summary counts =
    count_line counts.refused (codes "connections refused")
    ++ count_line counts.left_out (codes "lines left out")

-- What is written of a note, and the counts after it, where these are the names of the zones. A line that
-- matters is never left out.
abbrev pub said_of : Bool → List Labels → Counts → Note → List ℕ × Counts
said_of quiet origins counts (note.Opened number peer) =
    by_verdict (line_verdict quiet counts) (opened_line number peer)
said_of quiet origins counts (note.Closed number) =
    by_verdict (line_verdict quiet counts) (closed_line number)
said_of quiet origins counts (note.Silent number) = ([], counts)
said_of quiet origins counts (note.Stalled number) = ([], counts)
said_of quiet origins counts note.Refused = ([], record counts { refused = counts.refused + 1 })
said_of quiet origins counts note.OutOfMemory = (line (codes "out of memory"), counts)
said_of quiet origins counts (note.Device index) = (device_line (slice_get origins index), counts)
said_of quiet origins counts (note.Begins now) =
    if now == counts.second then ([], counts) else (summary counts, none_in now)
said_of quiet origins counts note.Ends = ([], counts)
said_of quiet origins counts note.Unrecorded = (line (codes "recording ended"), counts)

-- The addresses of connections by their numbers, after a note: one that is opened has its peer's.
abbrev pub addresses_after : Note → List (Option IpAddr) → List (Option IpAddr)
addresses_after (note.Opened number peer) addresses = slice_set addresses number (Some peer.address)
addresses_after (note.Closed number) addresses = addresses
addresses_after note.Refused addresses = addresses
addresses_after note.OutOfMemory addresses = addresses
addresses_after (note.Device index) addresses = addresses
addresses_after (note.Begins now) addresses = addresses
addresses_after note.Ends addresses = addresses
addresses_after (note.Silent number) addresses = addresses
addresses_after (note.Stalled number) addresses = addresses
addresses_after note.Unrecorded addresses = addresses

-- The transfers that are open by the numbers of connections, after a note: none is on one that is closed.
abbrev pub transfers_noted : Note → List (Option Transfer) → List (Option Transfer)
transfers_noted (note.Opened number peer) transfers = transfers
transfers_noted (note.Closed number) transfers = slice_set transfers number None
transfers_noted note.Refused transfers = transfers
transfers_noted note.OutOfMemory transfers = transfers
transfers_noted (note.Device index) transfers = transfers
transfers_noted (note.Begins now) transfers = transfers
transfers_noted note.Ends transfers = transfers
transfers_noted (note.Silent number) transfers = transfers
transfers_noted (note.Stalled number) transfers = transfers
transfers_noted note.Unrecorded transfers = transfers

-- What a log knows besides what it says: what peers have caused in this second, and of the connections by
-- their numbers the addresses and the open transfers.
pub record Known : Type 0 where
  pub counts : Counts
  pub addresses : List (Option IpAddr)
  pub transfers : List (Option Transfer)

abbrev pub nothing_known : Known
nothing_known =
    record { counts = none_in 0; addresses = replicate 64 None; transfers = replicate 64 None }

-- What is written of a report, and what is known after it.
pub record Saying : Type 0 where
  pub text : List ℕ
  pub known : Known

abbrev pub note_said : Bool → List Labels → Known → Note → Saying
note_said quiet origins k one = record {
  text = (said_of quiet origins k.counts one).0;
  known = record {
    counts = (said_of quiet origins k.counts one).1;
    addresses = addresses_after one k.addresses;
    transfers = transfers_noted one k.transfers;
  };
}

abbrev pub observation_said : List Labels → Known → Event → Effects → Saying
observation_said origins k event effects = record {
  text = (event_said origins k.addresses k.counts event effects).0
      ++ transfer_said origins k.addresses k.transfers event effects;
  known = record {
    counts = (event_said origins k.addresses k.counts event effects).1;
    addresses = k.addresses;
    transfers = transfers_after origins k.transfers event effects;
  };
}

-- In a quiet log there is no line of an event.
abbrev pub report_said : Bool → List Labels → Known → Report → Saying
report_said quiet origins k (OfNote one) = note_said quiet origins k one
report_said true origins k (OfEvent event effects) = record { text = []; known = k }
report_said false origins k (OfEvent event effects) = observation_said origins k event effects

-- What is written of reports, one after the other.
abbrev pub log_of : Bool → List Labels → Known → List Report → List ℕ
log_of quiet origins k [] = []
log_of quiet origins k (one ∷ rest) =
    let said = report_said quiet origins k one in said.text ++ log_of quiet origins said.known rest

-- This was appended to lines, and these are the counts then.
pub record IsAdded (said : List ℕ × Counts) (lines lines_after : List ℕ) (after : Counts) : Type 0 where
  pub lines_are : lines_after ≡ lines ++ said.0
  pub counts_are : after ≡ said.1

-- What a log has: what was written, lines that are still to be written, and what it knows.
pub record Logged : Type 0 where
  pub written : Option (List ℕ)
  pub lines : List ℕ
  pub known : Known

abbrev pub logged : Option (List ℕ) → List ℕ → Counts → List (Option IpAddr) → List (Option Transfer)
    → Logged
logged written lines counts addresses transfers = record {
  written = written;
  lines = lines;
  known = record { counts = counts; addresses = addresses; transfers = transfers };
}

module _ {E : Type 0} where
  -- What a log knows; and all that it has, where these octets are what its writer holds.
  abbrev pub known_by : Log E → Known
  known_by log = record {
    counts = log.counts;
    addresses = log.addresses.now.items;
    transfers = log.transfers.now.items;
  }

  abbrev pub logged_by : (E → Option (List ℕ)) → Log E → Logged
  logged_by contents log =
      logged (contents log.err.now) log.lines.now.items log.counts log.addresses.now.items
      log.transfers.now.items

  -- What is written of a note comes after its lines, and these are its counts then.
  abbrev pub HasAddedNote : Log E → Note → Log E → Type 0
  HasAddedNote old one new =
      IsAdded (said_of old.is_quiet old.origins.now old.counts one) old.lines.now.items new.lines.now.items
      new.counts

  -- What is written of an event comes after them, and of counts and transfers this is known then.
  abbrev pub HasAddedEvent : Log E → Event → Effects → Log E → Type 0
  HasAddedEvent old event effects new =
      let said = observation_said old.origins.now (known_by old) event effects in
      (new.lines.now.items ≡ old.lines.now.items ++ said.text)
      × (new.counts ≡ said.known.counts)
      × (new.transfers.now.items ≡ said.known.transfers)

-- What a log says so far.
abbrev pub says : Logged → Option (List ℕ)
says log = append_known log.written log.lines

-- This is said after all that was said, and this is known then.
pub record IsSaid (said : Saying) (log after : Logged) : Type 0 where
  pub text : Appends (says log) (says after) said.text
  pub known : after.known ≡ said.known

-- After it all lines are written out: a turn ends; or updates are answered, whose replies go out next.
abbrev pub IsWrittenAt : Bool → Report → Type 0
IsWrittenAt quiet (OfNote one) = one ≡ note.Ends
IsWrittenAt quiet (OfEvent event effects) = (quiet ≡ false) × (effects.headers.items ≡ [] → ⊥)

-- What is to be said of an event is said by a log, which knows then what it makes known.
abbrev pub HasSaidEvent : {E : Type 0} → (E → Option (List ℕ)) → Log E → Event → Effects → Log E → Type 0
HasSaidEvent contents old event effects new =
    IsSaid (observation_said old.origins.now (known_by old) event effects)
    (logged_by contents old) (logged_by contents new)

-- A report was taken by a log of these zones: if no write has failed after it, none had before it, and what
-- is to be said of the report comes after all that was said.
pub record IsLogged (quiet : Bool) (origins : List Labels) (one : Report) (failed failed_after : Bool)
    (log after : Logged) : Type 0 where
  pub said : failed_after ≡ false
      → (failed ≡ false) × IsSaid (report_said quiet origins log.known one) log after
  pub written : IsWrittenAt quiet one → after.lines ≡ []

-- The log of these reports was written after all that had been written: first these lines, then those of the
-- addresses, and then what is said of the reports, in order.
abbrev pub IsLogOf : List ℕ → Bool → List Labels → List SocketAddr → Option (List ℕ) → Option (List ℕ)
    → List Report → Type 0
IsLogOf first quiet origins addresses err err_after reports =
    Appends err err_after
    (first ++ (listening_lines addresses ++ log_of quiet origins nothing_known reports))
