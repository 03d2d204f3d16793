-- What a server has done, in numbers.
use Rattle.std.specs.Prelude.{ℕ, ◌+◌, ◌-◌, ◌^◌, ◌/◌, ◌%◌, ◌==◌, min, Bool, true, false, List, [], ◌∷◌}
use Rattle.std.specs.Prelude.{filter, length}
use Rattle.std.specs.Prelude.{slice_index, slice_set, replicate, Option, Some, None, if◌then◌else◌}
use Rattle.dns_records.specs.Types.{type_ixfr}
use Rattle.dns_request.specs.Request.{Request, Ignored, Refused, NotServed, Query, Update, Transfer}
use Rattle.dns_request.specs.Request.{opcode_query, opcode_update, request_of}
use Rattle.dns_request.specs.declared.request.Transport.TheVariants.{Tcp}
use Rattle.dns_primary.specs.declared.event.Effects.{Effects}
use Rattle.dns_primary.specs.declared.event.HeaderTo.{HeaderTo}
use Rattle.dns_primary.specs.declared.event.Noted.{Noted}
use Rattle.dns_primary.specs.declared.event.Noted.TheVariants as noted
use Rattle.dns_primary.specs.declared.event.Reply.{Reply}
use Rattle.dns_primary.specs.Step.{Event, Datagram, Connect, Arrives, Flush, Checkpoint, Pump, Closed}
use Rattle.dns_primary.specs.To.{octets_in}
use Rattle.dns_network.specs.declared.network.Note.{Note}
use Rattle.dns_network.specs.declared.network.Note.TheVariants as note
use Rattle.dns_network.specs.Notes.{Report, OfNote, OfEvent}
use Rattle.dns_counters.specs.declared.counters.Counters.{Counters}

-- A count stays at its greatest.
abbrev pub most : ℕ
most = 2 ^ 64 - 1

abbrev pub more : ℕ → ℕ
more count = min (count + 1) most

-- One more with this response code.
abbrev pub more_at : ℕ → List ℕ → List ℕ
more_at code counts = slice_set counts code (more (slice_index counts code))

-- The opcode of a reply, its response code, and whether it is truncated (RFC 1035 4.1.1).
abbrev pub opcode_in : List ℕ → ℕ
opcode_in reply = slice_index reply 2 / 8 % 16

abbrev pub code_in : List ℕ → ℕ
code_in reply = slice_index reply 3 % 16

abbrev pub is_cut : List ℕ → Bool
is_cut reply = slice_index reply 2 / 2 % 2 == 1

-- A reply is counted by its opcode and its code.
abbrev pub with_reply : Counters → List ℕ → Counters
with_reply c reply = record c {
  queries = if opcode_in reply == opcode_query then more_at (code_in reply) c.queries else c.queries;
  updates = if opcode_in reply == opcode_update then more_at (code_in reply) c.updates else c.updates;
  truncated = if is_cut reply then more c.truncated else c.truncated;
}

-- So is each reply that waited.
abbrev pub with_headers : Counters → List HeaderTo → Counters
with_headers c [] = c
with_headers c (h ∷ rest) = with_headers (with_reply c h.octets) rest

-- So is the reply to what came. What a pump sends is a message of a transfer.
abbrev pub with_octets : Counters → Option Reply → Counters
with_octets c None = c
with_octets c (Some reply) = with_reply c (octets_in reply.octets)

abbrev pub with_message_of : Counters → Event → Option Reply → Counters
with_message_of c (Pump number) message = c
with_message_of c (Datagram peer octets) message = with_octets c message
with_message_of c (Arrives number octets) message = with_octets c message
with_message_of c (Connect peer) message = with_octets c message
with_message_of c Flush message = with_octets c message
with_message_of c (Checkpoint index) message = with_octets c message
with_message_of c (Closed number) message = with_octets c message

-- Whether a transfer is open on the connection with a number; and on how many one is.
abbrev pub with_open : Counters → ℕ → Bool → Counters
with_open c number is_open = record c { sending = slice_set c.sending number is_open }

abbrev pub count_open : Counters → ℕ
count_open c = length (filter (λ is_open. is_open) c.sending)

-- A transfer that is asked for on the connection with a number is open there. It is incremental or of the
-- whole zone (RFC 1995, RFC 5936).
abbrev pub with_kind : Counters → ℕ → Counters
with_kind c qtype =
    if qtype == type_ixfr then record c { incremental = more c.incremental }
    else record c { whole = more c.whole }

abbrev pub with_request : Counters → ℕ → Request → Counters
with_request c number (Transfer m q) = with_kind (with_open c number true) q.qtype
with_request c number Ignored = c
with_request c number (Refused rcode) = c
with_request c number (NotServed m q rcode) = c
with_request c number (Query m q) = c
with_request c number (Update m q) = c

-- A message on a connection that gets no reply opens the transfer that it asks for, and a pump that finds no
-- message ends the one there, unless something is noted.
abbrev pub with_silent : Counters → Event → Counters
with_silent c (Arrives number octets) = with_request c number (request_of octets Tcp)
with_silent c (Pump number) = with_open c number false
with_silent c (Datagram peer octets) = c
with_silent c (Connect peer) = c
with_silent c Flush = c
with_silent c (Checkpoint index) = c
with_silent c (Closed number) = c

abbrev pub with_transfer_of : Counters → Event → Option Reply → Noted → Counters
with_transfer_of c event None noted.Nothing = with_silent c event
with_transfer_of c event None noted.OutOfMemory = c
with_transfer_of c event None (noted.Device index) = c
with_transfer_of c event (Some reply) noted = c

abbrev pub with_transfer_step : Counters → Event → Effects → Counters
with_transfer_step c event effects = with_transfer_of c event effects.message effects.noted

abbrev pub with_event : Counters → Event → Effects → Counters
with_event c event effects =
    with_transfer_step (with_message_of (with_headers c effects.headers.items) event effects.message) event
    effects

-- A connection that is opened, closed, silent, stalled, or refused is counted.
abbrev pub with_note : Counters → Note → Counters
with_note c (note.Opened number peer) = record c { opened = more c.opened }
with_note c (note.Closed number) = with_open (record c { closed = more c.closed }) number false
with_note c (note.Silent number) = record c { silent = more c.silent }
with_note c (note.Stalled number) = record c { silent = more c.silent }
with_note c note.Refused = record c { refused = more c.refused }
with_note c note.OutOfMemory = c
with_note c (note.Device index) = c
with_note c (note.Begins now) = c
with_note c note.Ends = c
with_note c note.Unrecorded = c

abbrev pub with_report : Counters → Report → Counters
with_report c (OfNote one) = with_note c one
with_report c (OfEvent event effects) = with_event c event effects

-- The counts after reports, in order.
abbrev pub with_reports : Counters → List Report → Counters
with_reports c [] = c
with_reports c (one ∷ rest) = with_reports (with_report c one) rest

-- The counts of nothing.
abbrev pub no_counts : Counters
no_counts = record {
  queries = replicate 16 0;
  updates = replicate 16 0;
  truncated = 0;
  whole = 0;
  incremental = 0;
  opened = 0;
  closed = 0;
  refused = 0;
  silent = 0;
  sending = replicate 64 false;
}

-- What an observer that counts has after a report, if it counts at all.
abbrev pub counted_if : Bool → Counters → Report → Counters
counted_if true c one = with_report c one
counted_if false c one = c
