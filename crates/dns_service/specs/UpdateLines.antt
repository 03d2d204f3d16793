-- The lines of updates that were answered, and of requests that were refused at once.
use Rattle.std.specs.Prelude.{ℕ, Bool, false, not, ◌==◌, ◌%◌, ◌&&◌, List, [], ◌∷◌, ◌++◌, slice_get}
use Rattle.std.specs.Prelude.{slice_index, Option, Some, None, codes, decimal, if◌then◌else◌}
use Rattle.std.specs.declared.net.ip_addr.IpAddr.{IpAddr}
use Rattle.dns_names.specs.Name.{Labels}
use Rattle.dns_names.specs.Text.{printed_name}
use Rattle.dns_policy.specs.Printed.{printed_address}
use Rattle.dns_wire.specs.declared.codes.Rcode.{Rcode}
use Rattle.dns_wire.specs.declared.codes.Rcode.TheVariants.{NoError, FormErr, ServFail, NxDomain, NotImp}
use Rattle.dns_wire.specs.declared.codes.Rcode.TheVariants.{YxDomain, YxRrset, NxRrset, NotAuth, NotZone}
use Rattle.dns_wire.specs.declared.codes.Rcode.TheVariants as rcode
use Rattle.dns_request.specs.Request.{Request, Ignored, Refused, NotServed, Query, Update, Transfer}
use Rattle.dns_request.specs.Request.{request_of}
use Rattle.dns_request.specs.declared.request.Transport.{Transport}
use Rattle.dns_request.specs.declared.request.Transport.TheVariants.{Udp, Tcp}
use Rattle.dns_primary.specs.declared.event.Effects.{Effects}
use Rattle.dns_primary.specs.declared.event.HeaderTo.{HeaderTo}
use Rattle.dns_primary.specs.declared.event.Reply.{Reply}
use Rattle.dns_primary.specs.Step.{Event, Datagram, Connect, Arrives, Flush, Checkpoint, Pump, Closed}
use Rattle.dns_primary.specs.To.{octets_in}
use Rattle.dns_configuration.specs.Faults.{line}
use Rattle.dns_service.specs.declared.log.Counts.{Counts}
use Rattle.dns_service.specs.Verdict.{by_verdict, line_verdict}

-- The response code of a reply (RFC 1035 4.1.1), and its word (RFC 2136 2.2).
abbrev pub reply_code : List ℕ → ℕ
reply_code reply = slice_index reply 3 % 16

abbrev pub code_word : ℕ → List ℕ
code_word code =
    if code == 0 then codes "NOERROR"
    else if code == 1 then codes "FORMERR"
    else if code == 2 then codes "SERVFAIL"
    else if code == 3 then codes "NXDOMAIN"
    else if code == 4 then codes "NOTIMP"
    else if code == 5 then codes "REFUSED"
    else if code == 6 then codes "YXDOMAIN"
    else if code == 7 then codes "YXRRSET"
    else if code == 8 then codes "NXRRSET"
    else if code == 9 then codes "NOTAUTH"
    else if code == 10 then codes "NOTZONE"
    else codes "RESERVED"

-- It refuses a request: NOERROR and NXDOMAIN tell what was found.
abbrev pub is_refusal : ℕ → Bool
is_refusal code = not (code == 0) && not (code == 3)

-- The line of a request that was refused: of which kind it is, who asked, for which zone, and the code.
abbrev pub refusal_line : List ℕ → IpAddr → Labels → ℕ → List ℕ
refusal_line kind address zone code =
    line (kind ++ codes " " ++ printed_address address ++ codes " " ++ printed_name zone ++ codes " "
    ++ code_word code)

-- The line of an update that was done: the number and the serial of the zone's newest version when it had
-- been judged.
abbrev pub asker_text : IpAddr → Labels → List ℕ
asker_text address origin = codes "update " ++ printed_address address ++ codes " " ++ printed_name origin

abbrev pub no_error_text : ℕ → ℕ → List ℕ
no_error_text version serial =
    line (codes " NOERROR version " ++ decimal version ++ codes " serial " ++ decimal serial)

abbrev pub done_text : IpAddr → Labels → ℕ → ℕ → List ℕ
done_text address origin version serial = asker_text address origin ++ no_error_text version serial

-- The line of a zone that has no room: SERVFAIL, as an update was judged, says no more.
abbrev pub full_text : Labels → Rcode → List ℕ
full_text origin ServFail = line (codes "full " ++ printed_name origin)
full_text origin NoError = []
full_text origin FormErr = []
full_text origin NxDomain = []
full_text origin NotImp = []
full_text origin rcode.Refused = []
full_text origin YxDomain = []
full_text origin YxRrset = []
full_text origin NxRrset = []
full_text origin NotAuth = []
full_text origin NotZone = []

-- The lines of an update of the zone with this name that was refused after a flush.
abbrev pub denied_text : Labels → HeaderTo → List ℕ
denied_text origin h =
    refusal_line (codes "update") h.waited.address origin (reply_code h.octets)
    ++ full_text origin h.waited.rcode

-- What is written of an update that was answered after a flush, and the counts after it. The line of one that
-- was done is never left out.
abbrev pub update_said : Option Labels → Counts → HeaderTo → List ℕ × Counts
update_said None counts h = ([], counts)
update_said (Some origin) counts h =
    if reply_code h.octets == 0
    then (done_text h.waited.address origin h.waited.version h.waited.serial, counts)
    else by_verdict (line_verdict false counts) (denied_text origin h)

abbrev pub header_said : List Labels → Counts → HeaderTo → List ℕ × Counts
header_said origins counts h = update_said (slice_get origins h.waited.zone) counts h

-- So of each, one after the other.
abbrev pub headers_said : List Labels → Counts → List HeaderTo → List ℕ × Counts
headers_said origins counts [] = ([], counts)
headers_said origins counts (h ∷ rest) =
    let first = header_said origins counts h in
    let later = headers_said origins first.1 rest in (first.0 ++ later.0, later.1)

-- What is written of a request that was refused at once: of an update, or a request for a transfer.
abbrev pub request_said : Counts → IpAddr → Request → ℕ → List ℕ × Counts
request_said counts address (Update m q) code =
    by_verdict (line_verdict false counts) (refusal_line (codes "update") address q.name code)
request_said counts address (Transfer m q) code =
    by_verdict (line_verdict false counts) (refusal_line (codes "transfer") address q.name code)
request_said counts address Ignored code = ([], counts)
request_said counts address (Refused rcode) code = ([], counts)
request_said counts address (NotServed m q rcode) code = ([], counts)
request_said counts address (Query m q) code = ([], counts)

abbrev pub asked_said : Counts → IpAddr → List ℕ → Transport → ℕ → List ℕ × Counts
asked_said counts address octets transport code =
    request_said counts address (request_of octets transport) code

-- The address of the peer of a connection, if it is known.
abbrev pub known : Option (Option IpAddr) → Option IpAddr
known None = None
known (Some address) = address

abbrev pub address_on : List (Option IpAddr) → ℕ → Option IpAddr
address_on addresses number = known (slice_get addresses number)

-- The address of the connection that it came on is known, or nothing is written.
abbrev pub arrived_said : Option IpAddr → Counts → List ℕ → ℕ → List ℕ × Counts
arrived_said (Some address) counts octets code = asked_said counts address octets Tcp code
arrived_said None counts octets code = ([], counts)

abbrev pub refusal_said : List (Option IpAddr) → Counts → Event → ℕ → List ℕ × Counts
refusal_said addresses counts (Datagram peer octets) code = asked_said counts peer.address octets Udp code
refusal_said addresses counts (Arrives number octets) code =
    arrived_said (address_on addresses number) counts octets code
refusal_said addresses counts (Connect peer) code = ([], counts)
refusal_said addresses counts Flush code = ([], counts)
refusal_said addresses counts (Checkpoint index) code = ([], counts)
refusal_said addresses counts (Pump number) code = ([], counts)
refusal_said addresses counts (Closed number) code = ([], counts)

-- What is written of the reply to an event.
abbrev pub reply_said : List (Option IpAddr) → Counts → Event → Option Reply → List ℕ × Counts
reply_said addresses counts event None = ([], counts)
reply_said addresses counts event (Some reply) =
    if is_refusal (reply_code (octets_in reply.octets))
    then refusal_said addresses counts event (reply_code (octets_in reply.octets))
    else ([], counts)

-- What is written of an event and its effects: of the updates that are answered, in the order in which their
-- replies go out, and then of the reply to it.
abbrev pub event_said : List Labels → List (Option IpAddr) → Counts → Event → Effects → List ℕ × Counts
event_said origins addresses counts event effects =
    let first = headers_said origins counts effects.headers.items in
    let later = reply_said addresses first.1 event effects.message in (first.0 ++ later.0, later.1)
