-- Why a transfer is refused.
use Rattle.std.specs.Prelude.{ℕ, Bool, true, false, not, ◌&&◌, ◌||◌, ◌==◌, List, [], ◌∷◌, length, Option}
use Rattle.std.specs.Prelude.{Some, None, is_none, if◌then◌else◌}
use Rattle.std.specs.Option.{option_map}
use Rattle.dns_names.specs.Name.{names_eq}
use Rattle.dns_records.specs.Types.{type_soa, type_ixfr, class_in}
use Rattle.dns_records.specs.Record.{serial_of}
use Rattle.dns_wire.specs.Message.{Question, ResourceRecord, record_of_item}
use Rattle.dns_request.specs.Codes.{rcode_formerr, rcode_notauth, rcode_refused}
use Rattle.dns_request.specs.declared.request.Transport.{Transport}
use Rattle.dns_request.specs.declared.request.Transport.TheVariants.{Udp, Tcp}

-- The SOA of the client's version (RFC 1995 3).
abbrev pub is_client_soa : Question → ResourceRecord → Bool
is_client_soa q i =
    names_eq i.owner q.name && i.rtype == type_soa && i.class == class_in && not (length i.rdata == 0)

-- It is in the authority section of an IXFR, alone.
abbrev pub client_soa : Question → List ResourceRecord → Option ResourceRecord
client_soa q [] = None
client_soa q (i ∷ []) = if is_client_soa q i then Some i else None
client_soa q (i ∷ j ∷ rest) = None

-- The serial that the client has.
abbrev pub client_serial : Question → List ResourceRecord → Option ℕ
client_serial q authorities = option_map (λ i. serial_of (record_of_item i)) (client_soa q authorities)

abbrev pub is_udp : Transport → Bool
is_udp Udp = true
is_udp Tcp = false

-- An IXFR without the SOA of the client's version (RFC 1995 3), or an AXFR by UDP (RFC 5936 4.2).
abbrev pub is_malformed : Transport → Question → Option ℕ → Bool
is_malformed transport q client = if q.qtype == type_ixfr then is_none client else is_udp transport

-- The response code of a transfer that is refused: the first that applies. FORMERR, for what is malformed.
-- NOTAUTH, for a name that is no apex held here, or another class (RFC 5936 2.2.1). REFUSED, for a peer that
-- may not have the zone, or that has a transfer on its connection already.
abbrev pub refusal : Transport → Question → Option ℕ → Bool → Bool → Option ℕ
refusal transport q client held allowed =
    if is_malformed transport q client then Some rcode_formerr
    else if not (q.qclass == class_in) || not held then Some rcode_notauth
    else if not allowed then Some rcode_refused
    else None

-- The serial that is given to the choice of the form: an AXFR has none.
abbrev pub serial_asked : Question → Option ℕ → Option ℕ
serial_asked q client = if q.qtype == type_ixfr then client else None
