-- The message by which a transfer is asked for.
use Rattle.std.specs.Prelude.{ℕ, ◌+◌, false, List, [], ◌∷◌, ◌++◌, length, map, Option, Some, None}
use Rattle.std.specs.Int.{w16, to_be_bytes}
use Rattle.dns_names.specs.Name.{Labels, wire}
use Rattle.dns_records.specs.Types.{class_in}
use Rattle.dns_records.specs.Record.{Record}
use Rattle.dns_zone.specs.Zone.{Zone, soas}
use Rattle.dns_wire.specs.Message.{Question, Message}
use Rattle.dns_wire.specs.Valid.{item_of}
use Rattle.dns_wire.specs.Compress.{new_places, compressed_records}
use Rattle.dns_wire.specs.Text.{Reply}
use Rattle.dns_request.specs.Request.{opcode_query}
use Rattle.dns_request.specs.declared.request.Transport.{Transport}
use Rattle.dns_request.specs.declared.request.Transport.TheVariants.{Udp, Tcp}
use Rattle.dns_secondary.specs.Receiving.{type_asked}

-- What is asked for: the zone, or its changes.
abbrev pub question_asked : Labels → Option Zone → Question
question_asked apex held = record { name = apex; qtype = type_asked held; qclass = class_in }

-- The SOA of the version that is held tells from where the changes are asked for (RFC 1995 3).
abbrev pub soas_held : Option Zone → List Record
soas_held None = []
soas_held (Some z) = soas z.records

-- A query with no flag, with that question, and those records in its authority section (RFC 1035 4.1).
abbrev pub query_with : Question → ℕ → List Record → Message
query_with q id authority = record {
  header =
      record { id = id; qr = false; opcode = opcode_query; aa = false; tc = false; rd = false; rcode = 0 };
  questions = q ∷ [];
  answers = [];
  authorities = map item_of authority;
  additionals = [];
}

-- The request (RFC 5936 2.1, RFC 1995 3).
abbrev pub request_message : Labels → Option Zone → ℕ → Message
request_message apex held id = query_with (question_asked apex held) id (soas_held held)

-- A question as octets (RFC 1035 4.1.2).
abbrev pub asked_octets : Question → List ℕ
asked_octets q = wire q.name ++ to_be_bytes w16 q.qtype ++ to_be_bytes w16 q.qclass

-- The header as octets: the number, no flag, one question, and so many records in the authority section
-- (RFC 1035 4.1.1).
abbrev pub heading_octets : ℕ → ℕ → List ℕ
heading_octets id authorities =
    to_be_bytes w16 id ++ 0 ∷ 0 ∷ [] ++ to_be_bytes w16 1 ++ to_be_bytes w16 0 ++ to_be_bytes w16 authorities
    ++ to_be_bytes w16 0

-- The octets of that query, its names compressed (RFC 1035 4.1.4).
abbrev pub query_octets : Question → ℕ → List Record → List ℕ
query_octets q id authority =
    heading_octets id (length authority) ++ asked_octets q
    ++ compressed_records (new_places [] 12 q.name) (12 + length (asked_octets q)) authority

abbrev pub request_octets : Labels → Option Zone → ℕ → List ℕ
request_octets apex held id = query_octets (question_asked apex held) id (soas_held held)

-- The most octets that a message has (RFC 1035 4.2.1, 4.2.2).
abbrev pub most_by : Transport → ℕ
most_by Udp = 512
most_by Tcp = 65535

-- The query as a reply says it, whose octets have the bit QR.
abbrev pub as_reply : Question → ℕ → List Record → Reply
as_reply q id authority = record {
  id = id;
  opcode = opcode_query;
  aa = false;
  tc = false;
  rd = false;
  rcode = 0;
  question = Some (record { octets = asked_octets q; name = q.name });
  answer = [];
  authority = authority;
  additional = [];
}
