-- The messages of a transfer.
use Rattle.std.specs.Prelude.{◌≡◌, ◌≤◌, ◌<◌, ℕ, true, false, nat_le, Bool, List, [], ◌∷◌, ◌++◌, length}
use Rattle.std.specs.Prelude.{Option, None}
use Rattle.dns_records.specs.Record.{Record}
use Rattle.dns_wire.specs.Text.{EchoedQuestion, Reply, text}
use Rattle.dns_request.specs.Request.{opcode_query}

-- What the messages repeat of the request: its number, and whether recursion was desired (RFC 1035 4.1.1).
pub record Heading : Type 0 where
  pub id : ℕ
  pub rd : Bool

-- A message of a transfer: AA, NOERROR, and some of the records (RFC 5936 2.2.1).
abbrev pub message_with : Heading → Option EchoedQuestion → List Record → Reply
message_with h question records = record {
  id = h.id;
  opcode = opcode_query;
  aa = true;
  tc = false;
  rd = h.rd;
  rcode = 0;
  question = question;
  answer = records;
  authority = [];
  additional = [];
}

abbrev pub octets_with : Heading → Option EchoedQuestion → List Record → List ℕ
octets_with h question records = text (message_with h question records)

-- A message by TCP has at most so many octets: pointers reach no further (RFC 1035 4.1.4, RFC 5936 2.2).
abbrev pub message_limit : ℕ
message_limit = 16384

-- The next message: the first of the records that are left, as many as fit, and what is left then.
pub record IsNextMessage (h : Heading) (question : Option EchoedQuestion)
    (left : List Record) (message : List ℕ)
    (rest : List Record) : Type 0
  where
    pub sent : List Record
    pub in_order : left ≡ sent ++ rest
    pub packed : message ≡ octets_with h question sent
    pub fits : length message ≤ message_limit
    -- one record more would not fit
    pub most : (r : Record) (more : List Record)
        → rest ≡ r ∷ more
        → message_limit < length (octets_with h question (sent ++ r ∷ []))

-- The messages of these records, as long as some are left. The question is in the first alone (RFC 5936
-- 2.2.1).
abbrev pub AreMessages : Heading → Option EchoedQuestion → List Record → List (List ℕ) → Type 0
AreMessages h question left [] = left ≡ []
AreMessages h question left (message ∷ messages) =
    (left ≡ [] → ⊥) × (rest : List Record) × IsNextMessage h question left message rest
    × AreMessages h None rest messages

-- By UDP: the whole answer in 512 octets, else the SOA of the version that is shown, alone, else the header
-- and the question with TC (RFC 1995 2).
abbrev pub datagram_of : Heading → Option EchoedQuestion → List Record → Record → List ℕ
datagram_of h question records soa =
    let whole = octets_with h question records in
    let alone = octets_with h question (soa ∷ []) in
    elim (nat_le (length whole) 512) [
      | true ↦ whole
      | false ↦ elim (nat_le (length alone) 512) [
        | true ↦ alone
        | false ↦ text (record (message_with h question []) { tc = true })
      ]
    ]
