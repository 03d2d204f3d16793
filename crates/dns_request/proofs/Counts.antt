-- The counts that the header of a message tells.
use Rattle.std.proofs.Common.{◌≡◌, ℕ, Bool, true, false, ◌||◌, List, [], ◌∷◌, length, refl, sym, ap, ◌∙◌}
use Rattle.std.specs.Prelude.{◌==◌, ◌&&◌, Option, Some, None, if◌then◌else◌}
use Rattle.dns_wire.specs.Message.{Question, Header, Message, header_of}
use Rattle.dns_wire.specs.Reads.{NumberAt, Reads}
use Rattle.dns_records.specs.Types.{type_ixfr}
use Rattle.dns_request.specs.Codes.{rcode_formerr}
use Rattle.dns_request.specs.Request.{Refused, opcode_update, question_as, counts_as_request, has_counts, message_as, read_as}

-- at an offset there is one number
pub number_once : (octets : List ℕ) (at size a b : ℕ) → NumberAt octets at size a → NumberAt octets at size b → a ≡ b
number_once octets at size a b h k = h.read ∙ sym k.read

-- the numbers of the header are those of the message
pub counts_are : (octets : List ℕ) (m : Message) (opcode qd an ar : ℕ) → Reads octets m → opcode ≡ (header_of octets).opcode → NumberAt octets 4 2 qd → NumberAt octets 6 2 an → NumberAt octets 10 2 ar
    → ((qd == 1 && ar == 0) && (opcode == opcode_update || an == 0)) ≡ counts_as_request m
counts_are octets m opcode qd an ar h kind one two three =
    let questions : qd ≡ length m.questions = number_once octets 4 2 qd (length m.questions) one h.qdcount in
    let answers : an ≡ length m.answers = number_once octets 6 2 an (length m.answers) two h.ancount in
    let additionals : ar ≡ length m.additionals = number_once octets 10 2 ar (length m.additionals) three h.arcount in
    let same : opcode ≡ m.header.opcode = kind ∙ sym (ap (λ (x : Header). x.opcode) h.header) in
    λ k. (questions k == 1 && additionals k == 0) && (same k == opcode_update || answers k == 0)

-- whether counts that fail in the header fail in all
none_less : (additionals update answers authorities ixfr : Bool) → (additionals && (update || answers)) ≡ false → (additionals && (update || answers && (authorities || ixfr))) ≡ false
none_less false update answers authorities ixfr e = refl
none_less true true answers authorities ixfr e = absurd cc
none_less true false false authorities ixfr e = refl
none_less true false true authorities ixfr e = absurd cc

-- whether counts that hold in the header hold in all
all_left : (additionals update answers authorities ixfr : Bool) → ((true && additionals) && (update || answers)) ≡ true → (additionals && (update || answers && (authorities || ixfr))) ≡ ((update || authorities) || ixfr)
all_left false update answers authorities ixfr e = absurd cc
all_left true true answers authorities ixfr e = refl
all_left true false false authorities ixfr e = absurd cc
all_left true false true authorities ixfr e = refl

-- a message whose header has not the counts is refused
pub refused_early : (m : Message) (qs : List Question) → m.questions ≡ qs → counts_as_request m ≡ false → message_as m qs ≡ Refused rcode_formerr
refused_early m [] same e = refl
refused_early m (q ∷ []) same e =
    let one : (length m.questions == 1) ≡ true = ap (λ (qs : List Question). length qs == 1) same in
    let rest : ((true && length m.additionals == 0) && (m.header.opcode == opcode_update || length m.answers == 0)) ≡ false =
    ap (λ (b : Bool). (b && length m.additionals == 0) && (m.header.opcode == opcode_update || length m.answers == 0)) (sym one) ∙ e in
    let less : has_counts m q ≡ false = none_less (length m.additionals == 0) (m.header.opcode == opcode_update) (length m.answers == 0) (length m.authorities == 0) (q.qtype == type_ixfr) rest in
    ap (λ (b : Bool). if b then question_as m q else Refused rcode_formerr) less
refused_early m (q ∷ r ∷ rest) same e = refl

-- where it has them the authority section decides
pub authorities_decide : (m : Message) (q : Question) → m.questions ≡ q ∷ [] → counts_as_request m ≡ true
    → has_counts m q ≡ ((m.header.opcode == opcode_update || length m.authorities == 0) || q.qtype == type_ixfr)
authorities_decide m q same e =
    let one : (length m.questions == 1) ≡ true = ap (λ (qs : List Question). length qs == 1) same in
    let rest : ((true && length m.additionals == 0) && (m.header.opcode == opcode_update || length m.answers == 0)) ≡ true =
    ap (λ (b : Bool). (b && length m.additionals == 0) && (m.header.opcode == opcode_update || length m.answers == 0)) (sym one) ∙ e in
    all_left (length m.additionals == 0) (m.header.opcode == opcode_update) (length m.answers == 0) (length m.authorities == 0) (q.qtype == type_ixfr) rest

-- octets that are a message whose header has not the counts, or are none
pub read_refused : (o : Option Message) → ((m : Message) → o ≡ Some m → counts_as_request m ≡ false) → read_as o ≡ Refused rcode_formerr
read_refused None h = refl
read_refused (Some m) h = refused_early m m.questions refl (h m refl)
