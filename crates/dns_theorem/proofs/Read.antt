-- The message of a request is what its octets read as.
use Rattle.std.proofs.Common.{◌≡◌, ℕ, Bool, true, false, not, ◌||◌, List, [], ◌∷◌, Option, Some, None, length, refl, subst}
use Rattle.std.specs.Prelude.{◌==◌, nat_lt, if◌then◌else◌}
use Rattle.dns_zone.specs.Zone.{Zone}
use Rattle.dns_records.specs.Types.{type_ixfr, type_axfr, type_mailb, type_maila, class_in}
use Rattle.dns_wire.specs.Message.{Question, Message, header_of}
use Rattle.dns_wire.specs.Reads.{Reads}
use Rattle.dns_wire.specs.Reading.{message_of}
use Rattle.dns_wire.proofs.Whole.{message_stands}
use Rattle.dns_request.specs.Codes.{rcode_formerr}
use Rattle.dns_request.specs.Request as request
use Rattle.dns_request.specs.Request.{Request, question_as, has_counts, message_as, read_as, too_long, request_as, request_of, opcode_query, opcode_update}
use Rattle.dns_request.specs.declared.request.Transport.{Transport}
use Rattle.dns_answer.specs.Answer.{Update, Transfer, handled_as, handled}
use Rattle.dns_update.proofs.Accepted.{Octal, as_octets}

-- the message of an update or of a request for a transfer was read, and has that one question
abbrev IsFrom : Option Message → Request → Type 0
IsFrom read request.Ignored = Unit {0}
IsFrom read (request.Refused rcode) = Unit {0}
IsFrom read (request.NotServed m q rcode) = Unit {0}
IsFrom read (request.Query m q) = Unit {0}
IsFrom read (request.Update m q) = (read ≡ Some m) × (m.questions ≡ q ∷ [])
IsFrom read (request.Transfer m q) = (read ≡ Some m) × (m.questions ≡ q ∷ [])

either : (P : Request → Type 0) (b : Bool) (x y : Request) → P x → P y → P (if b then x else y)
either P true x y p q = p
either P false x y p q = q

question_from : (m : Message) (q : Question) → m.questions ≡ q ∷ [] → IsFrom (Some m) (question_as m q)
question_from m q e =
    either (IsFrom (Some m)) (m.header.opcode == opcode_update) _ _ (refl, e)
    (either (IsFrom (Some m)) (q.qtype == type_ixfr || q.qtype == type_axfr) _ _ (refl, e)
    (either (IsFrom (Some m)) (q.qtype == type_mailb || q.qtype == type_maila) _ _ tt
    (either (IsFrom (Some m)) (not (q.qclass == class_in)) _ _ tt tt)))

message_from : (m : Message) (qs : List Question) → m.questions ≡ qs → IsFrom (Some m) (message_as m qs)
message_from m [] e = tt
message_from m (q ∷ []) e = either (IsFrom (Some m)) (has_counts m q) (question_as m q) (request.Refused rcode_formerr) (question_from m q e) tt
message_from m (q ∷ r ∷ rest) e = tt

read_from : (read : Option Message) → IsFrom read (read_as read)
read_from None = tt
read_from (Some m) = message_from m m.questions refl

request_from : (octets : List ℕ) (transport : Transport) (read : Option Message) → IsFrom read (request_as octets transport read)
request_from octets transport read =
    either (IsFrom read) (nat_lt (length octets) 12 || (header_of octets).qr) _ _ tt
    (either (IsFrom read) (not ((header_of octets).opcode == opcode_query || (header_of octets).opcode == opcode_update)) _ _ tt
    (either (IsFrom read) (too_long transport octets) _ _ tt (read_from read)))

as_update : (zones : List Zone) (octets : List ℕ) (transport : Transport) (r : Request) (m : Message) (q : Question) → handled_as zones octets transport r ≡ Update m q → r ≡ request.Update m q
as_update zones octets transport request.Ignored m q e = absurd cc
as_update zones octets transport (request.Refused rcode) m q e = absurd cc
as_update zones octets transport (request.NotServed n p rcode) m q e = absurd cc
as_update zones octets transport (request.Query n p) m q e = absurd cc
as_update zones octets transport (request.Update n p) m q e = (let one : n ≡ m = cc in let two : p ≡ q = cc in λ i. request.Update (one i) (two i))
as_update zones octets transport (request.Transfer n p) m q e = absurd cc

as_transfer : (zones : List Zone) (octets : List ℕ) (transport : Transport) (r : Request) (came : List ℕ) (m : Message) (q : Question) → handled_as zones octets transport r ≡ Transfer came m q
    → r ≡ request.Transfer m q
as_transfer zones octets transport request.Ignored came m q e = absurd cc
as_transfer zones octets transport (request.Refused rcode) came m q e = absurd cc
as_transfer zones octets transport (request.NotServed n p rcode) came m q e = absurd cc
as_transfer zones octets transport (request.Query n p) came m q e = absurd cc
as_transfer zones octets transport (request.Update n p) came m q e = absurd cc
as_transfer zones octets transport (request.Transfer n p) came m q e = (let one : n ≡ m = cc in let two : p ≡ q = cc in λ i. request.Transfer (one i) (two i))

pub update_reads : (zones : List Zone) (octets : List ℕ) (transport : Transport) (m : Message) (q : Question) → Octal octets → handled zones octets transport ≡ Update m q → Reads octets m
update_reads zones octets transport m q octal e =
    let is = as_update zones octets transport (request_of octets transport) m q e in
    let from : IsFrom (message_of octets) (request.Update m q) = subst (IsFrom (message_of octets)) is (request_from octets transport (message_of octets)) in
    message_stands octets m (as_octets octets octal) from.0

pub transfer_read : (zones : List Zone) (octets : List ℕ) (transport : Transport) (came : List ℕ) (m : Message) (q : Question) → handled zones octets transport ≡ Transfer came m q
    → (message_of octets ≡ Some m) × (m.questions ≡ q ∷ [])
transfer_read zones octets transport came m q e =
    subst (IsFrom (message_of octets)) (as_transfer zones octets transport (request_of octets transport) came m q e) (request_from octets transport (message_of octets))

came_as : (zones : List Zone) (octets : List ℕ) (transport : Transport) (r : Request) (came : List ℕ) (m : Message) (q : Question) → handled_as zones octets transport r ≡ Transfer came m q
    → came ≡ octets
came_as zones octets transport request.Ignored came m q e = absurd cc
came_as zones octets transport (request.Refused rcode) came m q e = absurd cc
came_as zones octets transport (request.NotServed n p rcode) came m q e = absurd cc
came_as zones octets transport (request.Query n p) came m q e = absurd cc
came_as zones octets transport (request.Update n p) came m q e = absurd cc
came_as zones octets transport (request.Transfer n p) came m q e = cc

-- what is taken as a request for a transfer are the octets that came
pub transfer_came : (zones : List Zone) (octets : List ℕ) (transport : Transport) (came : List ℕ) (m : Message) (q : Question) → handled zones octets transport ≡ Transfer came m q → came ≡ octets
transfer_came zones octets transport came m q e = came_as zones octets transport (request_of octets transport) came m q e
