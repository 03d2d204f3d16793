-- A reply whose answer is one record under the name of its question.
use Rattle.std.proofs.Common.{◌≡◌, ℕ, ◌+◌, ◌≤◌, Bool, List, [], ◌∷◌, ◌++◌, length, refl, ap, ◌∙◌, arith}
use Rattle.std.specs.Prelude.{Option, Some, None, nat_lt, if◌then◌else◌}
use Rattle.std.specs.Int.{w16, w32, to_be_bytes}
use Rattle.std.proofs.lemmas.List.{append-nil}
use Rattle.dns_names.specs.Name.{Labels, wire}
use Rattle.dns_records.specs.Types.{class_in}
use Rattle.dns_records.specs.Record.{Record}
use Rattle.dns_wire.specs.Compress.{Place, Compressing, compress_name, compressed_name, compressed_rdata, compressed_record, new_places, place_of, pointer}
use Rattle.dns_wire.specs.OneRecord.{answer_header, one_answer, record_head}
use Rattle.dns_wire.specs.Puts.{plain_octets}
use Rattle.dns_wire.specs.Text.{text}
use Rattle.dns_wire.specs.declared.reply.EchoedQuestion.{EchoedQuestion}
use Rattle.dns_wire.proofs.Places.{names_self}

-- the name after the header is known at its own offset
known : (label : List ℕ) (rest : Labels) → place_of (new_places [] 12 (label ∷ rest)) (label ∷ rest) ≡ Some (record { offset = 12; suffix = label ∷ rest })
known label rest = rw (names_self (label ∷ rest)) refl

-- and is written as a pointer
pointed : (at : ℕ) (name : Labels) → 2 ≤ length (wire name) → compressed_name (new_places [] 12 name) at name ≡ record { octets = pointer 12; places = new_places [] 12 name }
pointed at [] some = absurd (omega (arith, some))
pointed at (label ∷ rest) some =
    let places = new_places [] 12 (label ∷ rest) in
    let octets : compress_name places (label ∷ rest) ≡ pointer 12 = ap (λ (o : Option Place). elim o as (λ _. List ℕ) [ Some p ↦ pointer p.offset | None ↦ length label ∷ label ++ compress_name places rest ]) (known label rest) in
    let more : new_places places at (label ∷ rest) ≡ [] =
    ap (λ (o : Option Place). elim o as (λ _. List Place) [ Some p ↦ [] | None ↦ if nat_lt at 16384 then (record { offset = at; suffix = label ∷ rest }) ∷ new_places places (at + 1 + length label) rest else [] ]) (known label rest) in
    (λ i. record { octets = octets i; places = places ++ more i }) ∙ ap (λ (ps : List Place). record { octets = pointer 12; places = ps }) (append-nil places)

-- the record, if no name of its data is compressed
written : (at : ℕ) (r : Record) → 2 ≤ length (wire r.owner) → ((places : List Place) (at : ℕ) → compressed_rdata places at r ≡ plain_octets places r.rdata)
    → (compressed_record (new_places [] 12 r.owner) at r).octets ≡ record_head r.rtype r.ttl (length r.rdata) ++ r.rdata
written at r some plain =
    let places = new_places [] 12 r.owner in
    ap (λ (o : Compressing).
    (let rdata = compressed_rdata o.places (at + length o.octets + 10) r in
    o.octets ++ to_be_bytes w16 r.rtype ++ to_be_bytes w16 class_in ++ to_be_bytes w32 r.ttl ++ to_be_bytes w16 (length rdata.octets) ++ rdata.octets)) (pointed at r.owner some)
    ∙ ap (λ (x : Compressing). pointer 12 ++ to_be_bytes w16 r.rtype ++ to_be_bytes w16 class_in ++ to_be_bytes w32 r.ttl ++ to_be_bytes w16 (length x.octets) ++ x.octets) (plain places (at + 2 + 10))

-- the whole
pub one_text : (id : ℕ) (rd : Bool) (q : EchoedQuestion) (r : Record) → 2 ≤ length (wire q.name) → ((places : List Place) (at : ℕ) → compressed_rdata places at (record r { owner = q.name }) ≡ plain_octets places r.rdata)
    → text (one_answer id rd q r) ≡ (answer_header id rd ++ q.octets.now) ++ (record_head r.rtype r.ttl (length r.rdata) ++ r.rdata)
one_text id rd q r some plain =
    let one : Record = record r { owner = q.name } in
    let front = answer_header id rd ++ q.octets.now in
    let there = compressed_record (new_places [] 12 q.name) (12 + length q.octets.now) one in
    ap (λ (xs : List ℕ). front ++ xs) (append-nil there.octets ∙ written (12 + length q.octets.now) one some plain)
