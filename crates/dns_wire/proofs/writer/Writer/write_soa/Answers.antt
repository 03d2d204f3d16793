use Rattle.std.proofs.Common.{◌≡◌, ◌+◌, ◌∷◌, [], ◌++◌, ℕ, List, length, sym, ap, ◌∙◌, arith}
use Rattle.std.specs.Prelude.{Some}
use Rattle.std.proofs.lemmas.Bool.{eqb-true}
use Rattle.std.proofs.lemmas.List.{length-append, nil_from_length}
use Rattle.dns_names.specs.Name.{Labels, labels_of}
use Rattle.dns_names.specs.PlainLaws.{plain_of}
use Rattle.dns_wire.specs.Compress.{compressed_record, new_places}
use Rattle.dns_wire.specs.OneSoa.{soa_data, soa_head}
use Rattle.dns_wire.specs.Reply.{echo, stated}
use Rattle.dns_wire.specs.Text.{EchoedQuestion, header_octets, text}
use Rattle.dns_wire.proofs.OneSoa.{data_size, single, soa_text}
use Rattle.dns_wire.proofs.writer.Writer.write_soa.Goals as goal

pub soa_parts-requires : goal.soa_parts-requires
soa_parts-requires c = (plain_of c.as_wire.result.now c.in-Some.question.name c.as_wire.ensures.valid c.as_wire.ensures.octets).1

pub returns : goal.returns
returns c =
    let reply = c.args.reply.now in
    let r = stated reply in
    let question = c.in-Some.question in
    let q : EchoedQuestion = record { octets = question.octets.now; name = question.name } in
    let one = c.one-item.result in
    let parts = c.in-Some-soa_parts.parts in
    let first = parts.first.now in
    let second = parts.second.now in
    let numbers = parts.numbers.now in
    let rdata = soa_data parts.offset first second numbers in
    let header = header_octets r in
    let head = soa_head parts.offset one.ttl (length rdata) in
    let asked : r.question ≡ Some q = ap echo c.in-Some.is in
    let answer : reply.answer.now ≡ [] = nil_from_length reply.answer.now (eqb-true (length reply.answer.now) 0 (sym c.is_empty.ensures ∙ c.if-not-is_empty.false)) in
    let additional : reply.additional.now ≡ [] = nil_from_length reply.additional.now (eqb-true (length reply.additional.now) 0 (sym c.is_empty-else-not-is_empty.ensures ∙ c.if-not-is_empty-2.false)) in
    let authority : reply.authority.now ≡ one ∷ [] = single reply.authority.now one one (omega (arith, c.in-len1.len_at_least, c.in-len1.len_below)) c.one-item.is in
    let named : labels_of c.as_wire.result.now ≡ question.name = (plain_of c.as_wire.result.now question.name c.as_wire.ensures.valid c.as_wire.ensures.octets).0 in
    let written : (at : ℕ) → (compressed_record (new_places [] 12 question.name) at one).octets ≡ head ++ rdata =
    λ at. ap (λ (n : Labels). (compressed_record (new_places [] 12 n) at one).octets) (sym named) ∙ c.in-Some-soa_parts.ensures.octets at in
    let stands : text r ≡ (header ++ q.octets) ++ (head ++ rdata) = soa_text r q one (head ++ rdata) asked answer authority additional written in
    let start : c.put.new.self.items ≡ header = c.in_ok-put.ensures ∙ (λ i. c.in_ok-octets.ensures i ++ c.soa_header.ensures i) in
    let next : c.put-2.new.self.items ≡ header ++ q.octets = c.in_ok-put-2.ensures ∙ ap (λ (xs : List ℕ). xs ++ q.octets) start in
    let last : c.put_soa.new.self.items ≡ (header ++ q.octets) ++ (head ++ rdata) =
    c.in_ok-put_soa.ensures ∙ (λ i. next i ++ (soa_head parts.offset (c.ttl.ensures i) (length rdata) ++ rdata)) in
    let all : c.into_vec.result.items ≡ (header ++ q.octets) ++ (head ++ rdata) = c.into_vec.ensures ∙ last in
    let size : length rdata ≡ length first + length second + 20 + 4 = sym (data_size first second numbers parts.offset c.in-Some-soa_parts.ensures.numbers) in
    let whole : length ((header ++ q.octets) ++ (head ++ rdata)) ≡ 24 + length q.octets + length rdata = omega (arith, length-append (header ++ q.octets) (head ++ rdata), length-append header q.octets, length-append head rdata) in
    (all ∙ sym stands, omega (arith, ap length all, whole, size, c.if-size-gt-MOST.false))
