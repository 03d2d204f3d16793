use Rattle.std.proofs.Common.{◌≡◌, ◌+◌, ◌≤◌, ℕ, List, ◌++◌, length, sym, ap, ◌∙◌, arith, append_assoc}
use Rattle.std.proofs.lemmas.List.{length-append}
use Rattle.dns_names.specs.Name.{wire}
use Rattle.dns_wire.specs.Compress.{Place, compressed_rdata}
use Rattle.dns_wire.specs.Puts.{plain_octets}
use Rattle.dns_wire.specs.OneRecord.{answer_header, record_head}
use Rattle.dns_wire.proofs.OneRecord.{one_text}
use Rattle.dns_wire.proofs.writer.Writer.write_one.Goals as goal

pub returns : goal.returns
returns c =
    let question = c.args.question.now in
    let asked = question.octets.now in
    let one = c.args.one.now in
    let rdata = c.rdata-rdata.result.now in
    let header = answer_header c.args.id c.args.rd in
    let head = record_head one.rtype one.ttl (length one.rdata) in
    let told : rdata ≡ one.rdata = c.rdata-rdata.ensures.octets in
    let first : c.put.new.self.items ≡ header = c.in_ok-put.ensures ∙ (λ i. c.in_ok-octets.ensures i ++ c.answer_header.ensures i) in
    let second : c.put-2.new.self.items ≡ header ++ asked = c.in_ok-put-2.ensures ∙ ap (λ (xs : List ℕ). xs ++ asked) first in
    let third : c.put-3.new.self.items ≡ (header ++ asked) ++ head =
    c.in_ok-put-3.ensures ∙ (λ i. second i ++ (c.record_head.ensures ∙ (λ j. record_head (c.rtype-2.ensures j) (c.ttl.ensures j) (length (told j)))) i) in
    let fourth : c.put-4.new.self.items ≡ ((header ++ asked) ++ head) ++ one.rdata = c.in_ok-put-4.ensures ∙ (λ i. third i ++ told i) in
    let some : 2 ≤ length (wire question.name) = omega (arith, c.if-as_wire-lt2.false, ap length c.as_wire.ensures.octets) in
    let plain : (places : List Place) (at : ℕ) → compressed_rdata places at (record one { owner = question.name }) ≡ plain_octets places one.rdata = λ places at. c.may_hold_name.ensures c.if-may_hold_name.false (record one { owner = question.name }) places at (sym c.rtype.ensures) in
    let all = c.into_vec.ensures ∙ fourth in
    let parts : length (((header ++ asked) ++ head) ++ one.rdata) ≡ 24 + length asked + length one.rdata = omega (arith, length-append ((header ++ asked) ++ head) one.rdata, length-append (header ++ asked) head, length-append header asked) in (
      all ∙ append_assoc (header ++ asked) head one.rdata ∙ sym (one_text c.args.id c.args.rd question one some plain),
      omega (arith, ap length all, parts, ap length told, c.if-size-gt-MOST.false),
    )
