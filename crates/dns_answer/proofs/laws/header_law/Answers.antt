use Rattle.std.proofs.Common.{refl, arith}
use Rattle.dns_wire.specs.Message.{header_of}
use Rattle.dns_wire.specs.Valid.{IsReply}
use Rattle.dns_answer.specs.Answer.{bare_reply}
use Rattle.dns_answer.proofs.laws.header_law.Goals as goal

pub returns : goal.returns
returns c = λ octets rcode fits small.
    (let texts = c.one_compressed_text.ensures in
    let header = c.question_law.ensures.header octets fits in
    let r = bare_reply (header_of octets) rcode in
    let valid : IsReply r = record { id = header.0; opcode = header.1; rcode = small; question = tt; answer = omega arith; authority = omega arith; additional = omega arith; records = tt } in
    (valid, refl, texts.compressed r valid, texts.reads_back r valid))
