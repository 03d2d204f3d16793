use Rattle.std.proofs.Common.{[], ◌∷◌, sym, ap, ◌∙◌}
use Rattle.dns_wire.specs.Message.{Question}
use Rattle.dns_wire.specs.Received.{received}
use Rattle.dns_wire.proofs.Shown.{asked, questions_of_message}
use Rattle.dns_wire.proofs.message.Message.question.Goals as goal

pub overflow_sub-self-inside : goal.overflow_sub-self-inside
overflow_sub-self-inside c =
    let s = c.self.inside in
    (asked s.octets.now (received s.octets.now).message s.answers s.authorities s.additionals c.number.result c.self.invariant c.number.ensures c.if-number-ne1.false).2.room

pub over-requires : goal.over-requires
over-requires c =
    let s = c.self.inside in
    (asked s.octets.now (received s.octets.now).message s.answers s.authorities s.additionals c.number.result c.self.invariant c.number.ensures c.if-number-ne1.false).2.shown

pub returns-clause-one : goal.returns-clause-one
returns-clause-one c =
    let s = c.self.inside in
    let one = asked s.octets.now (received s.octets.now).message s.answers s.authorities s.additionals c.number.result c.self.invariant c.number.ensures c.if-number-ne1.false in
    sym (questions_of_message s.octets.now c.args.self.now c.self.view_is) ∙ one.1 ∙ ap (λ (q : Question). q ∷ []) (sym (c.over.ensures ∙ one.2.is))
