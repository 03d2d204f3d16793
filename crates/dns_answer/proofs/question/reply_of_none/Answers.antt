use Rattle.std.proofs.Common.{ap, refl, ◌∙◌}
use Rattle.std.proofs.lemmas.Result.{IfOk-weaker}
use Rattle.dns_request.specs.Codes.{rcode_refused}
use Rattle.dns_answer.specs.Answer.{fitted, with_question}
use Rattle.dns_answer.proofs.Replies.{bare}
use Rattle.dns_answer.proofs.question.reply_of_none.Goals as goal

pub returns : goal.returns
returns c = IfOk-weaker c.fit.result _ _ (λ out e q echoes.
    let m = c.args.message.now in
    let none = c.none-none.ensures in
    e ∙ ap (fitted c.args.transport) (c.reply_with_question-reply.ensures.stated q echoes ∙ bare (with_question m.octets m.message q rcode_refused) c.none-none.result (record { answer = refl; authority = refl; additional = refl }) none.answer none.authority none.additional)) c.fit.ensures
