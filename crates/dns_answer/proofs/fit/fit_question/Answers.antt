use Rattle.std.proofs.Common.{◌+◌, ◌<◌, length, sym, ap, subst, ◌∙◌}
use Rattle.std.proofs.lemmas.Result.{IfOk-weaker}
use Rattle.dns_request.specs.declared.request.Transport.{Transport}
use Rattle.dns_answer.specs.Answer.{fitted}
use Rattle.dns_answer.specs.Fit.{most_records, truncated}
use Rattle.dns_answer.proofs.Truncated.{too_many}
use Rattle.dns_answer.proofs.fit.fit_question.Goals as goal

pub returns-in-Udp : goal.returns-in-Udp
returns-in-Udp c = IfOk-weaker c.truncated.result _ _ (λ octets e whole is over.
    let many = subst (λ (t : Transport). most_records t < length whole.answer + length whole.authority) c.in-Udp.is over in
    e ∙ ap truncated is ∙ sym (too_many whole many c.one_compressed_text.ensures.long) ∙ ap (λ (t : Transport). fitted t whole) (sym c.in-Udp.is)) c.truncated.ensures
