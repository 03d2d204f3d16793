use Rattle.std.proofs.Common.{◌≤◌, ℕ, List, length, sym, ap, subst, ◌∙◌}
use Rattle.std.proofs.lemmas.Result.{IfOk-weaker}
use Rattle.dns_wire.specs.Reply.{stated}
use Rattle.dns_answer.specs.Answer.{fitted}
use Rattle.dns_answer.proofs.OneReply.{fits}
use Rattle.dns_answer.proofs.question.reply_of_short.Goals as goal

pub returns-in-Some : goal.returns-in-Some
returns-in-Some g c t fs are holds =
    let said = c.sections-sections.ensures in
    let all = c.requires.short t fs are holds c.in_default.not-All in
    let whole = record (stated c.args.reply) {
      answer = c.sections-sections.result.answer.now;
      authority = c.sections-sections.result.authority.now;
      additional = c.sections-sections.result.additional.now;
    } in
    let written = rw c.in-Some.is at c.in_ok-octets-in_default.ensures in
    written.0 ∙ fits c.args.transport whole (subst (λ (xs : List ℕ). length xs ≤ 512) written.0 written.1)
    ∙ ap (fitted c.args.transport) (λ i. record (stated c.args.reply) {
      answer = (said.answer ∙ sym all.answers) i;
      authority = (said.authority ∙ sym all.authorities) i;
      additional = (said.additional ∙ sym all.additionals) i;
    })

pub returns-in_default-2 : goal.returns-in_default-2
returns-in_default-2 g c = IfOk-weaker c.fit.result _ _ (λ out e t fs are holds.
    let said = c.sections-sections.ensures in
    let all = c.requires.short t fs are holds c.in_default.not-All in
    e ∙ ap (fitted c.args.transport) (λ i. record (stated c.args.reply) {
      answer = (said.answer ∙ sym all.answers) i;
      authority = (said.authority ∙ sym all.authorities) i;
      additional = (said.additional ∙ sym all.additionals) i;
    })) c.fit.ensures
