use Rattle.std.proofs.Common.{◌+◌, ◌<◌, [], length, ◌∙◌, arith}
use Rattle.std.proofs.lemmas.Result.{IfOk-weaker}
use Rattle.dns_wire.specs.Reply.{stated}
use Rattle.dns_answer.specs.Answer.{with_sections}
use Rattle.dns_answer.specs.Added.{IsWithoutAdditional, IsWithoutRecords}
use Rattle.dns_answer.specs.Fit.{most_records}
use Rattle.dns_answer.specs.Sections.{records_of, answer_of, authority_of}
use Rattle.dns_answer.proofs.question.reply_of_all_sections.Goals as goal
use Rattle.dns_answer.proofs.question.reply_of_all_sections.Goals.{then-answer_count-most-via-then-answer_count-most, then-answer_count-most-via-else-answer_count-most+then-server_count-most}

pub returns-then-answer_count-most : goal.returns-then-answer_count-most
returns-then-answer_count-most g c = IfOk-weaker c.fit_question.result _ _ (λ out e t fs are holds.
    let r = stated c.args.reply in
    let zones = c.args.zones.now in
    let bare = c.requires.bare in
    let most = c.most_records-most.ensures in
    let over : most_records c.args.transport < length (records_of (answer_of t fs)) + length (records_of (authority_of fs)) = elim c.then-answer_count-most.branch [
      | then-answer_count-most-via-then-answer_count-most w ↦ omega (arith, c.answer_count.ensures zones t fs are holds, most, w.if-answer_count-most.true)
      | then-answer_count-most-via-else-answer_count-most+then-server_count-most w ↦ omega (arith, w.server_count.ensures zones t fs are holds, most, w.if-server_count-most.true)
    ] in
    let less : IsWithoutRecords r (with_sections r t fs) = λ i. record r { answer = bare.answer i; authority = bare.authority i; additional = bare.additional i } in
    e (with_sections r t fs) less over) c.fit_question.ensures

pub returns-then-is_over : goal.returns-then-is_over
returns-then-is_over g c = IfOk-weaker c.fit_first_sections.result _ _ (λ out e t fs are holds.
    let r = stated c.args.reply in
    let sections = c.in_ok-sections.ensures t fs are holds in
    let most = c.most_records-most.ensures in
    let over = sections.more (c.has_more-is_over.ensures.0 c.if-is_over.true) in
    let less : IsWithoutAdditional (record r { answer = c.as_slice.result.now; authority = c.as_slice-2.result.now; additional = [] }) (with_sections r t fs) =
    λ i. record r { answer = (c.as_slice.ensures ∙ sections.answer) i; authority = (c.as_slice-2.ensures ∙ sections.authority) i; additional = [] } in
    e (with_sections r t fs) less (omega (arith, over, most))) c.fit_first_sections.ensures
