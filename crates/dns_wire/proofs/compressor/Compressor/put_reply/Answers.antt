use Rattle.std.proofs.Common.{◌≡◌, ◌≤◌, ◌<◌, ◌+◌, ◌++◌, List, ℕ, length, refl, sym, ap, subst, ◌∙◌, arith}
use Rattle.std.proofs.lemmas.List.{length-append}
use Rattle.dns_wire.specs.Text.{text, header_octets, question_octets}
use Rattle.dns_wire.specs.Reply.{stated}
use Rattle.dns_wire.specs.Puts.{RefusesUpTo, asked}
use Rattle.dns_wire.proofs.Exits.{err_exit}
use Rattle.dns_wire.proofs.Puts.{refuses_more}
use Rattle.dns_wire.proofs.TextPut.{asked_octets, text_size, text_long, first_refused, second_refused, third_refused, Begun, begun, Answered, answered, Authorised, authorised, whole_text}
use Rattle.dns_wire.proofs.compressor.Compressor.put_reply.Goals as goal
use Rattle.dns_wire.proofs.compressor.Compressor.put_reply.Goals.{In_ok-put_question, In_ok-put_records, In_ok-put_records-2}

pub returns-in_err-header-clause-refused : goal.returns-in_err-header-clause-refused
returns-in_err-header-clause-refused c =
    let r = stated c.args.reply.now in
    let h = c.in_err-header.ensures.refused in
    let long : 65535 < length r.answer + length r.authority + length r.additional = h.1 in
    let over : c.args.self.now.limit < length (text r) = omega (arith, long, text_long r, c.requires.small) in
    err_exit c.from_residual.result _ (RefusesUpTo c.args.self.now.limit (length (text r))) c.from_residual.ensures.1
    (λ y same. subst (RefusesUpTo c.args.self.now.limit (length (text r))) (sym (same ∙ h.0)) over)

one : (c : In_ok-put_question) → Begun (stated c.args.reply.now) c.put_question.new.self.octets.items c.put_question.new.self.places
one c =
    let w1 = c.in_ok-put.ensures.written in
    let w2 = c.in_ok-put_question.ensures.written in
    let start = c.args.self.now.octets.items in
    begun (stated c.args.reply.now) start c.put.new.self.octets.items c.put_question.new.self.octets.items c.put_question.new.self.places c.requires.empty (w1.octets ∙ ap (λ (xs : List ℕ). start ++ xs) c.in_ok-header.ensures.found) w2.octets w2.places

two : (c : In_ok-put_records) → Begun (stated c.args.reply.now) c.put_question.new.self.octets.items c.put_question.new.self.places → Answered (stated c.args.reply.now) c.put_records.new.self.octets.items c.put_records.new.self.places
two c h =
    let q = c.put_question.new.self in
    let w = c.in_ok-put_records.ensures.written in
    answered (stated c.args.reply.now) q.octets.items c.put_records.new.self.octets.items q.places c.put_records.new.self.places h w.octets w.places

three : (c : In_ok-put_records-2) → Answered (stated c.args.reply.now) c.put_records.new.self.octets.items c.put_records.new.self.places → Authorised (stated c.args.reply.now) c.put_records-2.new.self.octets.items c.put_records-2.new.self.places
three c h =
    let q = c.put_records.new.self in
    let w = c.in_ok-put_records-2.ensures.written in
    authorised (stated c.args.reply.now) q.octets.items c.put_records-2.new.self.octets.items q.places c.put_records-2.new.self.places h w.octets w.places

pub returns-in_err-put_question-clause-refused : goal.returns-in_err-put_question-clause-refused
returns-in_err-put_question-clause-refused c =
    let r = stated c.args.reply.now in
    let w = c.in_ok-put.ensures.written in
    let now = c.put.new.self in
    let octets = now.octets.items in
    let start = c.args.self.now.octets.items in
    let more = (asked r.question).octets in
    let e = c.in_err-put_question.field-0.0 in
    let twelve : length (header_octets r) ≡ 12 = refl in
    let none : length start ≡ 0 = ap length c.requires.empty in
    let front : octets ≡ start ++ header_octets r = w.octets ∙ ap (λ (xs : List ℕ). start ++ xs) c.in_ok-header.ensures.found in
    let size : length octets ≡ 12 = omega (arith, ap length front, length-append start (header_octets r), none, twelve) in
    let last : length more ≡ length (question_octets r) = ap length (asked_octets r) in
    let short : length octets + length more ≤ length (text r) = omega (arith, size, last, text_size r) in
    err_exit c.from_residual-in_err-put_question.result _ (RefusesUpTo c.args.self.now.limit (length (text r))) c.from_residual-in_err-put_question.ensures.1
    (λ y same. subst (RefusesUpTo c.args.self.now.limit (length (text r))) (sym same)
    (subst (λ (k : ℕ). RefusesUpTo k (length (text r)) e) w.same (refuses_more now.limit (length octets + length more) (length (text r)) e short c.in_err-put_question.ensures.refused)))

pub returns-in_err-put_records-clause-refused : goal.returns-in_err-put_records-clause-refused
returns-in_err-put_records-clause-refused c =
    let at = goal.at.returns-in_err-put_records-clause-refused c in
    let r = stated c.args.reply.now in
    let q = c.put_question.new.self in
    let h = one at.In_ok-put_question in
    let limit = c.in_ok-put_question.ensures.written.same ∙ c.in_ok-put.ensures.written.same in
    err_exit c.from_residual-in_err-put_records.result _ (RefusesUpTo c.args.self.now.limit (length (text r))) c.from_residual-in_err-put_records.ensures.1
    (λ y same. subst (RefusesUpTo c.args.self.now.limit (length (text r))) (sym same) (first_refused r q.octets.items q.places q.limit c.args.self.now.limit c.in_err-put_records.field-0.0 h limit c.in_err-put_records.ensures.refused))

pub returns-in_err-put_records-2-clause-refused : goal.returns-in_err-put_records-2-clause-refused
returns-in_err-put_records-2-clause-refused c =
    let at = goal.at.returns-in_err-put_records-2-clause-refused c in
    let r = stated c.args.reply.now in
    let q = c.put_records.new.self in
    let h = two at.In_ok-put_records (one at.In_ok-put_question) in
    let limit = c.in_ok-put_records.ensures.written.same ∙ c.in_ok-put_question.ensures.written.same ∙ c.in_ok-put.ensures.written.same in
    err_exit c.from_residual-in_err-put_records-2.result _ (RefusesUpTo c.args.self.now.limit (length (text r))) c.from_residual-in_err-put_records-2.ensures.1
    (λ y same. subst (RefusesUpTo c.args.self.now.limit (length (text r))) (sym same) (second_refused r q.octets.items q.places q.limit c.args.self.now.limit c.in_err-put_records-2.field-0.0 h limit c.in_err-put_records-2.ensures.refused))

pub returns-in_err-put_records-3-clause-refused : goal.returns-in_err-put_records-3-clause-refused
returns-in_err-put_records-3-clause-refused c =
    let at = goal.at.returns-in_err-put_records-3-clause-refused c in
    let r = stated c.args.reply.now in
    let q = c.put_records-2.new.self in
    let h = three at.In_ok-put_records-2 (two at.In_ok-put_records (one at.In_ok-put_question)) in
    let limit = c.in_ok-put_records-2.ensures.written.same ∙ c.in_ok-put_records.ensures.written.same ∙ c.in_ok-put_question.ensures.written.same ∙ c.in_ok-put.ensures.written.same in
    err_exit c.from_residual-in_err-put_records-3.result _ (RefusesUpTo c.args.self.now.limit (length (text r))) c.from_residual-in_err-put_records-3.ensures.1
    (λ y same. subst (RefusesUpTo c.args.self.now.limit (length (text r))) (sym same) (third_refused r q.octets.items q.places q.limit c.args.self.now.limit c.in_err-put_records-3.field-0.0 h limit c.in_err-put_records-3.ensures.refused))

pub returns-clause-written : goal.returns-clause-written
returns-clause-written c =
    let at = goal.at.returns-clause-written c in
    let r = stated c.args.reply.now in
    let q = c.put_records-2.new.self in
    let h = three at.In_ok-put_records-2 (two at.In_ok-put_records (one at.In_ok-put_question)) in
    let w = c.in_ok-put_records-3.ensures.written in
    let limit : q.limit ≡ c.args.self.now.limit = c.in_ok-put_records-2.ensures.written.same ∙ c.in_ok-put_records.ensures.written.same ∙ c.in_ok-put_question.ensures.written.same ∙ c.in_ok-put.ensures.written.same in (
      whole_text r q.octets.items c.put_records-3.new.self.octets.items q.places h w.octets,
      subst (λ (k : ℕ). length c.put_records-3.new.self.octets.items ≤ k) limit w.fits,
    )
