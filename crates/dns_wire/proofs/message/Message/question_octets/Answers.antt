use Rattle.std.proofs.Common.{◌≡◌, ◌+◌, ℕ, List, length, ap, subst, ◌∙◌, arith}
use Rattle.std.specs.Prelude.{slice_range}
use Rattle.dns_wire.specs.Message.{Question}
use Rattle.dns_wire.specs.Reads.{QuestionsAt}
use Rattle.dns_wire.specs.Received.{received}
use Rattle.dns_wire.proofs.Shown.{behind_header, questions_of_message, octets_of, one_question_size}
use Rattle.dns_wire.proofs.message.Message.question_octets.Goals as goal

pub slice_bounds-result-count : goal.slice_bounds-result-count
slice_bounds-result-count c = let s = c.self.inside in (behind_header s.octets.now (received s.octets.now).message s.answers s.authorities s.additionals c.self.invariant).up

pub slice_bounds-result-start : goal.slice_bounds-result-start
slice_bounds-result-start c =
    let s = c.self.inside in
    let h = behind_header s.octets.now (received s.octets.now).message s.answers s.authorities s.additionals c.self.invariant in
    let up = h.up in
    omega arith

pub slice_bounds-result-end : goal.slice_bounds-result-end
slice_bounds-result-end c =
    let s = c.self.inside in
    let h = behind_header s.octets.now (received s.octets.now).message s.answers s.authorities s.additionals c.self.invariant in
    let up = h.up in
    let inside = h.inside in
    omega arith

pub returns-clause-position : goal.returns-clause-position
returns-clause-position c =
    let s = c.self.inside in
    let h = behind_header s.octets.now (received s.octets.now).message s.answers s.authorities s.additionals c.self.invariant in
    ap (λ (k : ℕ). slice_range s.octets.now 12 k) h.ends ∙ ap (λ (m : List ℕ). slice_range m 12 (12 + length (slice_range s.octets.now 12 s.answers))) (octets_of s.octets.now c.args.self.now c.self.view_is)

pub returns-clause-one : goal.returns-clause-one
returns-clause-one c = λ q e.
    (let s = c.self.inside in
    let h = behind_header s.octets.now (received s.octets.now).message s.answers s.authorities s.additionals c.self.invariant in
    let stop : s.answers ≡ 12 + length (slice_range s.octets.now 12 s.answers) = h.ends in
    let size = one_question_size s.octets.now q s.answers (subst (λ (qs : List Question). QuestionsAt s.octets.now 12 qs s.answers) (questions_of_message s.octets.now c.args.self.now c.self.view_is ∙ e) c.self.invariant.questions) in
    omega (arith, stop, size))

pub returns-clause-section : goal.returns-clause-section
returns-clause-section c =
    let s = c.self.inside in
    let x = (received s.octets.now).message in
    let h = behind_header s.octets.now x s.answers s.authorities s.additionals c.self.invariant in
    let stop : s.answers ≡ 12 + length (slice_range s.octets.now 12 s.answers) = h.ends in
    let first : QuestionsAt s.octets.now 12 x.questions (12 + length (slice_range s.octets.now 12 s.answers)) = subst (λ (k : ℕ). QuestionsAt s.octets.now 12 x.questions k) stop c.self.invariant.questions in
    subst (λ (m : List ℕ). QuestionsAt m 12 c.args.self.now.message.questions (12 + length (slice_range s.octets.now 12 s.answers))) (octets_of s.octets.now c.args.self.now c.self.view_is)
    (subst (λ (qs : List Question). QuestionsAt s.octets.now 12 qs (12 + length (slice_range s.octets.now 12 s.answers))) (questions_of_message s.octets.now c.args.self.now c.self.view_is) first)
