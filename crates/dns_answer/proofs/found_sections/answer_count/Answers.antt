use Rattle.std.proofs.Common.{◌<◌, ◌≤◌, List, length, take, ap, subst, arith}
use Rattle.std.proofs.lemmas.List.{take_all, length-append, length-map}
use Rattle.dns_records.specs.Record.{Record}
use Rattle.dns_lookup.specs.Lookup.{Found as Stated}
use Rattle.dns_lookup.specs.RepresentedLaws.{represented_at, represented_length}
use Rattle.dns_answer.specs.Sections.{records_of, answer_of, as_owner}
use Rattle.dns_answer.proofs.Shown.{lent_one, next_answers}
use Rattle.dns_answer.proofs.found_sections.answer_count.Goals as goal

pub loop-one-preserved : goal.loop-one-preserved
loop-one-preserved c zones t fs are holds =
    let i = c.loop-one.one-index in
    let one = c.one-item.result in
    let inside : i < length c.args.found.now = omega arith in
    let at = represented_at zones fs c.args.found.now i one are inside c.one-item.is in
    let rs = c.answers.result.now in
    let next = ap length (next_answers t fs i at.found rs at.next (c.answers.ensures zones t at.found at.is (lent_one zones t c.args.found.now i one holds inside c.one-item.is))) in
    let before = c.loop-one.invariant zones t fs are holds in
    omega (arith, next, before, length-append (records_of (answer_of t (take i fs))) (as_owner at.found.name rs), length-map {A = Record} {B = Record})

pub returns : goal.returns
returns c zones t fs are holds =
    let all : length fs ≤ c.loop-one.one-index = omega (arith, represented_length zones fs c.args.found.now are, c.loop-one-test.false) in
    subst (λ (xs : List Stated). c.loop-one.count ≤ length (records_of (answer_of t xs))) (take_all c.loop-one.one-index fs all) (c.loop-one.invariant zones t fs are holds)
