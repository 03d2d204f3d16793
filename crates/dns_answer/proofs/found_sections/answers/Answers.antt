use Rattle.std.proofs.Common.{inl, inr, ap, ◌∙◌}
use Rattle.dns_answer.specs.Sections.{from_zone, as_owner}
use Rattle.dns_answer.proofs.Shown.{answering, answers_represented}
use Rattle.dns_answer.proofs.found_sections.answers.Goals as goal

pub returns-in-Alias : goal.returns-in-Alias
returns-in-Alias c zones t f is holds =
    let one = c.args.one.now in
    answers_represented zones t f one is holds ∙ ap (λ rs. from_zone f.zone (as_owner f.name rs)) (elim c.in-Alias.is [
      | inl e ↦ ap (λ k. answering k one.records.now) e
      | inr e ↦ ap (λ k. answering k one.records.now) e
    ])
