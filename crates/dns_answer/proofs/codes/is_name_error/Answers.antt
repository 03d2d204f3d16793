use Rattle.std.proofs.Common.{sym, ap, ◌∙◌}
use Rattle.std.specs.Option.{option_copied}
use Rattle.dns_answer.specs.Sections.{is_name_error}
use Rattle.dns_lookup.specs.RepresentedLaws.{outcome_of}
use Rattle.dns_answer.proofs.Shown.{last_error, no_error, none_represented, error_by}
use Rattle.dns_answer.proofs.codes.is_name_error.Goals as goal

pub returns-in_default : goal.returns-in_default
returns-in_default c zones fs are = sym (ap is_name_error (none_represented zones fs c.args.found.now are (ap option_copied (sym c.in_default.is) ∙ c.last.ensures.value)))

pub returns-in-NameError : goal.returns-in-NameError
returns-in-NameError c zones fs are =
    let last = c.in-Some.last.now in
    sym (last_error zones fs c.args.found.now last are c.in-Some.ensures.value ∙ ap (λ k. error_by (outcome_of k last.node)) c.in-NameError.is)

pub returns-in_default-kind : goal.returns-in_default-kind
returns-in_default-kind c zones fs are =
    let last = c.in-Some.last.now in
    sym (last_error zones fs c.args.found.now last are c.in-Some.ensures.value ∙ no_error last.kind last.node c.in_default-kind.not-NameError)
