use Rattle.std.proofs.Common.{Bool, length, sym, ap, ◌∙◌}
use Rattle.std.specs.Prelude.{None, Some}
use Rattle.dns_versions.proofs.Lists.{first_found, first_fails, or_more}
use Rattle.dns_versions.proofs.flush.first_failure.Goals as goal

pub returns-in-Some : goal.returns-in-Some
returns-in-Some c fails is at = sym (first_found fails c.args.failed c.in-Some.earlier (sym is ∙ c.in-Some.is))

pub returns-then-failed : goal.returns-then-failed
returns-then-failed c fails is at =
    ap (λ n. Some n) at ∙ sym (first_fails fails c.args.failed (sym is ∙ c.in-None.is) ∙ ap (λ (b : Bool). or_more None b (length fails)) c.if-failed.true)

pub returns-else-failed : goal.returns-else-failed
returns-else-failed c fails is at = sym (first_fails fails c.args.failed (sym is ∙ c.in-None.is) ∙ ap (λ (b : Bool). or_more None b (length fails)) c.if-failed.false)
