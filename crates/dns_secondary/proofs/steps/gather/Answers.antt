use Rattle.dns_secondary.proofs.Behind.{gathered}
use Rattle.dns_secondary.proofs.steps.gather.Goals as goal

pub returns-then-ends_before-clause-taken : goal.returns-then-ends_before-clause-taken
returns-then-ends_before-clause-taken g c =
    λ soa. gathered soa c.args.set.now c.push.new.self c.args.r (c.ends_before.ensures c.if-ends_before.true) c.in_ok-push.ensures.ok
