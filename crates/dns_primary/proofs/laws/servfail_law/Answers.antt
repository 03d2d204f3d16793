use Rattle.dns_primary.proofs.Caused.{step_caused}
use Rattle.dns_primary.proofs.laws.servfail_law.Goals as goal

pub returns : goal.returns
returns c = step_caused
