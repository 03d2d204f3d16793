use Rattle.dns_secondary.proofs.Growing.{idle}
use Rattle.dns_secondary.proofs.laws.idle_law.Goals as goal

pub returns : goal.returns
returns c = idle
