use Rattle.dns_primary.proofs.Bounded.{run_bounded}
use Rattle.dns_primary.proofs.laws.flush_law.Goals as goal

pub returns : goal.returns
returns c = run_bounded
