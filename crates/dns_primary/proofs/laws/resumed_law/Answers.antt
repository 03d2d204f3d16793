use Rattle.dns_primary.proofs.Stopping.{resumed_keeps}
use Rattle.dns_primary.proofs.laws.resumed_law.Goals as goal

pub returns : goal.returns
returns c = resumed_keeps
