use Rattle.dns_primary.proofs.Stopping.{fresh_keeps}
use Rattle.dns_primary.proofs.laws.versions_law.Goals as goal

pub returns : goal.returns
returns c = fresh_keeps
