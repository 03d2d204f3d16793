use Rattle.dns_secondary.proofs.Applying.{applies_of}
use Rattle.dns_secondary.proofs.laws.applies_law.Goals as goal

pub returns : goal.returns
returns c = applies_of
