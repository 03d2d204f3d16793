use Rattle.dns_theorem.proofs.Fed.{transfer_is_followed}
use Rattle.dns_theorem.proofs.laws.copies_law.Goals as goal

pub returns : goal.returns
returns c = transfer_is_followed
