use Rattle.dns_theorem.proofs.Forms.{transfer_is_taken}
use Rattle.dns_theorem.proofs.laws.transfer_law.Goals as goal

pub returns : goal.returns
returns c = transfer_is_taken
