use Rattle.dns_secondary.proofs.Growing.{too_many}
use Rattle.dns_secondary.proofs.laws.room_law.Goals as goal

pub returns : goal.returns
returns c = too_many
