use Rattle.dns_primary.proofs.Begun.{fresh_machine, loaded_opened}
use Rattle.dns_primary.proofs.laws.fresh_law.Goals as goal

pub returns : goal.returns
returns c = record { exists = fresh_machine; formatted = loaded_opened }
