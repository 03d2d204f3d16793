use Rattle.dns_theorem.proofs.Followed.{loaded_are_followed, resumed_are_followed}
use Rattle.dns_theorem.proofs.laws.headline_law.Goals as goal

pub returns : goal.returns
returns c = record { loaded = loaded_are_followed; resumed = resumed_are_followed }
