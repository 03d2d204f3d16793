use Rattle.dns_primary.proofs.Released.{step_releases}
use Rattle.dns_primary.proofs.AtOnce.{step_refuses}
use Rattle.dns_primary.proofs.laws.replies_wait_law.Goals as goal

pub returns : goal.returns
returns c = record { released = step_releases; at_once = step_refuses }
