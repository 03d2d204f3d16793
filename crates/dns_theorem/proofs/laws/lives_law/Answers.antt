use Rattle.dns_theorem.proofs.Lived.{life_leaves, start_rests}
use Rattle.dns_theorem.proofs.LivesBounded.{life_bounded}
use Rattle.dns_theorem.proofs.laws.lives_law.Goals as goal

pub returns : goal.returns
returns c = record { leaves = life_leaves; bounded = life_bounded; begins = start_rests }
