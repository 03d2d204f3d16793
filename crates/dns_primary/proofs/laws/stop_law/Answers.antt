use Rattle.dns_primary.specs.Stop.{IsMaking}
use Rattle.dns_primary.proofs.Recovering.{left_recovered, checkpoint_recovered}
use Rattle.dns_primary.proofs.laws.stop_law.Goals as goal

pub returns : goal.returns
returns c = record {
  left = λ m event index z content left. left_recovered (IsMaking m event index z) z content left;
  moved = checkpoint_recovered;
}
