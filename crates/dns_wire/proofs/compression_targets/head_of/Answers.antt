use Rattle.std.proofs.Common.{refl}
use Rattle.dns_wire.specs.Indexed.{head_of}
use Rattle.dns_wire.proofs.compression_targets.head_of.Goals as goal

pub returns-clause-head : goal.returns-clause-head
unfolding head_of
returns-clause-head c = refl
