use Rattle.std.proofs.Common.{refl}
use Rattle.dns_wire.specs.Indexed.{mixed}
use Rattle.dns_wire.proofs.compression_targets.mixed.Goals as goal

pub returns : goal.returns
unfolding mixed
returns c = refl
