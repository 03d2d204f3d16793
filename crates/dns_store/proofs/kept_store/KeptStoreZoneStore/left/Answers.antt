use Rattle.std.proofs.Common.{◌∙◌}
use Rattle.dns_store.proofs.kept_store.KeptStoreZoneStore.left.Goals as goal

pub returns : goal.returns
returns g c k kept = c.left.ensures.left ∙ kept.memory.left_is
