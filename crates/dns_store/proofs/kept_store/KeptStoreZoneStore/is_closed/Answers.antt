use Rattle.std.proofs.Common.{◌∙◌}
use Rattle.dns_store.proofs.kept_store.KeptStoreZoneStore.is_closed.Goals as goal

pub returns : goal.returns
returns g c k kept = c.is_closed.ensures ∙ kept.memory.closed_is
