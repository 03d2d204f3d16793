use Rattle.std.proofs.Common.{◌∙◌}
use Rattle.dns_store.proofs.kept_store.KeptStoreZoneStore.newest.Goals as goal

pub returns : goal.returns
returns g c k kept = c.newest.ensures ∙ kept.memory.number_is
