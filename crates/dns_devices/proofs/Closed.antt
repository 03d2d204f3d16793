-- What a store leaves that is closed.
use Rattle.dns_sectors.specs.declared.device.Sectors.{Ghosts}
use Rattle.dns_store.specs.Laws.{kept_opens}
use Rattle.dns_store.specs.Opening.{keeps, store_device}
use Rattle.dns_store.specs.Versions.{Kept}
use Rattle.dns_store.specs.declared.kept_store.KeptStore.{KeptStore}
use Rattle.dns_devices.specs.Stores.{LeavesKept}

-- The versions that a store keeps are those of its device, if that is honest.
pub leaves_kept : {D I : Type 0} (g : Ghosts D) (store : KeptStore D I g) (k : Kept) → keeps store k → g.is_honest (store_device store) → LeavesKept g (store_device store) k
leaves_kept g store k kept honest x left = kept_opens store.journal k k.closed (kept.keeps honest) x left
