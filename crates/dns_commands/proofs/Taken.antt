-- What loading records makes of the device of a zone.
use Rattle.std.proofs.Common.{◌≡◌, inl, inr, List, Result, Ok, Err}
use Rattle.std.specs.Prelude.{MatchResult}
use Rattle.dns_records.specs.Record.{Record}
use Rattle.dns_sectors.specs.Device.{LeavesOnly}
use Rattle.dns_sectors.specs.declared.device.Sectors.{Ghosts}
use Rattle.dns_sectors.proofs.Moments.{joined, weaker}
use Rattle.dns_store.specs.Laws.{kept_opens}
use Rattle.dns_store.specs.Opening.{OpensAsPossible, keeps, store_device}
use Rattle.dns_store.specs.Opens.{fresh, opens}
use Rattle.dns_store.specs.Versions.{Kept, Opened, opened_again}
use Rattle.dns_store.specs.declared.kept_store.KeptStore.{KeptStore}
use Rattle.dns_configuration.specs.declared.configuration.ZoneSettings.{ZoneSettings}
use Rattle.dns_devices.specs.declared.device_faults.DeviceFault.{DeviceFault}
use Rattle.dns_commands.specs.declared.next_version.Loaded.{Loaded}
use Rattle.dns_commands.specs.Load.{IsLoadedInto, IsLoadedOn, IsLoadedAs, IsLoading, IsNotLoaded, LoadsAsPossible, OpensAsLoading}
use Rattle.dns_devices.specs.DeviceCalls.{DeviceCall}
use Rattle.dns_devices.specs.Stores.{LeavesKept, own_shape}
use Rattle.dns_commands.proofs.Stored.{loaded_on}

pub loading_ends : {D : Type 0} (g : Ghosts D) (calls : List (DeviceCall D)) (own : ZoneSettings) (records : List Record) (r : Result Loaded DeviceFault) → IsLoading g calls own records r → MatchResult r (IsLoadedAs g calls own records) (IsNotLoaded g calls own records)
loading_ends g calls own records (Ok answer) is = is
loading_ends g calls own records (Err fault) is = inr is

module _ {D I : Type 0} (g : Ghosts D) (own : ZoneSettings) (records : List Record) (device : D) (store new : KeptStore D I g) (r : Result Loaded DeviceFault) (o : Opened) where
  abbrev versions : Kept
  versions = fresh (own_shape own) (opened_again o)

  pub loaded_zone : LeavesOnly g.moment g.left_since device (store_device store) (OpensAsPossible g (own_shape own) device) → g.failed (store_device store) ≡ g.failed device → g.is_honest (store_device new)
      → IsLoadedInto (keeps new) (g.failed (store_device store)) (g.failed (store_device new)) own.keep records versions r
      → LeavesOnly g.moment g.left_since (store_device store) (store_device new) (OpensAsLoading opens own.keep records versions)
      → IsLoadedOn g own records device (store_device new) r o
  loaded_zone first quiet honest into second = record {
    becomes = loaded_on (keeps new) (LeavesKept g (store_device new)) (g.failed (store_device store)) (g.failed device) (g.failed (store_device new)) own.keep records versions r (λ j kept x left. kept_opens new.journal j j.closed (kept.keeps honest) x left) quiet into;
    any_moment = joined g.moment g.left_since device (store_device store) (store_device new) (LoadsAsPossible g own records device o) (OpensAsLoading opens own.keep records versions)
        (weaker g.moment g.left_since device (store_device store) (OpensAsPossible g (own_shape own) device) (LoadsAsPossible g own records device o) first (λ x left. inl left)) second (λ x left. inr left);
  }
