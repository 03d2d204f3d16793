-- A device that was made for a zone.
use Rattle.dns_zone.specs.Zone.{Zone}
use Rattle.dns_sectors.specs.Device.{Content}
use Rattle.dns_sectors.specs.declared.device.Sectors.{Ghosts}
use Rattle.dns_store.specs.Opens.{opens}
use Rattle.dns_store.specs.Opening.{IsInRange}
use Rattle.dns_store.specs.Formatting.{first_of}
use Rattle.dns_primary.specs.declared.primary.ZoneSpec.{ZoneSpec}

-- It opens as the zone that was loaded, whatever a crash leaves of it.
pub record IsMadeOf {D : Type 0} (g : Ghosts D) (zone : Zone) (s : ZoneSpec) (device : D) : Type 0 where
  pub range : IsInRange s.snapshot s.journal
  pub honest : g.is_honest device
  pub leaves : (c : Content)
      → g.may_leave device c
      → opens (record { apex = zone.apex; snapshot = s.snapshot; journal = s.journal })
      (first_of zone.records) c
