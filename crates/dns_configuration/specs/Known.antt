-- What a primary is to know of the zones of a configuration.
use Rattle.std.specs.Prelude.{◌≡◌, List, map}
use Rattle.dns_names.specs.Name.{Labels}
use Rattle.dns_primary.specs.declared.primary.ZoneSpec as primary
use Rattle.dns_configuration.specs.declared.configuration.ZoneSettings.{ZoneSettings}

-- The names of the zones, in their order.
abbrev pub origins_of : List ZoneSettings → List Labels
origins_of zones = map (λ (z : ZoneSettings). z.origin) zones

-- What a primary is to know of a zone.
pub record IsSettingOf (settings : ZoneSettings) (known : primary.ZoneSpec) : Type 0 where
  pub snapshot : known.snapshot ≡ settings.snapshot_sectors
  pub journal : known.journal ≡ settings.journal_sectors
  pub keep : known.keep ≡ settings.keep
  pub update : known.update.items ≡ settings.update.items
  pub transfer : known.transfer.items ≡ settings.transfer.items
