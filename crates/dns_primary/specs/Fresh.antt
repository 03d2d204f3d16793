-- Primaries that were just made, and what is shown of a zone.
use Rattle.std.specs.Prelude.{◌≡◌, ◌⊎◌, ◌≤◌, ℕ, false, List, [], length, Option, Some, None}
use Rattle.std.specs.List.{AllByRecursion}
use Rattle.dns_zone.specs.Zone.{Zone}
use Rattle.dns_store.specs.Versions.{Opened, opened_again}
use Rattle.dns_store.specs.Opens.{fresh}
use Rattle.dns_versions.specs.Each.{Each2, Each3}
use Rattle.dns_versions.specs.Held.{shown_zone}
use Rattle.dns_primary.specs.declared.primary.ZoneSpec.{ZoneSpec}
use Rattle.dns_primary.specs.Machine.{ZoneState, Machine, kept_of}
use Rattle.dns_primary.specs.Keeps.{IsSet}
use Rattle.dns_primary.specs.Runs.{HasHistory}

-- The zone is as it was loaded: no update was accepted. Its store was opened once, and no sector of it was
-- altered.
pub record IsLoaded (zone : Zone) (settings : ZoneSpec) (z : ZoneState) : Type 0 where
  pub shape : z.setting.shape
      ≡ record { apex = zone.apex; snapshot = settings.snapshot; journal = settings.journal }
  pub set : IsSet settings z
  pub loaded : z.loaded ≡ zone.records
  pub shown : z.shown ≡ []
  pub staged : z.staged ≡ []
  pub base : z.base ≡ 0
  pub second : z.second ≡ None
  pub openings : z.openings ≡ 1
  pub altered : z.altered ≡ []
  pub opened : z.closed ≡ false

-- A machine of these zones to which nothing has happened.
pub record IsFresh (zones : List Zone) (settings : List ZoneSpec) (m : Machine) : Type 0 where
  pub zones_are : Each3 IsLoaded zones settings m.zones
  pub waiting : m.waiting ≡ []
  pub connections : m.connections ≡ []

-- The zone as its store is opened that holds these versions, which an earlier run made of the loaded one:
-- each update was accepted on the version that the one before it left. The earlier run's store was kept as it
-- was, or migrated.
pub record IsReopened (o : Opened) (z : ZoneState) : Type 0 where
  pub versions : kept_of z ≡ fresh z.setting.shape (opened_again o)
  pub history : HasHistory z

-- A machine of zones that were opened so, to which nothing has happened since.
pub record IsResumed (held : List Opened) (m : Machine) : Type 0 where
  pub zones_are : Each2 IsReopened held m.zones
  pub waiting : m.waiting ≡ []
  pub connections : m.connections ≡ []

-- A machine of stores that were just formatted, or that were there.
abbrev pub IsStart : Machine → Type 0
IsStart m =
    ((zones : List Zone) × (settings : List ZoneSpec) × IsFresh zones settings m)
    ⊎ ((held : List Opened) × IsResumed held m)

-- The number of the version that is shown, and the zone.
abbrev pub IsShown : ℕ → Zone → Option ZoneState → Type 0
IsShown number zone None = ⊥
IsShown number zone (Some z) = (number ≡ length z.shown) × (zone ≡ shown_zone (kept_of z))
