-- What files hold that a run is given: the configuration, and the zones of master files.
use Rattle.std.specs.Prelude.{◌≡◌, ◌⊎◌, ⊤, ℕ, List, [], ◌∷◌, Option, Some, None, Result, Ok, Err, bytes_eq}
use Rattle.std.specs.Prelude.{if◌then◌else◌}
use Rattle.std.specs.Option.{option_copied}
use Rattle.std.specs.String.{string_bytes}
use Rattle.dns_records.specs.Record.{Record}
use Rattle.dns_zone.specs.Made.{IsSetOf}
use Rattle.dns_zone.specs.Zone.{Zone}
use Rattle.dns_configuration.specs.declared.configuration.ZoneSettings.{ZoneSettings}
use Rattle.dns_configuration.specs.declared.configuration.Configuration.{Configuration}
use Rattle.dns_configuration.specs.declared.files.File.{File}
use Rattle.dns_configuration.specs.declared.files.Fault.{Fault}
use Rattle.dns_configuration.specs.declared.files.Fault.TheVariants.{OutOfMemory, Unreadable, BadConfig}
use Rattle.dns_configuration.specs.Faults.{loaded}
use Rattle.dns_configuration.specs.Settings.{IsDescribedBy}

-- The configuration that a file holds, or why it holds none.
abbrev pub HoldsConfiguration : Option (List ℕ) → Result Configuration Fault → Type 0
HoldsConfiguration None (Err Unreadable) = ⊤
HoldsConfiguration (Some octets) (Ok c) = IsDescribedBy octets c
HoldsConfiguration (Some octets) (Err BadConfig) = (c : Configuration) → ¬ (IsDescribedBy octets c)
HoldsConfiguration octets (Err OutOfMemory) = ⊤
HoldsConfiguration octets r = ⊥

-- The octets of the first file with that path, if it is given and can be read.
abbrev pub octets_at : List File → List ℕ → Option (List ℕ)
octets_at [] path = None
octets_at (f ∷ files) path = if bytes_eq f.path.now path then option_copied f.octets else octets_at files path

-- What the file of a zone holds; the zone that it is.
abbrev pub loaded_by : List File → ZoneSettings → Result (List Record) Fault
loaded_by files z = loaded (octets_at files (string_bytes z.file)) z.origin

pub record IsLoadedFrom (files : List File) (settings : ZoneSettings) (zone : Zone) : Type 0 where
  pub records : List Record
  pub read : loaded_by files settings ≡ Ok records
  pub apex : zone.apex ≡ settings.origin
  pub same : IsSetOf records zone.records

-- The first zone, in order, whose file holds none, its path and why.
abbrev pub IsFirstFault : List File → List ZoneSettings → List ℕ → Fault → Type 0
IsFirstFault files [] path fault = ⊥
IsFirstFault files (z ∷ rest) path fault =
    ((path ≡ string_bytes z.file) × (loaded_by files z ≡ Err fault))
    ⊎ ((records : List Record) × (loaded_by files z ≡ Ok records) × IsFirstFault files rest path fault)
