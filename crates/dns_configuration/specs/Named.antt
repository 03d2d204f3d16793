-- The zone of a configuration that a text names.
use Rattle.std.specs.Prelude.{◌≡◌, ◌⊎◌, ℕ, List, [], Option, Some, None, Ok, Err, find}
use Rattle.std.specs.Option.{option_copied}
use Rattle.dns_names.specs.Name.{Labels, names_eq}
use Rattle.dns_names.specs.Text.{name_of_text}
use Rattle.dns_names.specs.declared.NameError.{NameError}
use Rattle.dns_configuration.specs.declared.configuration.ZoneSettings.{ZoneSettings}
use Rattle.dns_configuration.specs.declared.configuration.Configuration.{Configuration}
use Rattle.dns_configuration.specs.declared.files.File.{File}
use Rattle.dns_configuration.specs.declared.files.Fault.{Fault}
use Rattle.dns_configuration.specs.declared.files.Fault.TheVariants.{BadOrigin}
use Rattle.dns_configuration.specs.Faults.{fault_text}
use Rattle.dns_configuration.specs.Files.{HoldsConfiguration}

-- The zone of that name in a configuration.
abbrev pub zone_configured : Labels → List ZoneSettings → Option ZoneSettings
zone_configured name zones = find (λ z. names_eq z.origin name) zones

pub record IsNamed (config : File) (origin : List ℕ) (own : ZoneSettings) : Type 0 where
  pub configuration : Configuration
  pub name : Labels
  pub holds : HoldsConfiguration (option_copied config.octets) (Ok configuration)
  pub named : name_of_text [] origin ≡ Ok name
  pub found : zone_configured name configuration.zones.items ≡ Some own

-- The text is no name, or that of none of these zones.
abbrev pub IsNoZone : List ℕ → List ZoneSettings → Type 0
IsNoZone origin zones =
    ((e : NameError) × (name_of_text [] origin ≡ Err e))
    ⊎ ((name : Labels) × (name_of_text [] origin ≡ Ok name) × (zone_configured name zones ≡ None))

-- The configuration is refused, for that; or the origin is: it is no name, or that of no zone.
abbrev pub IsNoName : List ℕ → Configuration → Type 0
IsNoName origin c = IsNoZone origin c.zones.items

abbrev pub IsNoZoneName : File → List ℕ → List ℕ → Type 0
IsNoZoneName config origin text =
    ((fault : Fault) × HoldsConfiguration (option_copied config.octets) (Err fault)
    × (text ≡ fault_text config.path.now fault))
    ⊎ ((c : Configuration) × HoldsConfiguration (option_copied config.octets) (Ok c) × IsNoName origin c
    × (text ≡ fault_text origin BadOrigin))
