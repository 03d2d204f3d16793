-- What `check` says of a configuration.
use Rattle.std.specs.Prelude.{◌≡◌, ◌⊎◌, ◌≤◌, ◌<◌, ℕ, Bool, List, ◌∷◌, ◌++◌, length, flat_map, Option, Ok, Err}
use Rattle.std.specs.Prelude.{codes, decimal}
use Rattle.std.specs.List.{AllZip}
use Rattle.std.specs.Option.{option_copied}
use Rattle.std.specs.String.{string_bytes}
use Rattle.std.specs.Io.KnownBytes.{Appends, Keeps}
use Rattle.dns_names.specs.Text.{printed_name}
use Rattle.dns_records.specs.Record.{Record, serial_of}
use Rattle.dns_zone.specs.Zone.{Zone, soas}
use Rattle.dns_layout.specs.Sector.{snapshot_sectors}
use Rattle.dns_store.specs.Plain.{octets_of}
use Rattle.dns_configuration.specs.declared.configuration.ZoneSettings.{ZoneSettings}
use Rattle.dns_configuration.specs.declared.configuration.Configuration.{Configuration}
use Rattle.dns_configuration.specs.declared.files.File.{File}
use Rattle.dns_configuration.specs.declared.files.Fault.{Fault}
use Rattle.dns_configuration.specs.Faults.{fault_text, line}
use Rattle.dns_configuration.specs.Files.{HoldsConfiguration, IsFirstFault, IsLoadedFrom}
use Rattle.dns_devices.specs.declared.device_faults.DeviceFault.TheVariants.{ZoneTooLarge}
use Rattle.dns_devices.specs.DeviceFaults.{device_text}

-- A snapshot of the zone has room in the sectors that are configured for it.
abbrev pub sectors_taken : Zone → ℕ
sectors_taken zone = snapshot_sectors (octets_of zone.records)

abbrev pub HasSectors : ZoneSettings → Zone → Type 0
HasSectors own zone = sectors_taken zone ≤ own.snapshot_sectors

-- The first zone, in order, that has none, and the path of its device.
abbrev pub IsFirstTooLarge : List ZoneSettings → List Zone → List ℕ → Type 0
IsFirstTooLarge (own ∷ settings) (zone ∷ zones) path =
    ((path ≡ string_bytes own.device) × (own.snapshot_sectors < sectors_taken zone))
    ⊎ (HasSectors own zone × IsFirstTooLarge settings zones path)
IsFirstTooLarge _ _ path = ⊥

-- What is printed of a zone: its name, how many records it has, and the serial of its SOA.
abbrev pub good_text : Zone → Record → List ℕ
good_text zone soa =
    printed_name zone.apex ++ codes " ok " ++ decimal (length zone.records) ++ codes " records serial "
    ++ decimal (serial_of soa)

abbrev pub good_line : Zone → List ℕ
good_line zone = flat_map (λ soa. line (good_text zone soa)) (soas zone.records)

-- The first fault of a configuration, of a master file in the order of the zones, or of a zone that has no
-- room, and the text that says so.
abbrev pub IsConfigurationFault : File → List File → Bool → List ℕ → Type 0
IsConfigurationFault config files explain text =
    ((fault : Fault) × HoldsConfiguration (option_copied config.octets) (Err fault)
    × (text ≡ fault_text config.path.now fault))
    ⊎ ((c : Configuration) × HoldsConfiguration (option_copied config.octets) (Ok c)
    × (((path : List ℕ) × (fault : Fault) × IsFirstFault files c.zones.items path fault
    × (text ≡ fault_text path fault))
    ⊎ ((zones : List Zone) × AllZip (IsLoadedFrom files) c.zones.items zones
    × (path : List ℕ) × IsFirstTooLarge c.zones.items zones path
    × (text ≡ device_text path ZoneTooLarge explain))))

-- How the check of a configuration ends. With status 3 a writer failed or memory was refused.
pub record ConfigurationCheckEnds (config : File) (files : List File) (explain : Bool)
    (out out_after err err_after : Option (List ℕ)) (status : ℕ) : Type 0 where
  pub done : status ≡ 0
      → (c : Configuration) × HoldsConfiguration (option_copied config.octets) (Ok c)
      × (zones : List Zone) × AllZip (IsLoadedFrom files) c.zones.items zones
      × AllZip HasSectors c.zones.items zones
      × Appends out out_after (flat_map good_line zones) × Keeps err err_after
  pub refused : status ≡ 1
      → (text : List ℕ) × IsConfigurationFault config files explain text
      × Appends err err_after (line text) × Keeps out out_after
  pub others : status ≤ 1 ⊎ (status ≡ 3)
