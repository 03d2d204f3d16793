-- The files that a run reads.
use Rattle.std.specs.Prelude.{◌≡◌, ◌⊎◌, ℕ, false, List, [], map, Option, Some, None, Ok, Err, Result, find}
use Rattle.std.specs.Prelude.{MatchResult, bytes_eq, take}
use Rattle.std.specs.Option.{option_copied, option_map}
use Rattle.std.specs.Prelude.{String, Vec}
use Rattle.std.specs.Global.{Global}
use Rattle.std.specs.String.{string_bytes}
use Rattle.dns_names.specs.Name.{Labels}
use Rattle.dns_names.specs.Text.{name_of_text}
use Rattle.dns_names.specs.declared.NameError.{NameError as StatedError}
use Rattle.dns_configuration.specs.declared.configuration.Configuration.{Configuration}
use Rattle.dns_configuration.specs.declared.configuration.ZoneSettings.{ZoneSettings}
use Rattle.dns_configuration.specs.declared.files.File.{File}
use Rattle.dns_configuration.specs.declared.files.Fault.{Fault}
use Rattle.dns_configuration.specs.declared.files.Fault.TheVariants.{BadOrigin}
use Rattle.dns_configuration.specs.Faults.{is_memory}
use Rattle.dns_configuration.specs.Files.{HoldsConfiguration}
use Rattle.dns_configuration.specs.Named.{zone_configured}

-- The paths of the master files of zones.
abbrev pub file_paths : List ZoneSettings → List (List ℕ)
file_paths zones = map (λ (z : ZoneSettings). string_bytes z.file) zones

-- These are the paths of the master files of the configuration that a file holds; none where it holds none,
-- for a fault that is no refused memory.
abbrev pub AreFilesOf : Option (List ℕ) → List (List ℕ) → Type 0
AreFilesOf config paths =
    ((c : Configuration) × HoldsConfiguration config (Ok c) × (paths ≡ file_paths c.zones.items))
    ⊎ ((fault : Fault) × HoldsConfiguration config (Err fault) × (is_memory fault ≡ false) × (paths ≡ []))

-- The first of these files that has the path of a zone's master file; none of no zone.
abbrev pub file_of_zone : List File → Option ZoneSettings → Option File
file_of_zone files None = None
file_of_zone files (Some own) = find (λ (f : File). bytes_eq f.path.now (string_bytes own.file)) files

-- The one that is found for the configuration's zone of that name.
abbrev pub IsZoneFile : File → List File → List ℕ → Option File → Type 0
IsZoneFile config files origin found =
    (c : Configuration) × (name : Labels) × HoldsConfiguration (option_copied config.octets) (Ok c)
    × (name_of_text [] origin ≡ Ok name) × (found ≡ file_of_zone files (zone_configured name c.zones.items))

-- Why none can be looked for: the configuration is refused, or the text is no name.
abbrev pub IsNoZoneFile : File → List ℕ → Fault → Type 0
IsNoZoneFile config origin fault =
    HoldsConfiguration (option_copied config.octets) (Err fault)
    ⊎ ((e : StatedError) × (name_of_text [] origin ≡ Err e) × (fault ≡ BadOrigin))

-- A file that was read: its path, and its octets if it could be read.
abbrev pub Input : Type 0
Input = List ℕ × Option (List ℕ)

-- The octets that a file was found to have.
abbrev pub octets_held : Option (Vec ℕ Global) → Option (List ℕ)
octets_held octets = option_map (λ (v : Vec ℕ Global). v.items) octets

abbrev pub octets_read : {E : Type 0} → Result (Option (Vec ℕ Global)) E → Option (List ℕ)
octets_read (Ok octets) = octets_held octets
octets_read (Err error) = None

-- Files that were read, each with its path.
abbrev pub inputs_of : List (String Global × Option (Vec ℕ Global)) → List Input
inputs_of files =
    map (λ (f : String Global × Option (Vec ℕ Global)). (string_bytes f.0, octets_held f.1)) files

-- These files are all that was read, and of their paths P holds; or memory was refused, and Q holds.
abbrev pub ReadsFiles : {X : Type 0} → List Input
    → Result (Vec (String Global × Option (Vec ℕ Global)) Global) X → (List (List ℕ) → Type 0) → Type 0
    → Type 0
ReadsFiles reads ended P Q =
    MatchResult ended
    (λ files. (reads ≡ inputs_of files.items)
    × P (map (λ (f : String Global × Option (Vec ℕ Global)). string_bytes f.0) files.items))
    (λ _. Q)

-- The master files of the first zones were read, in their order.
abbrev pub AreFirstFiles : List ZoneSettings → List Input → Type 0
AreFirstFiles zones reads =
    (count : ℕ) × (map (λ (r : Input). r.0) reads ≡ file_paths (take count zones))

-- No file was read, or those of the first zones of the configuration that a file holds.
abbrev pub AreFirstOf : Option (List ℕ) → List Input → Type 0
AreFirstOf config reads =
    (reads ≡ [])
    ⊎ ((c : Configuration) × HoldsConfiguration config (Ok c) × AreFirstFiles c.zones.items reads)

-- A file as it was read.
pub record IsInput (file : File) (read : Input) : Type 0 where
  pub path : file.path.now ≡ read.0
  pub octets : option_copied file.octets ≡ read.1
