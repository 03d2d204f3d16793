-- How a run ends that makes the records of a zone's master file the next version of its store.
use Rattle.std.specs.Prelude.{◌≡◌, ◌⊎◌, ◌≤◌, ℕ, Bool, List, [], ◌++◌, Err, codes, decimal}
use Rattle.std.specs.String.{string_bytes}
use Rattle.std.specs.Io.KnownBytes.{Appends, Keeps}
use Rattle.dns_names.specs.Text.{printed_name}
use Rattle.dns_zone.specs.Zone.{Zone}
use Rattle.dns_sectors.specs.declared.device.Sectors.{Ghosts}
use Rattle.dns_configuration.specs.declared.configuration.ZoneSettings.{ZoneSettings}
use Rattle.dns_configuration.specs.declared.files.File.{File}
use Rattle.dns_configuration.specs.declared.files.Fault.{Fault}
use Rattle.dns_configuration.specs.Faults.{fault_text, line}
use Rattle.dns_configuration.specs.Files.{IsLoadedFrom, loaded_by}
use Rattle.dns_devices.specs.declared.device_faults.DeviceFault.{DeviceFault}
use Rattle.dns_devices.specs.declared.device_faults.DeviceFault.TheVariants.{SerialNotRaised}
use Rattle.dns_commands.specs.declared.next_version.Loaded.{Loaded}
use Rattle.dns_commands.specs.declared.next_version.Loaded.TheVariants.{Already, Next}
use Rattle.dns_devices.specs.DeviceFaults.{device_text, status_of}
use Rattle.dns_devices.specs.DeviceCalls.{DeviceCall}
use Rattle.dns_commands.specs.Frame.{Ended, EndsForNamed}
use Rattle.dns_commands.specs.Load.{IsLoadTried, IsLoadedAs, IsNotLoaded}

-- What is printed of the records of a file that were loaded: the number of their version and their serial,
-- and how many records came and how many went.
abbrev pub loaded_text : ZoneSettings → ℕ → ℕ → List ℕ
loaded_text own version serial =
    codes "loaded " ++ printed_name own.origin ++ codes " version " ++ decimal version ++ codes " serial "
    ++ decimal serial

abbrev pub difference_line : ℕ → ℕ → List ℕ
difference_line added removed =
    line (codes ", " ++ decimal added ++ codes " added, " ++ decimal removed ++ codes " removed")

abbrev pub loaded_line : ZoneSettings → Loaded → List ℕ
loaded_line own Already = line (printed_name own.origin ++ codes " already")
loaded_line own (Next version serial added removed) =
    loaded_text own version serial ++ difference_line added removed

-- What a fault is of: a serial is the master file's, and all else the device's.
abbrev pub path_blamed : ZoneSettings → DeviceFault → List ℕ
path_blamed own SerialNotRaised = string_bytes own.file
path_blamed own _ = string_bytes own.device

-- The zone's master file holds these records, and they were loaded, with this answer.
pub record IsFileLoaded {D : Type 0} (g : Ghosts D) (calls : List (DeviceCall D)) (own : ZoneSettings)
    (files : List File) (answer : Loaded) : Type 0 where
  pub zone : Zone
  pub read : IsLoadedFrom files own zone
  pub loaded : IsLoadedAs g calls own zone.records answer

-- Why a zone's master file was not loaded, and the text that says so: it holds no zone; or it holds these
-- records, and the device or the records were refused.
abbrev pub IsFileRefused : {D : Type 0} → Ghosts D → List (DeviceCall D) → ZoneSettings → List File → Bool
    → List ℕ → Type 0
IsFileRefused g calls own files explain text =
    ((fault : Fault) × (loaded_by files own ≡ Err fault) × (text ≡ fault_text (string_bytes own.file) fault))
    ⊎ ((zone : Zone) × (fault : DeviceFault) × IsLoadedFrom files own zone
    × IsNotLoaded g calls own zone.records fault × (status_of fault ≡ 1)
    × (text ≡ device_text (path_blamed own fault) fault explain))

-- The calls of a load: none, or those of one of the records of the zone's master file.
abbrev pub IsFileLoadTried : {D : Type 0} → Ghosts D → List (DeviceCall D) → List File → ZoneSettings → Type 0
IsFileLoadTried g calls files own =
    (calls ≡ []) ⊎ ((zone : Zone) × IsLoadedFrom files own zone × IsLoadTried g calls own zone.records)

-- How the loading of a zone's master file ends. With status 3 the device can't be had, a writer failed or
-- memory was refused.
pub record LoadingEnds {D : Type 0} (g : Ghosts D) (files : List File) (own : ZoneSettings)
    (e : Ended (DeviceCall D))
    : Type 0 where
  pub done : e.status ≡ 0
      → (answer : Loaded) × IsFileLoaded g e.calls own files answer
      × Appends e.out e.out_after (loaded_line own answer) × Keeps e.err e.err_after
  pub refused : e.status ≡ 1
      → (text : List ℕ) × IsFileRefused g e.calls own files e.explain text
      × Appends e.err e.err_after (line text) × Keeps e.out e.out_after
  pub others : e.status ≤ 1 ⊎ (e.status ≡ 3)
  pub called : IsFileLoadTried g e.calls files own

-- How a run of `load` ends. However it ends, nothing was done but to load the file of the zone that is named
-- into its device.
abbrev pub LoadEnds : {D : Type 0} → Ghosts D → File → List File → List ℕ → Ended (DeviceCall D) → Type 0
LoadEnds g config files origin e = EndsForNamed config origin (LoadingEnds g files) e
