-- How a run of a script over the zones of a configuration ends.
use Rattle.std.specs.Prelude.{◌≡◌, ◌⊎◌, ◌↔◌, IsTrue, ℕ, ◌≤◌, false, List, [], map, Option, Some, None, IsSome}
use Rattle.std.specs.Prelude.{Ok, Err}
use Rattle.std.specs.List.{AllZip}
use Rattle.std.specs.declared.net.ip_addr.IpAddr.{IpAddr}
use Rattle.std.specs.Option.{option_copied}
use Rattle.std.specs.Io.KnownBytes.{Appends, Keeps}
use Rattle.dns_zone.specs.Zone.{Zone}
use Rattle.dns_names.specs.Name.{Labels}
use Rattle.dns_policy.specs.Prefix.{IsAllowed}
use Rattle.dns_versions.specs.Each.{Each3}
use Rattle.dns_primary.specs.Machine.{Machine, ZoneState}
use Rattle.dns_primary.specs.Fresh.{IsFresh}
use Rattle.dns_primary.specs.Runs.{Run}
use Rattle.dns_configuration.specs.declared.configuration.ZoneSettings.{ZoneSettings}
use Rattle.dns_configuration.specs.declared.configuration.Configuration.{Configuration}
use Rattle.dns_configuration.specs.declared.files.File.{File}
use Rattle.dns_configuration.specs.declared.files.Fault.{Fault}
use Rattle.dns_configuration.specs.declared.files.Fault.TheVariants.{Unreadable, Syntax}
use Rattle.dns_replay.specs.declared.run.Ending.{Ending}
use Rattle.dns_replay.specs.declared.run.Ending.TheVariants as ending
use Rattle.dns_configuration.specs.Faults.{line, fault_text}
use Rattle.dns_configuration.specs.Files.{HoldsConfiguration, IsFirstFault, IsLoadedFrom}
use Rattle.dns_configuration.specs.Known.{IsSettingOf, origins_of}
use Rattle.dns_sectors.specs.Device.{Content}
use Rattle.dns_sectors.specs.declared.device.Sectors.{Ghosts}
use Rattle.dns_sectors.specs.declared.memory.Keep as told
use Rattle.dns_primary.specs.declared.primary.ZoneSpec as primary
use Rattle.dns_devices.specs.declared.device_faults.DeviceFault.TheVariants.{ZoneTooLarge}
use Rattle.dns_devices.specs.DeviceFaults.{device_text}
use Rattle.dns_replay.specs.Lines.{lines}
use Rattle.dns_replay.specs.Crashes.{IsCrash}
use Rattle.dns_replay.specs.Scripts.{Crash, Led, Runs, Takes}
use Rattle.dns_commands.specs.CheckConfiguration.{HasSectors, IsFirstTooLarge}

-- A zone as it was loaded, with what is configured of it: no update was accepted, its store was opened once,
-- and no sector of it was altered.
pub record IsFreshZone (settings : ZoneSettings) (zone : Zone) (z : ZoneState) : Type 0 where
  pub shape : z.setting.shape
      ≡ record { apex = zone.apex; snapshot = settings.snapshot_sectors; journal = settings.journal_sectors }
  pub keep : z.setting.keep ≡ settings.keep
  pub update : (a : IpAddr) → IsTrue (z.setting.may_update a) ↔ IsAllowed settings.update.items a
  pub transfer : (a : IpAddr) → IsTrue (z.setting.may_transfer a) ↔ IsAllowed settings.transfer.items a
  pub loaded : z.loaded ≡ zone.records
  pub shown : z.shown ≡ []
  pub staged : z.staged ≡ []
  pub base : z.base ≡ 0
  pub second : z.second ≡ None
  pub openings : z.openings ≡ 1
  pub altered : z.altered ≡ []
  pub opened : z.closed ≡ false

-- The machine of these zones, to which nothing has happened.
pub record Begins (settings : List ZoneSettings) (zones : List Zone) (m : Machine) : Type 0 where
  pub zones_are : Each3 IsFreshZone settings zones m.zones
  pub waiting : m.waiting ≡ []
  pub connections : m.connections ≡ []

-- The lines of a script lead there, from this machine on, by a run of the machine; and the run ends so.
abbrev pub RunsInto : List Labels → Crash → Machine → List (List ℕ) → Ending → Option (List ℕ)
    → Option (List ℕ) → Type 0
RunsInto origins crash m lines ending out out_after =
    (led : Led) × Runs origins crash (Takes m) 1 lines led ending × Run m led.moments
    × Appends out out_after led.text

abbrev pub Ran : List Labels → Crash → Machine → Ending → Option (List ℕ) → Option (List ℕ)
    → Option (List ℕ) → Type 0
Ran origins crash m ending None out out_after = ⊥
Ran origins crash m ending (Some octets) out out_after =
    RunsInto origins crash m (lines octets) ending out out_after

-- The script can't be read, which is reported.
abbrev pub IsUnreadTold : File → Option (List ℕ) → Option (List ℕ) → Type 0
IsUnreadTold script err err_after =
    (option_copied script.octets ≡ None)
    × Appends err err_after (line (fault_text script.path.now Unreadable))

-- The first zone that takes more sectors than its snapshots have is reported, by the path of its device.
abbrev pub IsTooLargeTold : List ZoneSettings → List Zone → Option (List ℕ) → Option (List ℕ) → Type 0
IsTooLargeTold settings zones err err_after =
    (path : List ℕ) × IsFirstTooLarge settings zones path
    × Appends err err_after (line (device_text path ZoneTooLarge false))

-- The first line that is no command is reported, after what the lines before it print; or a store is refused
-- after a crash, which is printed.
abbrev pub IsCutShort : List Labels → Crash → Machine → File → Option (List ℕ) → Option (List ℕ)
    → Option (List ℕ) → Option (List ℕ) → Type 0
IsCutShort origins crash m script out out_after err err_after =
    ((number : ℕ) × Ran origins crash m (ending.Syntax number) (option_copied script.octets) out out_after
    × Appends err err_after (line (fault_text script.path.now (Syntax number))))
    ⊎ (Ran origins crash m ending.Refused (option_copied script.octets) out out_after × Keeps err err_after)

-- How a run of a script over zones ends, by its exit status. With 0 each zone has room on its device, and
-- what all the lines print is printed. With 1 the script can't be read; or it can, and a zone is too large;
-- or none is, and a line ended the run. With 3 a writer or a device failed, or memory was refused.
pub record ScriptEnds (origins : List Labels) (crash : Crash) (settings : List ZoneSettings)
    (zones : List Zone) (m : Machine) (script : File) (out out_after err err_after : Option (List ℕ))
    (status : ℕ)
    : Type 0 where
  pub done : status ≡ 0
      → AllZip HasSectors settings zones
      × Ran origins crash m ending.Done (option_copied script.octets) out out_after × Keeps err err_after
  pub refused : status ≡ 1
      → (IsUnreadTold script err err_after × Keeps out out_after)
      ⊎ (IsSome (option_copied script.octets) × IsTooLargeTold settings zones err err_after
      × Keeps out out_after)
      ⊎ (AllZip HasSectors settings zones × IsCutShort origins crash m script out out_after err err_after)
  pub others : status ≤ 1 ⊎ (status ≡ 3)

-- From each machine of these zones to which nothing has happened the run of the script ends so.
abbrev pub EndsFromFresh : {D : Type 0} → Ghosts D → (D → told.Keep → Content) → List Zone
    → List primary.ZoneSpec → List ZoneSettings → File → Option (List ℕ) → Option (List ℕ) → Option (List ℕ)
    → Option (List ℕ) → ℕ → Type 0
EndsFromFresh g kept zones known own script out out_after err err_after status =
    (m : Machine)
    → IsFresh zones known m
    → ScriptEnds (map (λ (z : Zone). z.apex) zones)
    (IsCrash g kept (map (λ (z : Zone). z.apex) zones) known)
    own zones m script out out_after err err_after status

-- The zones of the configuration that a file holds, what a primary is told of each, and how a run of a script
-- ends that begins with them: there is a machine of these zones to which nothing has happened, and from each
-- such machine it ends so. A crash keeps of the pending writes on each device those that the script says.
pub record RunsOver {D : Type 0} (g : Ghosts D) (kept : D → told.Keep → Content) (config : Option (List ℕ))
    (files : List File) (script : File) (out out_after err err_after : Option (List ℕ)) (status : ℕ)
    : Type 0 where
  pub configuration : Configuration
  pub zones : List Zone
  pub described : HoldsConfiguration config (Ok configuration)
  pub loaded : AllZip (IsLoadedFrom files) configuration.zones.items zones
  pub known : List primary.ZoneSpec
  pub settings : AllZip IsSettingOf configuration.zones.items known
  pub begins : (m : Machine) × Begins configuration.zones.items zones m
  pub ends : (m : Machine)
      → Begins configuration.zones.items zones m
      → ScriptEnds (origins_of configuration.zones.items)
      (IsCrash g kept (origins_of configuration.zones.items) known)
      configuration.zones.items zones m script out out_after err err_after status

-- The fault that is reported, after a path, before the script runs: of the configuration, or else of the
-- first master file that holds no zone, in the order of the zones.
abbrev pub IsReplayFault : File → List File → List ℕ → Fault → Type 0
IsReplayFault config files path fault =
    ((path ≡ config.path.now) × HoldsConfiguration (option_copied config.octets) (Err fault))
    ⊎ ((c : Configuration) × HoldsConfiguration (option_copied config.octets) (Ok c)
    × IsFirstFault files c.zones.items path fault)

-- How a run with a configuration, files and a script ends: nothing runs, and the first fault is reported; or
-- the script ran over the zones that are held; or, with status 3, a writer or a device failed or memory was
-- refused.
abbrev pub ReplayEnds : {D : Type 0} → Ghosts D → (D → told.Keep → Content) → File → List File → File
    → Option (List ℕ) → Option (List ℕ) → Option (List ℕ) → Option (List ℕ) → ℕ → Type 0
ReplayEnds g kept config files script out out_after err err_after status =
    ((status ≡ 1) × Keeps out out_after
    × ((path : List ℕ) × (fault : Fault) × IsReplayFault config files path fault
    × Appends err err_after (line (fault_text path fault))))
    ⊎ RunsOver g kept (option_copied config.octets) files script out out_after err err_after status
    ⊎ (status ≡ 3)
