-- How a run that shows the zone of a device ends.
use Rattle.std.specs.Prelude.{◌≡◌, ◌⊎◌, ◌≤◌, ℕ, List}
use Rattle.std.specs.String.{string_bytes}
use Rattle.std.specs.Io.KnownBytes.{Appends, Keeps}
use Rattle.dns_zone.specs.Zone.{Zone}
use Rattle.dns_sectors.specs.declared.device.Sectors.{Ghosts}
use Rattle.dns_masterfile.specs.Printed.{printed_zone}
use Rattle.dns_configuration.specs.declared.configuration.ZoneSettings.{ZoneSettings}
use Rattle.dns_configuration.specs.declared.files.File.{File}
use Rattle.dns_configuration.specs.Faults.{line}
use Rattle.dns_devices.specs.declared.device_faults.DeviceFault.{DeviceFault}
use Rattle.dns_devices.specs.DeviceFaults.{device_text, status_of}
use Rattle.dns_devices.specs.DeviceCalls.{DeviceCall}
use Rattle.dns_devices.specs.Stores.{IsDumped, IsLookedInto, IsNotShown}
use Rattle.dns_commands.specs.Frame.{Ended, EndsForNamed}

-- How the showing of a device ends: its zone is printed, or its error is reported. With status 3 the device
-- can't be had, a writer failed or memory was refused. The calls are the same however it ends.
pub record ShowingEnds {D : Type 0} (g : Ghosts D) (own : ZoneSettings) (e : Ended (DeviceCall D))
    : Type 0 where
  pub done : e.status ≡ 0
      → (zone : Zone) × IsDumped g e.calls own zone
      × Appends e.out e.out_after (printed_zone zone.records) × Keeps e.err e.err_after
  pub refused : e.status ≡ 1
      → (fault : DeviceFault) × IsNotShown g e.calls own fault × (status_of fault ≡ 1)
      × Appends e.err e.err_after (line (device_text (string_bytes own.device) fault e.explain))
      × Keeps e.out e.out_after
  pub others : e.status ≤ 1 ⊎ (e.status ≡ 3)
  pub called : IsLookedInto g e.calls own

-- How a run of `dump` ends. However it ends, nothing was done but to look into the device of the zone that is
-- named, if one was named.
abbrev pub DumpEnds : {D : Type 0} → Ghosts D → File → List ℕ → Ended (DeviceCall D) → Type 0
DumpEnds g config origin e = EndsForNamed config origin (ShowingEnds g) e
