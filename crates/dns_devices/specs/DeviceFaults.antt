-- What is wrong with a device, and how it is reported.
use Rattle.std.specs.Prelude.{◌≡◌, ◌⊎◌, ℕ, Bool, true, false, List, ◌++◌, Option, codes, decimal}
use Rattle.std.specs.Prelude.{if◌then◌else◌}
use Rattle.std.specs.Bool.{MatchBool}
use Rattle.std.specs.Io.KnownBytes.{Appends}
use Rattle.dns_sectors.specs.declared.device.Sectors.{Ghosts}
use Rattle.dns_sectors.specs.declared.file_device.OpenDeviceError.{OpenDeviceError}
use Rattle.dns_sectors.specs.declared.file_device.OpenDeviceError.TheVariants as unopened
use Rattle.dns_layout.specs.Sector.{sector_at, tag, root_tag_in}
use Rattle.dns_layout.specs.declared.format.Format.TheVariants.{One}
use Rattle.dns_journal.specs.Reads.{HasRisen}
use Rattle.dns_store.specs.declared.formatting.FormatError.{FormatError}
use Rattle.dns_store.specs.declared.formatting.FormatError.TheVariants as unmade
use Rattle.dns_store.specs.declared.root.OpenError.{OpenError}
use Rattle.dns_store.specs.declared.root.OpenError.TheVariants as refused
use Rattle.dns_store.specs.declared.migrating.MigrateError.{MigrateError}
use Rattle.dns_store.specs.declared.migrating.MigrateError.TheVariants as unmigrated
use Rattle.dns_configuration.specs.Faults.{line, printed_word}
use Rattle.dns_devices.specs.declared.device_faults.DeviceFault.{DeviceFault}
use Rattle.dns_devices.specs.declared.device_faults.DeviceFault.TheVariants.{Exists, Device, Blank, Damaged}
use Rattle.dns_devices.specs.declared.device_faults.DeviceFault.TheVariants.{OldFormat, Geometry}
use Rattle.dns_devices.specs.declared.device_faults.DeviceFault.TheVariants.{ZoneTooLarge}
use Rattle.dns_devices.specs.declared.device_faults.DeviceFault.TheVariants.{SerialNotRaised, NoRoom}
use Rattle.dns_devices.specs.declared.device_faults.DeviceFault.TheVariants.{OutOfMemory}

-- Why the device is not opened.
abbrev pub fault_of_device : OpenDeviceError → DeviceFault
fault_of_device unopened.Device = Device
fault_of_device unopened.Geometry = Geometry

-- A refusal of the store, as one of its device.
abbrev pub fault_of_format : FormatError → DeviceFault
fault_of_format unmade.Device = Device
fault_of_format unmade.Geometry = Geometry
fault_of_format unmade.ZoneTooLarge = ZoneTooLarge
fault_of_format unmade.OutOfMemory = OutOfMemory

abbrev pub fault_of_open : OpenError → DeviceFault
fault_of_open refused.Device = Device
fault_of_open refused.Blank = Blank
fault_of_open (refused.Damaged sector) = Damaged sector
fault_of_open refused.Geometry = Geometry
fault_of_open refused.OutOfMemory = OutOfMemory

abbrev pub fault_of_migrate : MigrateError → DeviceFault
fault_of_migrate unmigrated.Device = Device
fault_of_migrate unmigrated.Blank = Blank
fault_of_migrate (unmigrated.Damaged sector) = Damaged sector
fault_of_migrate unmigrated.Geometry = Geometry
fault_of_migrate unmigrated.ZoneTooLarge = ZoneTooLarge
fault_of_migrate unmigrated.OutOfMemory = OutOfMemory

-- The device's first sector has the tag of a root of format 1.
abbrev pub HasOldRoot : {D : Type 0} → Ghosts D → D → Type 0
HasOldRoot g device = tag (sector_at (g.seen device) 0) ≡ root_tag_in One

-- The fault of a device that was handed back when its store was refused: that of the refusal; but where the
-- store was refused for its first sector, `OldFormat` exactly if a root of format 1 is there, and `Device`
-- where the device failed when that was asked. The second device is the first one after that.
abbrev pub IsFaultOf : {D : Type 0} → Ghosts D → OpenError → D → D → DeviceFault → Type 0
IsFaultOf g error device after fault =
    ((fault ≡ fault_of_open error)
    × (error ≡ refused.Damaged 0 → g.is_honest device → HasOldRoot g device → ⊥))
    ⊎ ((error ≡ refused.Damaged 0)
    × (((fault ≡ OldFormat) × (g.is_honest device → HasOldRoot g device))
    ⊎ ((fault ≡ Device) × HasRisen (g.failed device) (g.failed after))))

-- The name of each fault, and what can be done about it.
abbrev pub device_word : DeviceFault → List ℕ
device_word Exists = codes "Exists"
device_word Device = codes "Device"
device_word Blank = codes "Blank"
device_word (Damaged sector) = codes "Damaged(" ++ decimal sector ++ codes ")"
device_word OldFormat = codes "OldFormat"
device_word Geometry = codes "Geometry"
device_word ZoneTooLarge = codes "ZoneTooLarge"
device_word SerialNotRaised = codes "SerialNotRaised"
device_word NoRoom = codes "NoRoom"
device_word OutOfMemory = codes "OutOfMemory"

abbrev pub advice : DeviceFault → List ℕ
advice Exists = codes "init makes new files alone; move the file away, or serve it"
advice Device =
    codes "the file is missing, may not be read and written, is held by another process, or failed"
advice Blank = codes "no store was ever made in the file, or making it was stopped; move it away and run init"
advice (Damaged sector) = codes
    "that sector is not what was written there; a copy of the file, or its master file and init, restores it"
advice OldFormat = codes "the file was made in an older sector format; migrate makes it new"
advice Geometry =
    codes "the file is cut, or was made for another zone or with other snapshot_sectors or journal_sectors"
advice ZoneTooLarge =
    codes "the zone takes more sectors than snapshot_sectors allows; a sector holds 480 octets of records"
advice SerialNotRaised =
    codes "the file's serial is not greater than that of the newest version; raise it in its SOA"
advice NoRoom =
    codes "the next version takes more than snapshot_sectors or journal_sectors, or has no number"
advice OutOfMemory = codes "memory was refused"

-- Memory was refused, of which nothing is reported.
abbrev pub is_memory_fault : DeviceFault → Bool
is_memory_fault OutOfMemory = true
is_memory_fault _ = false

-- The exit status: 3 where the device can't be had, and else 1.
abbrev pub status_of : DeviceFault → ℕ
status_of Device = 3
status_of OutOfMemory = 3
status_of _ = 1

-- What is reported: the path and the fault, and in a second line, if it is wanted, what can be done.
abbrev pub device_text : List ℕ → DeviceFault → Bool → List ℕ
device_text path fault explain =
    if explain
    then printed_word path ++ codes ": " ++ device_word fault ++ codes "\n" ++ printed_word path
    ++ codes ": " ++ advice fault
    else printed_word path ++ codes ": " ++ device_word fault

-- How a run that met a fault goes on: of refused memory nothing is reported; else the fault is, and the
-- status is that of the fault.
abbrev pub IsDeviceTold : List ℕ → DeviceFault → Bool → Option (List ℕ) → Option (List ℕ) → ℕ → Type 0
IsDeviceTold path fault explain err err_after status =
    MatchBool (is_memory_fault fault) (status ≡ 3)
    ((status ≡ status_of fault) × Appends err err_after (line (device_text path fault explain)))
