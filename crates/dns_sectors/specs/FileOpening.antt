-- Why a file is no device.
use Rattle.std.specs.Prelude.{◌≡◌, ◌≢◌, ◌%◌, ℕ, Result, Ok, Err}
use Rattle.dns_sectors.specs.declared.file.FileError.{FileError}
use Rattle.dns_sectors.specs.declared.file_device.OpenDeviceError.{OpenDeviceError}
use Rattle.dns_sectors.specs.declared.file_device.OpenDeviceError.TheVariants.{Device, Geometry}

-- It did not report its length; or it reported one that is no multiple of 512.
abbrev pub IsNoDevice : (Result ℕ FileError → Type 0) → OpenDeviceError → Type 0
IsNoDevice measured Device = (e : FileError) × measured (Err e)
IsNoDevice measured Geometry = (len : ℕ) × measured (Ok len) × (len % 512 ≢ 0)
