-- The calls on devices by their paths.
use Rattle.std.specs.Prelude.{ℕ, Bool, List, Result}
use Rattle.dns_sectors.specs.declared.device.DeviceError.{DeviceError}
use Rattle.dns_sectors.specs.declared.file_device.OpenDeviceError.{OpenDeviceError}

-- A call, by the path, with what it was given and what it answered.
pub data DeviceCall (D : Type 0) : Type 0 where
  Opened : List ℕ → Result D OpenDeviceError → DeviceCall D
  Closed : List ℕ → D → DeviceCall D
  Asked : List ℕ → Result Bool DeviceError → DeviceCall D
  Made : List ℕ → ℕ → Result D DeviceError → DeviceCall D
  Removed : List ℕ → DeviceCall D
