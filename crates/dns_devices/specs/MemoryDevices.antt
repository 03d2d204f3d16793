-- What devices in memory have a record of.
use Rattle.std.specs.Prelude.{List, Option, map}
use Rattle.std.specs.Option.{option_map}
use Rattle.std.specs.String.{string_bytes}
use Rattle.dns_devices.specs.CallList.{calls_in}
use Rattle.dns_devices.specs.DeviceCalls as call
use Rattle.dns_devices.specs.DeviceCalls.{DeviceCall}
use Rattle.dns_devices.specs.declared.memory_devices.KeptCall.{KeptCall}
use Rattle.dns_devices.specs.declared.memory_devices.KeptCall.TheVariants.{Asked, Closed, Made, Opened}
use Rattle.dns_devices.specs.declared.memory_devices.KeptCall.TheVariants.{Removed}
use Rattle.dns_devices.specs.declared.memory_devices.MemoryDevices.{MemoryDevices}

-- A call, as their list has it.
abbrev pub call_of : {D : Type 0} → KeptCall D → DeviceCall D
call_of (Opened path answer) = call.Opened (string_bytes path) answer
call_of (Closed path device) = call.Closed (string_bytes path) device
call_of (Asked path answer) = call.Asked (string_bytes path) answer
call_of (Made path len answer) = call.Made (string_bytes path) len answer
call_of (Removed path) = call.Removed (string_bytes path)

abbrev pub calls_of : {D : Type 0} → MemoryDevices D → Option (List (DeviceCall D))
calls_of devices = option_map (λ calls. map call_of calls) (calls_in devices.calls)
