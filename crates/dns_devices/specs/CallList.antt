-- A list of calls in memory.
use Rattle.std.specs.Prelude.{List, Option}
use Rattle.std.specs.Option.{option_map}
use Rattle.dns_devices.specs.declared.call_list.CallList.{CallList}

-- Those that are in it, unless it was lost.
abbrev pub calls_in : {C A : Type 0} → CallList C A → Option (List C)
calls_in list = option_map (λ calls. calls.items) list.calls
