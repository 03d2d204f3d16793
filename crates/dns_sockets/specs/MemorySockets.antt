-- What sockets in memory have a record of.
use Rattle.std.specs.Prelude.{List, Option, map}
use Rattle.std.specs.Option.{option_map}
use Rattle.dns_devices.specs.CallList.{calls_in}
use Rattle.dns_sockets.specs.SystemCalls as system
use Rattle.dns_sockets.specs.SystemCalls.{Addressed, DatagramCall, ListenerCall}
use Rattle.dns_sockets.specs.declared.memory_sockets.Packet.{Packet}
use Rattle.dns_sockets.specs.declared.memory_sockets.PacketCall.{PacketCall}
use Rattle.dns_sockets.specs.declared.memory_sockets.PacketCall.TheVariants.{Received, Sent}
use Rattle.dns_sockets.specs.declared.memory_sockets.MemoryDatagrams.{MemoryDatagrams}
use Rattle.dns_sockets.specs.declared.memory_sockets.MemoryListener.{MemoryListener}

abbrev pub packet_of : Packet → Addressed
packet_of packet = (packet.octets.items, packet.address)

-- A call, as the list of a socket in memory has it.
abbrev pub packet_call : PacketCall → DatagramCall
packet_call (Received got) = system.RecvFrom (option_map packet_of got)
packet_call (Sent packet) = system.SendTo (packet_of packet)

abbrev pub packet_calls : MemoryDatagrams → Option (List DatagramCall)
packet_calls socket = option_map (λ calls. map packet_call calls) (calls_in socket.calls)

abbrev pub accepts_of : {T : Type 0} → MemoryListener T → Option (List (ListenerCall T))
accepts_of listener = option_map (λ calls. map (λ got. system.Accept got) calls) (calls_in listener.calls)
