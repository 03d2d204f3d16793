-- What is known of the stream of a connection.
use Rattle.std.specs.Prelude.{◌≡◌}
use Rattle.dns_sockets.specs.declared.readiness.Place.{Place}
use Rattle.dns_sockets.specs.declared.socket.Socket.{Socket}
use Rattle.dns_sockets.specs.declared.system.StreamCalls.{Ghosts}

abbrev pub socket_stream : {T : Type 0} → Socket T → T
socket_stream socket = socket.stream

abbrev pub socket_place : {T : Type 0} → Socket T → Place
socket_place socket = socket.slot

-- No octet moved on it.
pub record HasNotMoved {T : Type 0} (s : Ghosts T) (old new : Socket T) : Type 0 where
  pub received : s.received (socket_stream new) ≡ s.received (socket_stream old)
  pub sent : s.sent (socket_stream new) ≡ s.sent (socket_stream old)
