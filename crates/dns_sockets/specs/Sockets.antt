-- The sockets of a server.
use Rattle.std.specs.Prelude.{◌≡◌, ℕ, List, Option, Some, None}
use Rattle.dns_primary.specs.declared.event.Peer.{Peer}
use Rattle.dns_network.specs.declared.datagrams.Datagrams.{Datagrams}
use Rattle.dns_sockets.specs.DatagramSockets.{sockets_of}
use Rattle.dns_sockets.specs.Listeners.{HaveAccepted, listeners_of}
use Rattle.dns_sockets.specs.Places.{place_number}
use Rattle.dns_sockets.specs.Socket.{HasNotMoved, socket_place, socket_stream}
use Rattle.dns_sockets.specs.declared.listeners.Listener.{Listener}
use Rattle.dns_sockets.specs.declared.socket.Socket.{Socket}
use Rattle.dns_sockets.specs.declared.sockets.Sockets.{Sockets}
use Rattle.dns_sockets.specs.declared.system.ListenerCalls as listener
use Rattle.dns_sockets.specs.declared.system.StreamCalls as stream
use Rattle.dns_sockets.specs.declared.udp.Udp.{Udp}

-- They were asked for a connection, and this one was handed over: its stream came to the listener of the
-- address that its peer connected to; or none came.
abbrev pub IsSocketGiven : {L T : Type 0} → listener.Ghosts L T → Option (Socket T × Peer)
    → List (Listener L) → List (Listener L) → Type 0
IsSocketGiven {L} {T} l None old new = HaveAccepted l None old new
IsSocketGiven {L} {T} l (Some one) old new =
    HaveAccepted l (Some (socket_stream one.0, one.1)) old new

module _ {C L : Type 0} where
  -- Those of datagrams, and those on which peers connect, by the indices of their addresses.
  abbrev pub datagrams_of : Sockets C L → List (Datagrams (Udp C))
  datagrams_of sockets = sockets_of sockets.datagrams

  abbrev pub connects_of : Sockets C L → List (Listener L)
  connects_of sockets = listeners_of sockets.listeners

  abbrev pub HasAccepted : {T : Type 0} → listener.Ghosts L T → Sockets C L → Option (Socket T × Peer)
      → Sockets C L → Type 0
  HasAccepted l old got new =
      (datagrams_of new ≡ datagrams_of old) × IsSocketGiven l got (connects_of old) (connects_of new)

  -- Nothing else changed, and the stream of a connection was let go, or is watched by this number; no octet
  -- moved on it.
  abbrev pub IsWatched : {T : Type 0} → stream.Ghosts T → Sockets C L → ℕ → Socket T → Option (Socket T)
      → Sockets C L → Type 0
  IsWatched s old number socket None new = new ≡ old
  IsWatched s old number socket (Some watched) new =
      (new ≡ old) × HasNotMoved s socket watched × (place_number (socket_place watched) ≡ Some number)
