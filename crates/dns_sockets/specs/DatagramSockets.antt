-- The sockets of datagrams of a server, one on each of its addresses.
use Rattle.std.specs.Prelude.{◌≡◌, ◌<◌, ◌++◌, ◌∷◌, [], ℕ, nat_eq, List, Option, Some, None, All, filter}
use Rattle.std.specs.Prelude.{length, slice_get}
use Rattle.dns_network.specs.Datagrams.{Datagram, arrived_of, socket_of}
use Rattle.dns_network.specs.declared.datagrams.Datagrams.{Datagrams}
use Rattle.dns_sockets.specs.Udp.{HasCarried, local_of}
use Rattle.dns_sockets.specs.declared.system.DatagramCalls.{Ghosts}
use Rattle.dns_sockets.specs.declared.udp.Udp.{Udp}
use Rattle.dns_sockets.specs.declared.datagram_sockets.DatagramSockets.{DatagramSockets}

-- Those whose peers sent to the address with this index.
abbrev pub of_address : ℕ → List Datagram → List Datagram
of_address local datagrams = filter (λ one. nat_eq one.1.local local) datagrams

module _ {C : Type 0} where
  abbrev pub sockets_of : DatagramSockets C → List (Datagrams (Udp C))
  sockets_of all = all.sockets.items

  -- A socket is on the address with this index, and what has arrived by it was sent to that address.
  pub record IsOn (local : ℕ) (socket : Datagrams (Udp C)) : Type 0 where
    pub itself : local_of (socket_of socket) ≡ local
    pub arrived : All (λ one. one.1.local ≡ local) (arrived_of socket)

  -- Each socket is on the address with its own index.
  abbrev pub AreInOrder : List (Datagrams (Udp C)) → Type 0
  AreInOrder sockets =
      (local : ℕ) (socket : Datagrams (Udp C)) → slice_get sockets local ≡ Some socket → IsOn local socket

  -- These were given to the sockets to be sent, and these were handed over by them: each by the socket of the
  -- address that its peer sent to, and by no other. Each that was handed over was sent to such an address.
  pub record HaveCarried (c : Ghosts C) (given handed : List Datagram) (old new : List (Datagrams (Udp C)))
      : Type 0 where
    pub count : length new ≡ length old
    pub there : All (λ one. one.1.local < length old) handed
    pub each : (local : ℕ) (before after : Datagrams (Udp C)) → slice_get old local ≡ Some before
        → slice_get new local ≡ Some after
        → HasCarried c (of_address local given) (of_address local handed) before after

  -- They were asked for a datagram, and none came, or this one, cut off where the buffer ends.
  abbrev pub HaveBrought : Ghosts C → List (Datagrams (Udp C)) → Option Datagram → List (Datagrams (Udp C))
      → Type 0
  HaveBrought c old None new = HaveCarried c [] [] old new
  HaveBrought c old (Some one) new =
      AreInOrder old → (rest : List ℕ) × HaveCarried c [] ((one.0 ++ rest, one.1) ∷ []) old new
