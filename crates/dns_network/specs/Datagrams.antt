-- Datagrams that are read ahead, and that are held back before they are sent.
use Rattle.std.specs.Prelude.{◌≡◌, ◌⊎◌, ◌++◌, ℕ, List, [], ◌∷◌, Some, None, take}
use Rattle.dns_primary.specs.declared.event.Peer.{Peer}
use Rattle.dns_network.specs.declared.datagram_socket.DatagramSocket.{Ghosts}
use Rattle.dns_network.specs.declared.datagrams.Datagrams.{Datagrams}
use Rattle.dns_network.specs.declared.datagrams.Datagram.{Datagram as Place}
use Rattle.dns_network.specs.Steps.{AreSteps}

-- Octets, and the peer from which they came or to which they go.
abbrev pub Datagram : Type 0
Datagram = List ℕ × Peer

-- the one that is stored in a place
abbrev pub stands_in : Place → Datagram
stands_in d = (take d.count d.octets, d.peer)

module _ {S : Type 0} where
  abbrev pub socket_of : Datagrams S → S
  socket_of d = d.socket

  -- the datagrams that were read and not handed over yet
  abbrev pub arrived_of : Datagrams S → List Datagram
  arrived_of d = d.arrived

  -- those that are to be sent
  abbrev pub leaving_of : Datagrams S → List Datagram
  leaving_of d = d.leaving

  -- these came by a socket, one after the other
  abbrev pub HaveCome : Ghosts S → List Datagram → S → S → Type 0
  HaveCome s = AreSteps (λ old one new. s.receives old (Some one) new)

  -- these were handed to it
  abbrev pub HaveGone : Ghosts S → List Datagram → S → S → Type 0
  HaveGone s = AreSteps (λ old one new. s.sends old one new)

  -- A socket was asked for datagrams, and these came; if it was asked once more, none had come.
  abbrev pub AreRead : Ghosts S → List Datagram → S → S → Type 0
  AreRead s came old new =
      (asked : S) × HaveCome s came old asked × ((new ≡ asked) ⊎ s.receives asked None new)

  -- All that was to be sent was handed to the socket, in its order, and nothing else changed.
  pub record AllHaveGone (s : Ghosts S) (old new : Datagrams S) : Type 0 where
    pub sent : HaveGone s (leaving_of old) (socket_of old) (socket_of new)
    pub leaving : leaving_of new ≡ []
    pub arrived : arrived_of new ≡ arrived_of old

  -- A datagram was put after those that are to be sent, of which then the first were sent.
  pub record IsLeaving (s : Ghosts S) (one : Datagram) (old new : Datagrams S) : Type 0 where
    pub gone : List Datagram
    pub sent : HaveGone s gone (socket_of old) (socket_of new)
    pub leaving : leaving_of old ++ one ∷ [] ≡ gone ++ leaving_of new
    pub arrived : arrived_of new ≡ arrived_of old

  -- One was handed over, the first of those that had arrived and of those that came now; what was to be sent
  -- may have been sent first.
  pub record IsHandedOver (s : Ghosts S) (one : Datagram) (old new : Datagrams S) : Type 0 where
    pub gone : List Datagram
    pub came : List Datagram
    pub between : S
    pub sent : HaveGone s gone (socket_of old) between
    pub read : AreRead s came between (socket_of new)
    pub leaving : leaving_of old ≡ gone ++ leaving_of new
    pub arrived : arrived_of old ++ came ≡ one ∷ arrived_of new

  -- None had arrived, all that was to be sent was sent, and then the socket was asked, and none had come.
  pub record NoneHasCome (s : Ghosts S) (old new : Datagrams S) : Type 0 where
    pub between : S
    pub sent : HaveGone s (leaving_of old) (socket_of old) between
    pub asked : s.receives between None (socket_of new)
    pub leaving : leaving_of new ≡ []
    pub none : arrived_of old ≡ []
    pub arrived : arrived_of new ≡ []
