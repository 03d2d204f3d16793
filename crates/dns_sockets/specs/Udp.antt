-- Datagrams that pass a socket of an address.
use Rattle.std.specs.Prelude.{◌≡◌, ◌++◌, ◌∷◌, [], ℕ, Bool, List, Option, Some, None}
use Rattle.std.specs.List.{AllZip}
use Rattle.dns_configuration.specs.Calls.{HasCalled}
use Rattle.dns_network.specs.Datagrams.{Datagram, arrived_of, leaving_of, socket_of}
use Rattle.dns_network.specs.declared.datagrams.Datagrams.{Datagrams}
use Rattle.dns_sockets.specs.Peers.{IsAddressOf, IsPeerOf}
use Rattle.dns_sockets.specs.SystemCalls.{Addressed, DatagramCall, received_in, datagrams_sent}
use Rattle.dns_sockets.specs.declared.system.DatagramCalls.{Ghosts}
use Rattle.dns_sockets.specs.declared.udp.Udp.{Udp}

-- A datagram came to the server's address with this index, from that of its peer.
abbrev pub IsFrom : ℕ → Addressed → Datagram → Type 0
IsFrom local came one = (one.0 ≡ came.0) × IsPeerOf came.1 local one.1

-- A datagram went to the address of its peer, by a socket of IPv6 or of IPv4.
abbrev pub IsTo : Bool → Datagram → Addressed → Type 0
IsTo by_ipv6 one went = (went.0 ≡ one.0) × IsAddressOf by_ipv6 one.1 went.1

module _ {C : Type 0} where
  -- the server's address that it is on, by its index
  abbrev pub local_of : Udp C → ℕ
  local_of udp = udp.local

  abbrev pub by_ipv6 : Udp C → Bool
  by_ipv6 udp = udp.is_ipv6

  -- These datagrams came by a socket, and these went by it, each in their order, and no other.
  pub record HavePassed (c : Ghosts C) (came went : List Datagram) (old new : Udp C) : Type 0 where
    pub made : List DatagramCall
    pub called : HasCalled (c.calls old.socket) (c.calls new.socket) made
    pub from : AllZip (IsFrom (local_of old)) (received_in made) came
    pub to : AllZip (IsTo (by_ipv6 old)) went (datagrams_sent made)
    pub local : local_of new ≡ local_of old
    pub family : by_ipv6 new ≡ by_ipv6 old

  -- It was asked for a datagram, and this one came, or none.
  abbrev pub HasReceived : Ghosts C → Udp C → Option Datagram → Udp C → Type 0
  HasReceived c old (Some one) new = HavePassed c (one ∷ []) [] old new
  HasReceived c old None new = HavePassed c [] [] old new

  -- A datagram was sent by it.
  abbrev pub HasSent : Ghosts C → Udp C → Datagram → Udp C → Type 0
  HasSent c old one new = HavePassed c [] (one ∷ []) old new

  -- These were given to a socket to be sent, and these were handed over by it. What was held back before,
  -- and then what was given, is what went by it and what is held back still. What had arrived, and then what
  -- came by it, is what was handed over and what is left.
  pub record HasCarried (c : Ghosts C) (given handed : List Datagram) (old new : Datagrams (Udp C))
      : Type 0 where
    pub came : List Datagram
    pub went : List Datagram
    pub passed : HavePassed c came went (socket_of old) (socket_of new)
    pub leaving : leaving_of old ++ given ≡ went ++ leaving_of new
    pub arrived : arrived_of old ++ came ≡ handed ++ arrived_of new
