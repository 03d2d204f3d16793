-- The sockets on which peers connect, one on each address.
use Rattle.std.specs.Prelude.{◌≡◌, ◌∷◌, [], ℕ, Bool, nat_eq, List, Option, Some, None, if◌then◌else◌, length}
use Rattle.std.specs.Prelude.{slice_get}
use Rattle.std.specs.List.{AllZip}
use Rattle.std.specs.declared.net.socket_addr.SocketAddr.{SocketAddr}
use Rattle.dns_primary.specs.declared.event.Peer.{Peer}
use Rattle.dns_configuration.specs.Calls.{HasCalled}
use Rattle.dns_sockets.specs.Peers.{IsPeerOf}
use Rattle.dns_sockets.specs.SystemCalls.{ListenerCall, connections_accepted}
use Rattle.dns_sockets.specs.declared.system.ListenerCalls.{Ghosts}
use Rattle.dns_sockets.specs.declared.listeners.Listener.{Listener}
use Rattle.dns_sockets.specs.declared.listeners.Listeners.{Listeners}

module _ {T : Type 0} where
  -- A connection came to the server's address with this index, from that of its peer.
  abbrev pub IsConnectionOf : ℕ → T × SocketAddr → T × Peer → Type 0
  IsConnectionOf local came one = (one.0 ≡ came.0) × IsPeerOf came.1 local one.1

  -- The one that is handed over, if its peer connected to the address with this index.
  abbrev pub taken_at : ℕ → Option (T × Peer) → List (T × Peer)
  taken_at local None = []
  taken_at local (Some one) = if nat_eq one.1.local local then one ∷ [] else []

abbrev pub listeners_of : {L : Type 0} → Listeners L → List (Listener L)
listeners_of all = all.listeners.items

-- A peer may have connected to a listener: since its last event no call found that none had.
abbrev pub may_connect : {L : Type 0} → Listener L → Bool
may_connect listener = listener.may_accept

module _ {L T : Type 0} where
  -- These connections came to a listener on the address with this index, and no other.
  pub record HaveConnected (l : Ghosts L T) (local : ℕ) (came : List (T × Peer)) (old new : Listener L)
      : Type 0 where
    pub made : List (ListenerCall T)
    pub called : HasCalled (l.calls old.socket) (l.calls new.socket) made
    pub from : AllZip (IsConnectionOf local) (connections_accepted made) came

  -- They were asked for a connection, and this one came, to the listener of the address that its peer
  -- connected to, or none did.
  pub record HaveAccepted (l : Ghosts L T) (got : Option (T × Peer)) (old new : List (Listener L))
      : Type 0 where
    pub count : length new ≡ length old
    pub each : (local : ℕ) (before after : Listener L) → slice_get old local ≡ Some before
        → slice_get new local ≡ Some after → HaveConnected l local (taken_at local got) before after
