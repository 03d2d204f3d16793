-- The stream of a connection in memory.
use Rattle.std.specs.Prelude.{◌≡◌, ◌⊎◌, ℕ, Bool, true, List, []}
use Rattle.dns_sockets.specs.declared.memory_peer.MemoryPeer.TheInside.{Inside}

-- What the peer wrote and nobody read yet, what was read and what was taken; whether the peer writes no more,
-- and whether a call failed.
pub record PeerInMemory : Type 0 where
  pub waiting : List ℕ
  pub received : List ℕ
  pub sent : List ℕ
  pub is_closed : Bool
  pub has_failed : Bool

abbrev pub peer_in : Inside → PeerInMemory
peer_in peer = record {
  waiting = peer.waiting.items;
  received = peer.received.items;
  sent = peer.sent.items;
  is_closed = peer.is_closed;
  has_failed = peer.has_failed;
}

-- A call failed, or the peer writes no more and all that it wrote was read.
abbrev pub PeerHasEnded : PeerInMemory → Type 0
PeerHasEnded peer = (peer.has_failed ≡ true) ⊎ ((peer.is_closed ≡ true) × (peer.waiting ≡ []))
