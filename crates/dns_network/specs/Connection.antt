-- A connection, as its contracts see it.
use Rattle.std.specs.Prelude.{◌≡◌, ◌≢◌, ◌≤◌, ◌⊎◌, ◌↔◌, ◌++◌, ◌-◌, ℕ, List, [], map}
use Rattle.std.specs.List.{concat}
use Rattle.dns_network.specs.Framed.{pending_length}
use Rattle.dns_network.specs.declared.connection.Connection.{Connection}
use Rattle.dns_network.specs.declared.stream.Stream.{Ghosts}
use Rattle.dns_network.specs.declared.stream.Moved.{Moved}
use Rattle.dns_network.specs.declared.stream.Moved.TheVariants.{Octets, Later, Ended}

-- The second in which a connection was last used, after a write in the second `now`.
abbrev pub used_after : Moved → ℕ → ℕ → ℕ
used_after (Octets count) now before = now
used_after Later now before = before
used_after Ended now before = before

module _ {S : Type 0} where
  abbrev pub stream_of : Connection S → S
  stream_of connection = connection.stream

  -- what is left to write
  abbrev pub unwritten_of : Connection S → List ℕ
  unwritten_of connection = connection.outbox

  -- the messages that came and were not handled yet, and what came after them
  abbrev pub held_of : Connection S → List (List ℕ)
  held_of connection = map (λ m. m.items) connection.messages.items

  abbrev pub rest_of : Connection S → List ℕ
  rest_of connection = connection.framing

  -- the second in which it was last used: it came, a whole message was handed over to be handled, or its
  -- stream took an octet
  abbrev pub used_of : Connection S → ℕ
  used_of connection = connection.used

  -- nothing was read, written or handled
  pub record IsQueued (reply : List ℕ) (old new : Connection S) : Type 0 where
    pub left : unwritten_of new ≡ unwritten_of old ++ pending_length reply
    pub stream : stream_of new ≡ stream_of old
    pub held : held_of new ≡ held_of old
    pub rest : rest_of new ≡ rest_of old
    pub used : used_of new ≡ used_of old

  -- what came and was not handled yet
  abbrev pub unhandled : Connection S → List ℕ
  unhandled connection = concat (map pending_length (held_of connection)) ++ rest_of connection

  -- In the second `now` some of what was left to write was taken; or none was, and it was not used.
  pub record HasTaken (now : ℕ) (old new : Connection S) : Type 0 where
    pub piece : List ℕ
    pub some : piece ≢ []
    pub taken : unwritten_of old ≡ piece ++ unwritten_of new
    pub used : used_of new ≡ now

  pub record HasTakenNone (old new : Connection S) : Type 0 where
    pub left : unwritten_of new ≡ unwritten_of old
    pub used : used_of new ≡ used_of old

  -- Octets may have moved in the second `now`: what the stream took and what is left to write are what they
  -- were, in order, and what was read from it follows what was not handled yet.
  pub record HasMoved (s : Ghosts S) (now : ℕ) (old new : Connection S) : Type 0 where
    pub faithful : s.is_faithful (stream_of new) ↔ s.is_faithful (stream_of old)
    pub went : s.is_faithful (stream_of old)
        → s.sent (stream_of new) ++ unwritten_of new ≡ s.sent (stream_of old) ++ unwritten_of old
    pub came : s.is_faithful (stream_of old)
        → (piece : List ℕ) × (s.received (stream_of new) ≡ s.received (stream_of old) ++ piece)
        × (unhandled new ≡ unhandled old ++ piece)
    pub used : HasTaken now old new ⊎ HasTakenNone old new

  -- So it is after its stream was read or written and answered this; and it ended if it answered that.
  pub record MovesOn (s : Ghosts S) (now : ℕ) (answer : Moved) (old new : Connection S) : Type 0 where
    pub moved : HasMoved s now old new
    pub answered : s.answers (stream_of old) answer (stream_of new)
    pub ended : answer ≡ Ended → s.has_ended (stream_of new)

  -- Octets are left to write, or a message waits to be handled: it is not read before.
  abbrev pub IsReadLater : Connection S → Type 0
  IsReadLater c = (unwritten_of c ≢ []) ⊎ (held_of c ≢ [])

  -- Its stream was read, and answered this; or it is read later, and nothing has changed.
  abbrev pub HasRead : Ghosts S → ℕ → Moved → Connection S → Connection S → Type 0
  HasRead s now answer old new =
      MovesOn s now answer old new ⊎ (IsReadLater old × (answer ≡ Later) × (new ≡ old))

  -- A piece was read, one octet or more, and is not among what came: memory for it was refused. All else is
  -- what it was.
  pub record HasLost (s : Ghosts S) (old new : Connection S) : Type 0 where
    pub answered : (count : ℕ) × s.answers (stream_of old) (Octets count) (stream_of new)
    pub faithful : s.is_faithful (stream_of new) ↔ s.is_faithful (stream_of old)
    pub lost : s.is_faithful (stream_of old)
        → (piece : List ℕ) × (piece ≢ []) × (s.received (stream_of new) ≡ s.received (stream_of old) ++ piece)
    pub still : s.is_faithful (stream_of old) → s.sent (stream_of new) ≡ s.sent (stream_of old)
    pub left : unwritten_of new ≡ unwritten_of old
    pub held : held_of new ≡ held_of old
    pub rest : rest_of new ≡ rest_of old
    pub used : used_of new ≡ used_of old

  -- In the second `now` the first message that came and was not handled yet was handed over, and nothing
  -- moved.
  pub record HasHandedOver (now : ℕ) (message : List ℕ) (old new : Connection S) : Type 0 where
    pub came : unhandled old ≡ pending_length message ++ unhandled new
    pub left : unwritten_of new ≡ unwritten_of old
    pub stream : stream_of new ≡ stream_of old
    pub used : used_of new ≡ now

  -- It was used in the second `now`, or octets are left to write.
  abbrev pub IsInUse : ℕ → Connection S → Type 0
  IsInUse now c = (used_of c ≡ now) ⊎ (unwritten_of c ≢ [])

  -- In the second `now` nothing is left to write or to handle, and it was last used 30 seconds before, or
  -- more.
  pub record IsSilent (now : ℕ) (c : Connection S) : Type 0 where
    pub left : unwritten_of c ≡ []
    pub held : held_of c ≡ []
    pub used : 30 ≤ now - used_of c

  -- In the second `now` nothing is left to write, and it was last used 30 seconds before, or more: it is
  -- silent, or a message waits to be handled.
  pub record IsUnused (now : ℕ) (c : Connection S) : Type 0 where
    pub left : unwritten_of c ≡ []
    pub used : 30 ≤ now - used_of c

  abbrev pub IsUnusedOrInUse : ℕ → Connection S → Type 0
  IsUnusedOrInUse now c = IsUnused now c ⊎ IsInUse now c

  -- In the second `now` octets are left to write, and it was last used 30 seconds before, or more.
  pub record IsStalled (now : ℕ) (c : Connection S) : Type 0 where
    pub left : unwritten_of c ≢ []
    pub used : 30 ≤ now - used_of c
