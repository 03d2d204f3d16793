-- All connections, as their contracts see them.
use Rattle.std.specs.Prelude.{◌≡◌, ◌≢◌, ◌⊎◌, ◌==◌, ℕ, Bool, true, false, not, List, [], length}
use Rattle.std.specs.Prelude.{Option, Some, None, filter, is_some, slice_get, slice_set}
use Rattle.dns_network.specs.declared.connection.Connection.{Connection}
use Rattle.dns_network.specs.declared.connections.Connections.{Connections}
use Rattle.dns_network.specs.declared.stream.Stream.{Ghosts}
use Rattle.dns_network.specs.declared.stream.Moved.{Moved}
use Rattle.dns_network.specs.declared.stream.Moved.TheVariants.{Later, Ended}
use Rattle.dns_network.specs.Connection.{IsQueued, IsReadLater, MovesOn, HasHandedOver, held_of, unwritten_of}

module _ {S : Type 0} where
  -- what is stored under each number, from 0 on
  abbrev pub places_of : Connections S → List (Option (Connection S))
  places_of connections = connections.places.items

  -- the connection that is there
  abbrev pub connection_in : Option (Option (Connection S)) → Option (Connection S)
  connection_in None = None
  connection_in (Some index) = index

  -- the one with that number
  abbrev pub connection_at : ℕ → List (Option (Connection S)) → Option (Connection S)
  connection_at number places = connection_in (slice_get places number)

  -- A connection is there, and this is known of it.
  abbrev pub IsOpenWith : (Connection S → Type 0) → Option (Option (Connection S)) → Type 0
  IsOpenWith known None = ⊥
  IsOpenWith known (Some None) = ⊥
  IsOpenWith known (Some (Some c)) = known c

  -- No connection is there, or this is known of it.
  abbrev pub IsGoneOr : (Connection S → Type 0) → Option (Option (Connection S)) → Type 0
  IsGoneOr known None = Unit {0}
  IsGoneOr known (Some None) = Unit {0}
  IsGoneOr known (Some (Some c)) = known c

  -- how many connections there are
  abbrev pub open_connections : List (Option (Connection S)) → ℕ
  open_connections places = length (filter is_some places)

  -- This has become of the connection with that number, and no other one has changed.
  abbrev pub HasBecome : (Connection S → Connection S → Type 0) → ℕ → List (Option (Connection S))
      → List (Option (Connection S)) → Type 0
  HasBecome became number old new =
      (c : Connection S) × (d : Connection S) × (slice_get old number ≡ Some (Some c)) × became c d
      × (new ≡ slice_set old number (Some d))

  -- a connection has that number
  abbrev pub is_open_at : Option (Option (Connection S)) → Bool
  is_open_at None = false
  is_open_at (Some None) = false
  is_open_at (Some (Some c)) = true

  abbrev pub is_open : ℕ → List (Option (Connection S)) → Bool
  is_open number places = is_open_at (slice_get places number)

  -- A reply was queued on the connection with that number: this one was there, if there is such a place and a
  -- connection in it, and nothing else has changed.
  abbrev pub IsPushedTo : ℕ → List ℕ → Option (Option (Connection S)) → List (Option (Connection S))
      → List (Option (Connection S)) → Type 0
  IsPushedTo number reply None old new = new ≡ old
  IsPushedTo number reply (Some None) old new = new ≡ old
  IsPushedTo number reply (Some (Some c)) old new =
      (d : Connection S) × IsQueued reply c d × (new ≡ slice_set old number (Some d))

  abbrev pub IsReplyPushed : ℕ → List ℕ → List (Option (Connection S)) → List (Option (Connection S)) → Type 0
  IsReplyPushed number reply old new = IsPushedTo number reply (slice_get old number) old new

  -- octets are left to write on the connection with that number
  abbrev pub has_left_at : Option (Option (Connection S)) → Bool
  has_left_at None = false
  has_left_at (Some None) = false
  has_left_at (Some (Some c)) = not (length (unwritten_of c) == 0)

  -- No connection has that number, nothing has changed, and no stream ended; or the stream of the connection
  -- with that number was read or written and answered this, and no other one was.
  abbrev pub HasMovedAt : Ghosts S → ℕ → ℕ → Moved → List (Option (Connection S))
      → List (Option (Connection S)) → Type 0
  HasMovedAt s now number answer old new =
      ((is_open number old ≡ false) × (answer ≢ Ended) × (new ≡ old))
      ⊎ HasBecome (MovesOn s now answer) number old new

  -- It was read, and so it is then; or the connection with that number is read later, and nothing has
  -- changed.
  abbrev pub HasReadAt : Ghosts S → ℕ → ℕ → Moved → List (Option (Connection S))
      → List (Option (Connection S)) → Type 0
  HasReadAt s now number answer old new =
      HasMovedAt s now number answer old new
      ⊎ (IsOpenWith IsReadLater (slice_get old number) × (answer ≡ Later) × (new ≡ old))

  -- The connection with that number handed over its first message in the second `now`, and no other one has
  -- changed; or it had none.
  abbrev pub HandsOver : ℕ → ℕ → Option (List ℕ) → List (Option (Connection S))
      → List (Option (Connection S)) → Type 0
  HandsOver now number None old new =
      (new ≡ old) × ((c : Connection S) → slice_get old number ≡ Some (Some c) → held_of c ≡ [])
  HandsOver now number (Some message) old new =
      HasBecome (HasHandedOver now message) number old new

  -- The next message of a transfer was queued on the connection with that number, or the connection was
  -- closed in its stead; where it is not told that there was one, it may be that nothing has changed.
  abbrev pub IsNextQueued : ℕ → List (Option (Connection S)) → List (Option (Connection S)) → Type 0
  IsNextQueued number old new =
      (new ≡ slice_set old number None) ⊎ ((message : List ℕ) × IsReplyPushed number message old new)

  abbrev pub HasPumped : ℕ → Bool → List (Option (Connection S)) → List (Option (Connection S)) → Type 0
  HasPumped number true old new = IsNextQueued number old new
  HasPumped number false old new = (new ≡ old) ⊎ IsNextQueued number old new
