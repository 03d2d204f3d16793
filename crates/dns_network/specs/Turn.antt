-- What is done in a turn.
use Rattle.std.specs.Prelude.{◌≡◌, ◌⊎◌, ◌≤◌, ◌<◌, ℕ, List, [], ◌++◌, length}
use Rattle.std.specs.Prelude.{Option, Some, None, false, slice_get, slice_set}
use Rattle.dns_network.specs.declared.connection.Connection.{Connection}
use Rattle.dns_network.specs.declared.stream.Moved.{Moved}
use Rattle.dns_network.specs.declared.stream.Stream as stream
use Rattle.dns_network.specs.Closing.{Cause, GivesCause, HasEnded, Silent, Stalled, NoMemory, NoPlace}
use Rattle.dns_network.specs.Connection.{HasHandedOver, MovesOn, stream_of, unhandled, unwritten_of, used_of}
use Rattle.dns_network.specs.Connections.{is_open, open_connections}
use Rattle.dns_zone.specs.declared.index.ZoneIndex as zone_index
use Rattle.dns_store.specs.declared.zone_store.ZoneStore as store
use Rattle.dns_primary.specs.declared.event.Peer.{Peer}
use Rattle.dns_primary.specs.declared.event.Effects.{Effects}
use Rattle.dns_primary.specs.declared.primary.Primary.{Primary}
use Rattle.dns_primary.specs.Machine.{Machine, IsListed}
use Rattle.dns_primary.specs.Keeps.{IsKept}
use Rattle.dns_primary.specs.Step.{Event, Datagram, Connect, Arrives, Flush, Checkpoint, Pump, Closed}
use Rattle.dns_network.specs.declared.network.Network.{Ghosts}
use Rattle.dns_network.specs.declared.network.Note.TheVariants as note
use Rattle.dns_network.specs.declared.network.Observer as notes
use Rattle.dns_network.specs.Notes.{AreNoted, notes_of, notes_of_opened}
use Rattle.dns_network.specs.Delivery.{Served, Going, TakesEvent, HasEffects, HasNoted, IsClosed}
use Rattle.dns_network.specs.Steps.{AreSteps}

-- One thing that is done: the network is asked, and nothing came; the stream of the connection with a number
-- is read or written, and answers this; a peer connects, or its connection is refused; an event happens, and
-- its replies go out; the connection with a number is closed, for a cause. What the primary does is in the
-- effects.
pub data TurnMoment : Type 0 where
  Asks : TurnMoment
  Moves : ℕ → Moved → TurnMoment
  Connects : Peer → Effects → TurnMoment
  Refuses : Peer → TurnMoment
  Happens : Event → Effects → List Going → TurnMoment
  Closes : ℕ → Cause → TurnMoment

-- How many places there are for peers of any address: where so many connections are open, the places left are
-- for those whose address some zone lists.
abbrev pub places_for_all : ℕ
places_for_all = 48

module _ {S : Type 0} where
  -- A connection on which nothing came and to which nothing goes yet is put, in the second `now`, in the
  -- place with its number, if there is such a place.
  abbrev pub IsPut : ℕ → S → ℕ → List (Option (Connection S)) → List (Option (Connection S)) → Type 0
  IsPut now stream number old new =
      ((length old ≤ number) × (new ≡ old))
      ⊎ ((number < length old)
      × ((c : Connection S) × (stream_of c ≡ stream) × (unwritten_of c ≡ []) × (unhandled c ≡ [])
      × (used_of c ≡ now) × (new ≡ slice_set old number (Some c))))

  -- So is the connection of a peer, if the peer got a number, and the network watches its stream by that.
  -- Where the network can't, no connection is in that place.
  abbrev pub IsPlaced : {N : Type 0} → Ghosts N S → ℕ → S → Option ℕ → N → N → List (Option (Connection S))
      → List (Option (Connection S)) → Type 0
  IsPlaced n now stream None asked last old new = (last ≡ asked) × (new ≡ old)
  IsPlaced n now stream (Some number) asked last old new =
      (n.watches asked number stream None last × (new ≡ slice_set old number None))
      ⊎ ((watched : S) × n.watches asked number stream (Some watched) last × IsPut now watched number old new)

-- Whichever machine a primary kept, no reply waits for a flush.
abbrev pub NoneWaits : {I D : Type 0} {i : zone_index.Ghosts I} {d : store.Ghosts D} → Primary I D i d
    → Type 0
NoneWaits primary = (m : Machine) → IsKept primary m → m.waiting ≡ []

module _ {I D S N L : Type 0} {i : zone_index.Ghosts I} {d : store.Ghosts D} where
  -- The connection of a peer is taken up: the primary is told of it, it is noted, and it is put in its place.
  pub record IsTakenUp (n : Ghosts N S) (l : notes.Ghosts L) (now : ℕ) (stream : S) (peer : Peer)
      (effects : Effects) (old new : Served I D S N L i d) : Type 0 where
    pub told : TakesEvent old.primary (Connect peer) new.primary effects
    pub noted : AreNoted l (notes_of effects.noted ++ notes_of_opened effects.accepted peer) old.notes
        new.notes
    pub placed : IsPlaced n now stream effects.accepted old.network new.network old.connections
        new.connections

  -- It is, or it is and then it is closed again, since it was put in no place.
  abbrev pub IsWelcomed : Ghosts N S → notes.Ghosts L → ℕ → S → Peer → Served I D S N L i d
      → Served I D S N L i d → Type 0
  IsWelcomed n l now stream peer old new =
      ((effects : Effects) × IsTakenUp n l now stream peer effects old new)
      ⊎ ((opened : Served I D S N L i d) × (effects : Effects) × (number : ℕ)
      × IsTakenUp n l now stream peer effects old opened × (is_open number opened.connections ≡ false)
      × IsClosed l number opened new)

  pub record HasAsked (n : Ghosts N S) (old new : Served I D S N L i d) : Type 0 where
    pub rest : new ≡ record old { network = new.network }
    pub nothing : n.accepts old.network None new.network
        ⊎ (n.receives old.network None new.network ⊎ n.looks old.network new.network)

  pub record MovedOn (s : stream.Ghosts S) (now number : ℕ) (answer : Moved) (old new : Served I D S N L i d)
      : Type 0 where
    pub before : Connection S
    pub after : Connection S
    pub there : slice_get old.connections number ≡ Some (Some before)
    pub on : MovesOn s now answer before after
    pub rest : new ≡ record old { connections = slice_set old.connections number (Some after) }

  -- The connection of a peer came, and is taken up: fewer than 48 were open, or its address is listed.
  pub record HasConnected (n : Ghosts N S) (l : notes.Ghosts L) (now : ℕ) (peer : Peer)
      (effects : Effects) (old new : Served I D S N L i d) : Type 0 where
    pub stream : S
    pub asked : N
    pub came : n.accepts old.network (Some (stream, peer)) asked
    pub allowed : (m : Machine) → IsKept old.primary m
        → (open_connections old.connections < places_for_all) ⊎ IsListed m peer.address
    pub taken : IsTakenUp n l now stream peer effects (record old { network = asked }) new

  -- The connection of a peer came, and its stream was let go: 48 were open, or more, and its address is not
  -- listed. The primary is told nothing of it.
  pub record HasRefused (n : Ghosts N S) (l : notes.Ghosts L) (peer : Peer)
      (old new : Served I D S N L i d) : Type 0 where
    pub stream : S
    pub came : n.accepts old.network (Some (stream, peer)) new.network
    pub full : places_for_all ≤ open_connections old.connections
    pub unlisted : (m : Machine) → IsKept old.primary m → IsListed m peer.address → ⊥
    pub rest : new ≡ record old { network = new.network; notes = new.notes }
    pub noted : l.takes old.notes note.Refused new.notes

  -- How an event comes in the second `now`: a datagram from the network, a message from the connection with
  -- its number; a pump and a flush come of themselves, and no others do.
  abbrev pub EventComes : Ghosts N S → ℕ → Event → Served I D S N L i d → Served I D S N L i d → Type 0
  EventComes n now (Datagram peer octets) old new =
      (new ≡ record old { network = new.network }) × n.receives old.network (Some (octets, peer)) new.network
  EventComes n now (Arrives number message) old new =
      (c : Connection S) × (e : Connection S) × (slice_get old.connections number ≡ Some (Some c))
      × HasHandedOver now message c e
      × (new ≡ record old { connections = slice_set old.connections number (Some e) })
  EventComes n now (Pump number) old new = new ≡ old
  EventComes n now Flush old new = new ≡ old
  EventComes n now (Connect peer) old new = ⊥
  EventComes n now (Checkpoint index) old new = ⊥
  EventComes n now (Closed number) old new = ⊥

  -- The primary took an event, it was observed, and its effects have happened.
  pub record IsHandled (n : Ghosts N S) (l : notes.Ghosts L) (event : Event) (effects : Effects)
      (goings : List Going) (old new : Served I D S N L i d) : Type 0 where
    pub told : Served I D S N L i d
    pub takes : TakesEvent old.primary event told.primary effects
    pub observed : l.observes old.notes event effects told.notes
    pub rest : told ≡ record old { primary = told.primary; notes = told.notes }
    pub happened : HasEffects n l effects goings told new

  -- An event came, the primary took it, it was observed, and its effects have happened.
  pub record HasHappened (n : Ghosts N S) (l : notes.Ghosts L) (now : ℕ) (event : Event) (effects : Effects)
      (goings : List Going) (old new : Served I D S N L i d) : Type 0 where
    pub given : Served I D S N L i d
    pub is_given : EventComes n now event old given
    pub told : Served I D S N L i d
    pub takes : TakesEvent given.primary event told.primary effects
    pub observed : l.observes given.notes event effects told.notes
    pub rest : told ≡ record given { primary = told.primary; notes = told.notes }
    pub happened : HasEffects n l effects goings told new

  -- Silence, a stall and refused memory are noted before the connection with a number is closed for them, and
  -- no other cause is.
  abbrev pub IsCauseNoted : notes.Ghosts L → ℕ → Cause → Served I D S N L i d → Served I D S N L i d → Type 0
  IsCauseNoted l number HasEnded old new = new ≡ old
  IsCauseNoted l number Silent old new = HasNoted l (note.Silent number) old new
  IsCauseNoted l number Stalled old new = HasNoted l (note.Stalled number) old new
  IsCauseNoted l number NoMemory old new = HasNoted l note.OutOfMemory old new
  IsCauseNoted l number NoPlace old new = new ≡ old

  -- The connection with a number gave a cause to close it, and was closed.
  pub record ClosedFor (s : stream.Ghosts S) (l : notes.Ghosts L) (now number : ℕ) (cause : Cause)
      (old new : Served I D S N L i d) : Type 0 where
    pub gives : GivesCause s now cause number old.connections
    pub told : Served I D S N L i d
    pub noted : IsCauseNoted l number cause old told
    pub closed : IsClosed l number told new

  -- It is done in the second `now`.
  abbrev pub IsMoment : stream.Ghosts S → Ghosts N S → notes.Ghosts L → ℕ → TurnMoment → Served I D S N L i d
      → Served I D S N L i d → Type 0
  IsMoment s n l now Asks old new = HasAsked n old new
  IsMoment s n l now (Moves number answer) old new = MovedOn s now number answer old new
  IsMoment s n l now (Connects peer effects) old new = HasConnected n l now peer effects old new
  IsMoment s n l now (Refuses peer) old new = HasRefused n l peer old new
  IsMoment s n l now (Happens event effects goings) old new =
      HasHappened n l now event effects goings old new
  IsMoment s n l now (Closes number cause) old new = ClosedFor s l now number cause old new

  abbrev pub AreMoments : stream.Ghosts S → Ghosts N S → notes.Ghosts L → ℕ → List TurnMoment
      → Served I D S N L i d → Served I D S N L i d → Type 0
  AreMoments s n l now = AreSteps (λ old one new. IsMoment s n l now one old new)
