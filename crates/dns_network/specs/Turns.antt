-- What is done in a turn, part by part, and turns one after the other.
use Rattle.std.specs.Prelude.{◌≡◌, ◌⊎◌, ℕ, zero, suc, Bool, true, false, List, [], ◌∷◌, ◌++◌, length, is_some}
use Rattle.std.specs.Prelude.{Option, Some, None, slice_get}
use Rattle.dns_zone.specs.declared.index.ZoneIndex as zone_index
use Rattle.dns_store.specs.declared.zone_store.ZoneStore as store
use Rattle.dns_primary.specs.declared.event.Peer.{Peer}
use Rattle.dns_primary.specs.declared.event.Effects.{Effects}
use Rattle.dns_primary.specs.Step.{Event, Datagram, Connect, Arrives, Flush, Checkpoint, Pump, Closed}
use Rattle.dns_network.specs.declared.stream.Moved.{Moved}
use Rattle.dns_network.specs.declared.stream.Moved.TheVariants.{Octets, Later, Ended}
use Rattle.dns_network.specs.declared.stream.Stream as stream
use Rattle.dns_network.specs.declared.network.Network.{Ghosts}
use Rattle.dns_network.specs.declared.network.Note.TheVariants as note
use Rattle.dns_network.specs.declared.network.Observer as notes
use Rattle.dns_network.specs.Closing.{HasEnded, Silent, Stalled, NoMemory, NoPlace}
use Rattle.dns_network.specs.Connection.{IsReadLater, held_of}
use Rattle.dns_network.specs.Connections.{IsGoneOr, IsOpenWith, has_left_at, is_open}
use Rattle.dns_network.specs.Delivery.{Served, Going, HasNoted}
use Rattle.dns_network.specs.Steps.{AreSteps}
use Rattle.dns_network.specs.Turn.{TurnMoment, Asks, Moves, Connects, Refuses, Happens, Closes}
use Rattle.dns_network.specs.Turn.{AreMoments, HasAsked, IsMoment, NoneWaits}

-- A flush, before and after which the network looks.
abbrev pub IsFlush : List TurnMoment → Type 0
IsFlush moments =
    (effects : Effects) × (goings : List Going)
    × (moments ≡ Asks ∷ Happens Flush effects goings ∷ Asks ∷ [])

-- An event that happens where there is nothing to do: a pump that finds no message.
abbrev pub FindsNothing : Event → Effects → Type 0
FindsNothing (Pump number) effects = effects.message ≡ None
FindsNothing (Datagram peer octets) effects = ⊥
FindsNothing (Connect peer) effects = ⊥
FindsNothing (Arrives number octets) effects = ⊥
FindsNothing Flush effects = ⊥
FindsNothing (Checkpoint index) effects = ⊥
FindsNothing (Closed number) effects = ⊥

-- What is done where there is nothing to do: the network is asked, and each transfer; and each stream, which
-- answers that no octet could move.
abbrev pub IsIdle : TurnMoment → Type 0
IsIdle Asks = Unit {0}
IsIdle (Moves number answer) = answer ≡ Later
IsIdle (Connects peer effects) = ⊥
IsIdle (Refuses peer) = ⊥
IsIdle (Happens event effects goings) = FindsNothing event effects
IsIdle (Closes number cause) = ⊥

abbrev pub AreIdle : List TurnMoment → Type 0
AreIdle [] = Unit {0}
AreIdle (one ∷ rest) = IsIdle one × AreIdle rest

-- The connection of a peer is taken up, and closed again if it is put in no place; or refused.
abbrev pub TakesOne : List TurnMoment → Type 0
TakesOne moments =
    ((peer : Peer) × (effects : Effects) × (moments ≡ Connects peer effects ∷ []))
    ⊎ ((peer : Peer) × (effects : Effects) × (number : ℕ)
    × (moments ≡ Connects peer effects ∷ Closes number NoPlace ∷ []))
    ⊎ ((peer : Peer) × (moments ≡ Refuses peer ∷ []))

-- A datagram is answered.
abbrev pub AnswersOne : List TurnMoment → Type 0
AnswersOne moments =
    (peer : Peer) × (octets : List ℕ) × (effects : Effects) × (goings : List Going)
    × (moments ≡ Happens (Datagram peer octets) effects goings ∷ [])

-- What is done with the connection with a number after its stream answered this. If the stream ended, the
-- connection is closed for that, and nothing else is done; else this is.
abbrev pub UnlessEnded : ℕ → Moved → (List TurnMoment → Type 0) → List TurnMoment → Type 0
UnlessEnded number Ended done moments = moments ≡ Closes number HasEnded ∷ []
UnlessEnded number Later done moments = done moments
UnlessEnded number (Octets count) done moments = done moments

-- The connection with a number is closed, since it is stalled; or nothing is done.
abbrev pub MayStall : ℕ → List TurnMoment → Type 0
MayStall number moments = (moments ≡ []) ⊎ (moments ≡ Closes number Stalled ∷ [])

-- What is left to write on the connection with a number is written, as far as its stream takes it; and the
-- connection is closed if the stream ended, or if it is stalled.
abbrev pub Writes : ℕ → List TurnMoment → Type 0
Writes number moments =
    (answer : Moved) × (rest : List TurnMoment) × (moments ≡ Moves number answer ∷ rest)
    × UnlessEnded number answer (MayStall number) rest

module _ {I D S N L : Type 0} {i : zone_index.Ghosts I} {d : store.Ghosts D} where
  -- On the connection with a number no message waits to be handled, unless it is gone.
  abbrev pub NoneIsHeld : ℕ → Served I D S N L i d → Type 0
  NoneIsHeld number now = IsGoneOr (λ c. held_of c ≡ []) (slice_get now.connections number)

  -- The first message that waits on the connection with a number is handled; or none waits; or it is silent,
  -- and is closed.
  abbrev pub HandlesOne : ℕ → List TurnMoment → Served I D S N L i d → Type 0
  HandlesOne number moments new =
      ((message : List ℕ) × (effects : Effects) × (goings : List Going)
      × (moments ≡ Happens (Arrives number message) effects goings ∷ []))
      ⊎ ((moments ≡ []) × NoneIsHeld number new)
      ⊎ (moments ≡ Closes number Silent ∷ [])

  -- Octets are left to write on the connection with a number, or a message waits on it.
  abbrev pub ReadsLater : ℕ → Served I D S N L i d → Type 0
  ReadsLater number now = IsOpenWith IsReadLater (slice_get now.connections number)

  -- The stream of the connection with a number is read, unless it is to be read later, and one message is
  -- handled. The connection is closed if the stream ended, or if memory for what was read is refused.
  abbrev pub ReadsOne : ℕ → List TurnMoment → Served I D S N L i d → Served I D S N L i d → Type 0
  ReadsOne number moments old new =
      (ReadsLater number old × HandlesOne number moments new)
      ⊎ ((answer : Moved) × (rest : List TurnMoment) × (moments ≡ Moves number answer ∷ rest)
      × UnlessEnded number answer (λ done. HandlesOne number done new) rest)
      ⊎ (moments ≡ Closes number NoMemory ∷ [])

module _ {I D S N L : Type 0} {i : zone_index.Ghosts I} {d : store.Ghosts D} (s : stream.Ghosts S)
    (n : Ghosts N S) (l : notes.Ghosts L) (now : ℕ) where
  -- The network is asked for a connection: one came, or none.
  pub record IsAccepting (one : Bool) (moments : List TurnMoment) (old new : Served I D S N L i d)
      : Type 0 where
    pub are : AreMoments s n l now moments old new
    pub came : one ≡ true → TakesOne moments
    pub none : one ≡ false → (moments ≡ Asks ∷ []) × n.accepts old.network None new.network

  -- It is asked for a datagram: one came, or none.
  pub record IsReceiving (one : Bool) (moments : List TurnMoment) (old new : Served I D S N L i d)
      : Type 0 where
    pub are : AreMoments s n l now moments old new
    pub came : one ≡ true → AnswersOne moments
    pub none : one ≡ false → (moments ≡ Asks ∷ []) × n.receives old.network None new.network

  -- The connection with a number is read, if it is open.
  pub record IsReading (number : ℕ) (moments : List TurnMoment) (old new : Served I D S N L i d)
      : Type 0 where
    pub are : AreMoments s n l now moments old new
    pub reads : ((is_open number old.connections ≡ false) × (moments ≡ [])) ⊎ ReadsOne number moments old new

  -- The next message of the transfer that is open on the connection with a number is asked for; if there is
  -- none, the connection is read.
  pub record PumpsOrReads (number : ℕ) (moments : List TurnMoment) (old new : Served I D S N L i d)
      : Type 0 where
    pub effects : Effects
    pub goings : List Going
    pub rest : List TurnMoment
    pub pumped : Served I D S N L i d
    pub are : moments ≡ Happens (Pump number) effects goings ∷ rest
    pub pumps : IsMoment s n l now (Happens (Pump number) effects goings) old pumped
    pub one : is_some effects.message ≡ true → (rest ≡ []) × (new ≡ pumped)
    pub none : is_some effects.message ≡ false → IsReading number rest pumped new

  -- The part that the connection with a number has in a turn: nothing is done if it isn't open; if octets are
  -- left to write, they are written; else a message of its transfer is queued, or it is read.
  pub record HasItsPart (number : ℕ) (moments : List TurnMoment) (old new : Served I D S N L i d)
      : Type 0 where
    pub are : AreMoments s n l now moments old new
    pub closed : is_open number old.connections ≡ false → moments ≡ []
    pub left : has_left_at (slice_get old.connections number) ≡ true → Writes number moments
    pub none_left : is_open number old.connections ≡ true
        → has_left_at (slice_get old.connections number) ≡ false → PumpsOrReads number moments old new

  -- Each connection with a number below this one has its part, one after the other by rising number.
  abbrev pub EachHasItsPart : ℕ → List TurnMoment → Served I D S N L i d → Served I D S N L i d → Type 0
  EachHasItsPart zero moments old new = (moments ≡ []) × (new ≡ old)
  EachHasItsPart (suc number) moments old new =
      (first : List TurnMoment) × (last : List TurnMoment) × (between : Served I D S N L i d)
      × (moments ≡ first ++ last) × EachHasItsPart number first old between
      × HasItsPart number last between new

  -- The connections are passed over: none had something to do in this second, and the network is still.
  pub record ArePassedOver (rested : Option ℕ) (moments : List TurnMoment) (old new : Served I D S N L i d)
      : Type 0 where
    pub rests : rested ≡ Some now
    pub still : n.keeps_still old.network
    pub none : moments ≡ []
    pub same : new ≡ old

  -- All connections have their part, or are passed over.
  abbrev pub AreServed : Option ℕ → List TurnMoment → Served I D S N L i d → Served I D S N L i d → Type 0
  AreServed rested moments old new =
      EachHasItsPart (length old.connections) moments old new ⊎ ArePassedOver rested moments old new

  -- What is done in a turn before the flush: a connection is accepted, and a datagram received, if one came;
  -- and the connections that are open then are served. In the second `rested` a turn before found that no
  -- connection had something to do.
  pub record HasParts (rested : Option ℕ) (moments : List TurnMoment) (old new : Served I D S N L i d)
      : Type 0 where
    pub accepted : Served I D S N L i d
    pub received : Served I D S N L i d
    pub accepting : List TurnMoment
    pub receiving : List TurnMoment
    pub serving : List TurnMoment
    pub are : moments ≡ accepting ++ receiving ++ serving
    pub accepts : (one : Bool) × IsAccepting one accepting old accepted
    pub receives : (one : Bool) × IsReceiving one receiving accepted received
    pub serves : AreServed rested serving received new

  -- These are done in a turn, in the second `now`: what is done first, and then, if a reply waits, a flush.
  pub record AreDone (rested : Option ℕ) (moments : List TurnMoment) (old new : Served I D S N L i d)
      : Type 0 where
    pub first : List TurnMoment
    pub last : List TurnMoment
    pub are : moments ≡ first ++ last
    pub between : Served I D S N L i d
    pub done : AreMoments s n l now first old between
    pub parts : HasParts rested first old between
    pub flushed : AreMoments s n l now last between new
    pub flush : ((last ≡ []) × NoneWaits between.primary) ⊎ IsFlush last

  -- A turn: it is noted that it begins, in the second `now`; these are done; and it is noted that it ends.
  pub record IsTurn (rested : Option ℕ) (moments : List TurnMoment) (old new : Served I D S N L i d)
      : Type 0 where
    pub begun : Served I D S N L i d
    pub ended : Served I D S N L i d
    pub begins : HasNoted l (note.Begins now) old begun
    pub done : AreDone rested moments begun ended
    pub ends : HasNoted l note.Ends ended new

module _ {I D S N L : Type 0} {i : zone_index.Ghosts I} {d : store.Ghosts D} where
  -- A turn, and before and after it the network may be asked, or wait.
  pub record IsRound (s : stream.Ghosts S) (n : Ghosts N S) (l : notes.Ghosts L) (moments : List TurnMoment)
      (old new : Served I D S N L i d) : Type 0 where
    pub now : ℕ
    pub rested : Option ℕ
    pub begun : Served I D S N L i d
    pub ended : Served I D S N L i d
    pub before : (begun ≡ old) ⊎ HasAsked n old begun
    pub turn : IsTurn s n l now rested moments begun ended
    pub after : (new ≡ ended) ⊎ HasAsked n ended new

  -- Turns are made, one after the other; each is told by its moments.
  abbrev pub AreTurns : stream.Ghosts S → Ghosts N S → notes.Ghosts L → List (List TurnMoment)
      → Served I D S N L i d → Served I D S N L i d → Type 0
  AreTurns s n l = AreSteps (λ old moments new. IsRound s n l moments old new)
