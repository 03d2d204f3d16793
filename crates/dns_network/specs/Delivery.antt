-- What a server by turns has, and where the replies of its machine go.
use Rattle.std.specs.Prelude.{◌≡◌, ◌⊎◌, ◌<◌, ◌++◌, ℕ, Bool, true, false, List, map, Option, Some, None}
use Rattle.std.specs.Prelude.{length, slice_set}
use Rattle.dns_network.specs.declared.connection.Connection.{Connection}
use Rattle.dns_network.specs.Connections.{IsReplyPushed, is_open, places_of}
use Rattle.dns_zone.specs.declared.index.ZoneIndex as zone_index
use Rattle.dns_store.specs.declared.zone_store.ZoneStore as store
use Rattle.dns_primary.specs.declared.event.To.{To}
use Rattle.dns_primary.specs.declared.event.To.TheVariants as to
use Rattle.dns_primary.specs.declared.event.Effects.{Effects}
use Rattle.dns_primary.specs.declared.primary.Primary.{Primary}
use Rattle.dns_primary.specs.Machine.{Machine}
use Rattle.dns_primary.specs.Step.{Event, Closed}
use Rattle.dns_primary.specs.Keeps.{IsKept, header_out, reply_out}
use Rattle.dns_primary.specs.Steps.{SteppedBy}
use Rattle.dns_network.specs.declared.edge.Edge.{Edge}
use Rattle.dns_network.specs.declared.edge.Turn.{Turn}
use Rattle.dns_network.specs.declared.network.Network.{Ghosts}
use Rattle.dns_network.specs.declared.network.Note.{Note}
use Rattle.dns_network.specs.declared.network.Note.TheVariants as note
use Rattle.dns_network.specs.declared.network.Observer as notes
use Rattle.dns_network.specs.Notes.{AreNoted, notes_of}
use Rattle.dns_network.specs.Steps.{AreSteps}

-- What goes out with the effects of an event, in its order.
abbrev pub out_of : Effects → List (To × List ℕ)
out_of effects = map header_out effects.headers.items ++ reply_out effects.message

-- A reply that goes out. It is cut where the connection to which it goes is closed in its stead.
pub record Going : Type 0 where
  pub to : To
  pub octets : List ℕ
  pub cut : Bool

abbrev pub reply_to_send : Going → To × List ℕ
reply_to_send going = (going.to, going.octets)

-- A primary took the step of an event, whichever machine it kept.
abbrev pub TakesEvent : {I D : Type 0} {i : zone_index.Ghosts I} {d : store.Ghosts D} → Primary I D i d
    → Event → Primary I D i d → Effects → Type 0
TakesEvent old event new effects = (m : Machine) → IsKept old m → SteppedBy m event old new effects

-- What is stored under each number, from 0 on.
abbrev pub connections_of : {S : Type 0} → Edge S → List (Option (Connection S))
connections_of edge = places_of edge.connections

-- The second in which each connection was last found to have nothing to do, since when none has got
-- something to send.
abbrev pub rested_of : {S : Type 0} → Edge S → Option ℕ
rested_of edge = edge.rested

-- If it rests in a second after, it rested in that second before.
abbrev pub RestsAsBefore : {S : Type 0} → Edge S → Edge S → Type 0
RestsAsBefore old new = (second : ℕ) → rested_of new ≡ Some second → rested_of old ≡ Some second

-- A turn is made with the same network, primary and observer as before: its references are the same, so that
-- what is done in it is done to what it was made with.
abbrev pub IsSameTurn : {I D N L : Type 0} {i : zone_index.Ghosts I} {d : store.Ghosts D} → Turn I D N L i d
    → Turn I D N L i d → Type 0
IsSameTurn old new =
    (new.network.ghost_name ≡ old.network.ghost_name)
    × (new.primary.ghost_name ≡ old.primary.ghost_name)
    × (new.notes.ghost_name ≡ old.notes.ghost_name)

-- A primary, connections by their numbers, a network, and what takes notes.
pub record Served (I D S N L : Type 0) (i : zone_index.Ghosts I) (d : store.Ghosts D) : Type 0 where
  pub primary : Primary I D i d
  pub connections : List (Option (Connection S))
  pub network : N
  pub notes : L

module _ {I D S N L : Type 0} {i : zone_index.Ghosts I} {d : store.Ghosts D} where
  abbrev pub served : Primary I D i d → Edge S → N → L → Served I D S N L i d
  served primary edge network notes =
      record { primary = primary; connections = connections_of edge; network = network; notes = notes }

  -- what a turn is made with serves the connections of an edge
  abbrev pub served_by : Turn I D N L i d → Edge S → Served I D S N L i d
  served_by turn edge = served turn.primary.now edge turn.network.now turn.notes.now

  -- This was noted, and nothing else done.
  pub record HasNoted (l : notes.Ghosts L) (one : Note) (old new : Served I D S N L i d) : Type 0 where
    pub rest : new ≡ record old { notes = new.notes }
    pub noted : l.takes old.notes one new.notes

  -- A connection was closed: its stream was let go, the primary told, and it was noted.
  pub record IsClosed (l : notes.Ghosts L) (number : ℕ) (old new : Served I D S N L i d) : Type 0 where
    pub effects : Effects
    pub told : TakesEvent old.primary (Closed number) new.primary effects
    pub gone : new.connections ≡ slice_set old.connections number None
    pub network : new.network ≡ old.network
    pub noted : l.takes old.notes (note.Closed number) new.notes

  -- The connection to which a reply was to go was closed in its stead: the reply is longer than a message on
  -- a stream can be (RFC 1035 section 4.2.2), or it is open and memory was refused, which was noted first.
  pub record ClosedInstead (l : notes.Ghosts L) (number : ℕ) (reply : List ℕ) (old new : Served I D S N L i d)
      : Type 0 where
    pub told : Served I D S N L i d
    pub cause : ((65535 < length reply) × (told ≡ old))
        ⊎ ((is_open number old.connections ≡ true) × HasNoted l note.OutOfMemory old told)
    pub closed : IsClosed l number told new

  -- A reply to a connection is queued there after all that was queued before, with its length before it, or,
  -- where it is cut, that connection is closed; no other one is touched. One to a peer is handed to the
  -- network, and one to nowhere goes nowhere.
  abbrev pub IsSent : Ghosts N S → notes.Ghosts L → To → List ℕ → Bool → Served I D S N L i d
      → Served I D S N L i d → Type 0
  IsSent n l (to.Address peer) reply false old new =
      (new ≡ record old { network = new.network }) × n.sends old.network peer reply new.network
  IsSent n l (to.Connection number) reply false old new =
      (new ≡ record old { connections = new.connections })
      × IsReplyPushed number reply old.connections new.connections
  IsSent n l (to.Connection number) reply true old new = ClosedInstead l number reply old new
  IsSent n l to.Nowhere reply false old new = new ≡ old
  IsSent n l (to.Address peer) reply true old new = ⊥
  IsSent n l to.Nowhere reply true old new = ⊥

  -- so does each of these, one after the other
  abbrev pub AreGoing : Ghosts N S → notes.Ghosts L → List Going → Served I D S N L i d
      → Served I D S N L i d → Type 0
  AreGoing n l = AreSteps (λ old one new. IsSent n l one.to one.octets one.cut old new)

  -- so does each of these replies, some of them cut
  abbrev pub AreSent : Ghosts N S → notes.Ghosts L → List (To × List ℕ) → Served I D S N L i d
      → Served I D S N L i d → Type 0
  AreSent n l out old new =
      (goings : List Going) × (map reply_to_send goings ≡ out) × AreGoing n l goings old new

  -- The effects of an event have happened: its replies were sent, and then noted what it reports.
  pub record HasEffects (n : Ghosts N S) (l : notes.Ghosts L) (effects : Effects)
      (goings : List Going) (old new : Served I D S N L i d) : Type 0 where
    pub between : Served I D S N L i d
    pub out : map reply_to_send goings ≡ out_of effects
    pub sent : AreGoing n l goings old between
    pub rest : new ≡ record between { notes = new.notes }
    pub noted : AreNoted l (notes_of effects.noted) between.notes new.notes
