-- What is done one after the other.
use Rattle.std.proofs.Common.{◌≡◌, inl, inr, ℕ, zero, suc, ◌+◌, ◌<◌, ◌≤◌, Bool, false, not, ◌==◌, List, [], ◌∷◌, ◌++◌, Option, Some, None, length, map, take, get_or, refl, ap, sym, subst, ◌∙◌, slice_set, arith}
use Rattle.std.specs.List.{concat}
use Rattle.std.specs.Prelude.{slice_get}
use Rattle.std.proofs.lemmas.List.{map-append, set-set, take_more}
use Rattle.std.proofs.lemmas.Bool.Decides.{nat_tests}
use Rattle.dns_network.specs.Framed.{pending_length}
use Rattle.dns_network.specs.declared.connection.Connection.{Connection}
use Rattle.dns_network.specs.declared.stream.Moved.{Moved}
use Rattle.dns_network.specs.declared.stream.Moved.TheVariants.{Ended}
use Rattle.dns_network.specs.declared.stream.Stream as stream
use Rattle.dns_network.specs.Closing.{Cause, GivesCause, HasEnded, NoMemory}
use Rattle.dns_network.specs.Connection.{HasLost, MovesOn, held_of, rest_of, stream_of, unhandled}
use Rattle.std.proofs.lemmas.Option.{slice_get_past}
use Rattle.dns_network.specs.Connections.{HasBecome, HasMovedAt, IsOpenWith, is_open, is_open_at}
use Rattle.dns_zone.specs.declared.index.ZoneIndex as zone_index
use Rattle.dns_store.specs.declared.zone_store.ZoneStore as store
use Rattle.dns_versions.specs.Each.{Each2}
use Rattle.dns_primary.specs.declared.event.Effects.{Effects}
use Rattle.dns_primary.specs.declared.event.Noted.{Noted}
use Rattle.dns_primary.specs.declared.event.Peer.{Peer}
use Rattle.dns_primary.specs.declared.event.To.{To}
use Rattle.dns_network.specs.Notes.{AreNoted, notes_of, notes_of_opened}
use Rattle.dns_primary.specs.declared.event.Waiting.{Waiting}
use Rattle.dns_primary.specs.declared.primary.Primary.{Primary}
use Rattle.dns_primary.specs.Machine.{Waits}
use Rattle.dns_primary.specs.Step.{Event}
use Rattle.dns_primary.specs.Keeps.{IsWaiting}
use Rattle.dns_network.specs.declared.network.Network.{Ghosts}
use Rattle.dns_network.specs.declared.network.Note.TheVariants as note
use Rattle.dns_network.specs.declared.network.Observer as notes
use Rattle.dns_network.specs.declared.edge.Turn.{Turn}
use Rattle.dns_network.specs.Delivery.{Served, Going, TakesEvent, AreGoing, AreSent, HasEffects, HasNoted, IsClosed, IsSameTurn, IsSent, reply_to_send}
use Rattle.dns_network.specs.Turn.{TurnMoment, Moves, Happens, Closes, AreMoments, HasAsked, HasHappened, EventComes, IsCauseNoted, IsHandled, IsMoment, NoneWaits}
use Rattle.dns_network.specs.Turns.{AreDone, HasParts, IsFlush, IsTurn}
use Rattle.dns_network.proofs.Pushed.{set_there}
use Rattle.dns_network.proofs.Steps.{steps_on}

-- a connection with no message and no rest has nothing to handle
pub nothing_came : {S : Type 0} (c : Connection S) → held_of c ≡ [] → rest_of c ≡ [] → unhandled c ≡ []
nothing_came c held rest = ap (λ (ms : List (List ℕ)). concat (map pending_length ms) ++ rest_of c) held ∙ rest

-- what a primary reports is noted, and then that a peer has a connection
pub noted_then : {L : Type 0} (l : notes.Ghosts L) (noted : Noted) (accepted : Option ℕ) (peer : Peer) (a b c : L) → AreNoted l (notes_of noted) a b
    → AreNoted l (notes_of_opened accepted peer) b c → AreNoted l (notes_of noted ++ notes_of_opened accepted peer) a c
noted_then l noted accepted peer a b c = steps_on (λ old one new. l.takes old one new) (notes_of noted) (notes_of_opened accepted peer) a b c

-- no connection is where there is no place, or where one was let go
pub none_past : {S : Type 0} (number : ℕ) (old new : List (Option (Connection S))) → new ≡ old → length old ≤ number → is_open number new ≡ false
none_past number old new same past = ap (is_open number) same ∙ ap is_open_at (slice_get_past old number past)

pub none_there : {S : Type 0} (number : ℕ) (places : List (Option (Connection S))) → is_open number (slice_set places number None) ≡ false
none_there number [] = refl
none_there zero (c ∷ places) = refl
none_there (suc number) (c ∷ places) = none_there number places

-- a connection was closed, and nothing had changed before
pub closed_still : {S : Type 0} (number : ℕ) (old mid new : List (Option (Connection S))) → mid ≡ old → new ≡ slice_set mid number None
    → new ≡ slice_set old number None
closed_still {S = S} number old mid new same gone = gone ∙ ap (λ (cs : List (Option (Connection S))). slice_set cs number None) same

-- A server, its parts told one by one.
abbrev pub standing : {I D S N L : Type 0} {i : zone_index.Ghosts I} {d : store.Ghosts D} → Primary I D i d → N → L → List (Option (Connection S))
    → Served I D S N L i d
standing primary network notes connections = record { primary = primary; connections = connections; network = network; notes = notes }

-- what a turn is made with, and some connections
abbrev pub standing_by : {I D S N L : Type 0} {i : zone_index.Ghosts I} {d : store.Ghosts D} → Turn I D N L i d → List (Option (Connection S)) → Served I D S N L i d
standing_by turn connections = standing turn.primary.now turn.network.now turn.notes.now connections

-- a turn is the same after two steps, if it is after each
pub same_on : {I D N L : Type 0} {i : zone_index.Ghosts I} {d : store.Ghosts D} (a b c : Turn I D N L i d) → IsSameTurn a b → IsSameTurn b c → IsSameTurn a c
same_on a b c (network, primary, notes) (network', primary', notes') = (network' ∙ network, primary' ∙ primary, notes' ∙ notes)

-- where nothing is kept of replies that wait, none waits
none_of : (kept : List Waiting) (waiting : List Waits) → length kept ≡ 0 → Each2 IsWaiting kept waiting → waiting ≡ []
none_of [] [] none h = refl
none_of [] (w ∷ waiting) none h = absurd h
none_of (k ∷ kept) waiting none h = absurd (omega (arith, none))

pub none_waits : {I D : Type 0} {i : zone_index.Ghosts I} {d : store.Ghosts D} (primary : Primary I D i d) (waits : Bool)
    → waits ≡ not (length primary.waiting.items == 0) → waits ≡ false → NoneWaits primary
none_waits primary waits is none = λ m kept. none_of primary.waiting.items m.waiting (grind (arith, nat_tests, is, none)) kept.waiting_are

module _ {S : Type 0} (s : stream.Ghosts S) where
  -- a stream that a read or a write told to have ended is there, and has
  pub ends : (now number : ℕ) (moved : Moved) (old new : List (Option (Connection S))) → moved ≡ Ended → HasMovedAt s now number moved old new
      → GivesCause s now HasEnded number new
  ends now number moved old new is (inl (closed, lasts, same)) = absurd (lasts is)
  ends now number moved old new is (inr (c, d, there, on, set)) =
      let at : slice_get new number ≡ Some (Some d) =
      ap (λ (cs : List (Option (Connection S))). slice_get cs number) set ∙ set_there old number (Some c) (Some d) there in
      subst (IsOpenWith (λ c. s.has_ended (stream_of c))) (sym at) (on.ended is)

  -- a piece was lost of a connection that is there
  pub loses : (now number : ℕ) (old new : List (Option (Connection S))) → HasBecome (HasLost s) number old new
      → GivesCause s now NoMemory number old
  loses now number old new (c, d, there, lost, set) =
      subst (IsOpenWith (λ c. (e : Connection S) × HasLost s c e)) (sym there) (d, lost)

  -- a connection that has changed was closed then
  pub closed_then : (became : Connection S → Connection S → Type 0) (number : ℕ) (old mid new : List (Option (Connection S)))
      → HasBecome became number old mid → new ≡ slice_set mid number None → new ≡ slice_set old number None
  closed_then became number old mid new (c, d, there, on, set) gone =
      closed_still number (slice_set old number (Some d)) mid new set gone ∙ set-set old number (Some d) None

module _ {I D S N L : Type 0} {i : zone_index.Ghosts I} {d : store.Ghosts D} where
  -- Nothing else is done from here to there, in this second.
  abbrev pub MomentsLead : stream.Ghosts S → Ghosts N S → notes.Ghosts L → ℕ → Served I D S N L i d
      → Served I D S N L i d → Type 0
  MomentsLead s n l now old new = (moments : List TurnMoment) × AreMoments s n l now moments old new

module _ {I D S N L : Type 0} {i : zone_index.Ghosts I} {d : store.Ghosts D} (s : stream.Ghosts S) (n : Ghosts N S) (l : notes.Ghosts L) (now : ℕ) where
  pub one_moment : (one : TurnMoment) (a b : Served I D S N L i d) → IsMoment s n l now one a b → AreMoments s n l now (one ∷ []) a b
  one_moment one a b h = (b, h, refl)

  pub two_moments : (one other : TurnMoment) (a b c : Served I D S N L i d) → IsMoment s n l now one a b → IsMoment s n l now other b c
      → AreMoments s n l now (one ∷ other ∷ []) a c
  two_moments one other a b c h more = (b, h, (c, more, refl))

  pub by_one : (one : TurnMoment) (a b : Served I D S N L i d) → IsMoment s n l now one a b → MomentsLead s n l now a b
  by_one one a b h = (one ∷ [], (b, h, refl))

  pub and_on : (a b c : Served I D S N L i d) → MomentsLead s n l now a b → MomentsLead s n l now b c → MomentsLead s n l now a c
  and_on a b c (first, is) (later, more) = (first ++ later, steps_on (λ old one new. IsMoment s n l now one old new) first later a b c is more)

  -- an event happens, and so do its effects
  pub happened : (event : Event) (effects : Effects) (goings : List Going) (old given told new : Served I D S N L i d) → EventComes n now event old given
      → TakesEvent given.primary event told.primary effects → l.observes given.notes event effects told.notes
      → told.connections ≡ given.connections → told.network ≡ given.network → HasEffects n l effects goings told new → HasHappened n l now event effects goings old new
  happened event effects goings old given told new is_given takes observed still asked is = record {
    given = given;
    is_given = is_given;
    told = told;
    takes = takes;
    observed = observed;
    rest = λ k. record told { connections = still k; network = asked k };
    happened = is;
  }

  -- an event came, and was handled
  pub came_and_handled : (event : Event) (effects : Effects) (goings : List Going) (old given new : Served I D S N L i d) → EventComes n now event old given
      → IsHandled n l event effects goings given new → HasHappened n l now event effects goings old new
  came_and_handled event effects goings old given new is_given is = record {
    given = given;
    is_given = is_given;
    told = is.told;
    takes = is.takes;
    observed = is.observed;
    rest = is.rest;
    happened = is.happened;
  }

  -- a turn after which no reply waits, and one after which one does
  pub not_flushed : (rested : Option ℕ) (moments : List TurnMoment) (old new : Served I D S N L i d) → AreMoments s n l now moments old new
      → HasParts s n l now rested moments old new → NoneWaits new.primary → AreDone s n l now rested (moments ++ []) old new
  not_flushed rested moments old new done parts none =
      record { first = moments; last = []; are = refl; between = new; done = done; parts = parts; flushed = refl; flush = inl (refl, none) }

  pub flush_after : (rested : Option ℕ) (moments last : List TurnMoment) (old done new : Served I D S N L i d)
      → AreMoments s n l now moments old done → HasParts s n l now rested moments old done
      → IsFlush last → AreMoments s n l now last done new → AreDone s n l now rested (moments ++ last) old new
  flush_after rested moments last old done new first parts flush flushed =
      record { first = moments; last = last; are = refl; between = done; done = first; parts = parts; flushed = flushed; flush = inr flush }

  -- What was done is a turn, if it was noted that it begins and that it ends. What it was made with is what it left.
  pub is_turn : (rested : Option ℕ) (moments : List TurnMoment) (old begun : Served I D S N L i d) (primary primary' : Primary I D i d) (network network' : N) (notes notes' last : L)
      (connections : List (Option (Connection S))) → primary' ≡ primary → network' ≡ network → notes' ≡ notes → HasNoted l (note.Begins now) old begun
      → AreDone s n l now rested moments begun (standing primary network notes connections) → l.takes notes' note.Ends last
      → IsTurn s n l now rested moments old (standing primary' network' last connections)
  is_turn rested moments old begun primary primary' network network' notes notes' last connections p q r begins done ends = record {
    begun = begun;
    ended = standing primary' network' notes' connections;
    begins = begins;
    done = subst (AreDone s n l now rested moments begun) (λ k. standing (sym p k) (sym q k) (sym r k) connections) done;
    ends = record { rest = refl; noted = ends };
  }

  -- a connection was read or written
  pub moves : (number : ℕ) (moved : Moved) (primary : Primary I D i d) (network : N) (notes : L) (old new : List (Option (Connection S)))
      → HasBecome (MovesOn s now moved) number old new
      → IsMoment s n l now (Moves number moved) (standing primary network notes old) (standing primary network notes new)
  moves number moved primary network notes old new (c, e, there, on, is) =
      record { before = c; after = e; there = there; on = on; rest = ap (standing primary network notes) is }

  -- a connection gave a cause to close it, and was closed
  pub closes : (number : ℕ) (cause : Cause) (old told new : Served I D S N L i d) → GivesCause s now cause number old.connections
      → IsCauseNoted l number cause old told → IsClosed l number told new → IsMoment s n l now (Closes number cause) old new
  closes number cause old told new gives noted closed = record { gives = gives; told = told; noted = noted; closed = closed }

module _ {I D S N L : Type 0} {i : zone_index.Ghosts I} {d : store.Ghosts D} (l : notes.Ghosts L) where
  -- a connection was closed, and nothing else is changed by that of what had been there before
  pub closed_from : (number : ℕ) (places : List (Option (Connection S))) (told new : Served I D S N L i d) → new.connections ≡ slice_set places number None
      → IsClosed l number told new → IsClosed l number (record told { connections = places }) new
  closed_from number places told new gone is = record { effects = is.effects; told = is.told; gone = gone; network = is.network; noted = is.noted }

module _ {I D S N L : Type 0} {i : zone_index.Ghosts I} {d : store.Ghosts D} (n : Ghosts N S) (l : notes.Ghosts L) where
  going_on : (first later : List Going) (a b c : Served I D S N L i d) → AreGoing n l first a b → AreGoing n l later b c → AreGoing n l (first ++ later) a c
  going_on first later a b c is more = steps_on (λ old one new. IsSent n l one.to one.octets one.cut old new) first later a b c is more

  pub sent_on : (first later : List (To × List ℕ)) (a b c : Served I D S N L i d) → AreSent n l first a b → AreSent n l later b c → AreSent n l (first ++ later) a c
  sent_on first later a b c (goings, is, went) (next, more, goes) =
      (goings ++ next, map-append reply_to_send goings next ∙ (λ k. is k ++ more k), going_on goings next a b c went goes)

  -- one reply is sent, or its connection is closed
  pub one_sent : (to : To) (reply : List ℕ) (a b : Served I D S N L i d) → (cut : Bool) × IsSent n l to reply cut a b → AreSent n l ((to, reply) ∷ []) a b
  one_sent to reply a b (cut, is) = (record { to = to; octets = reply; cut = cut } ∷ [], refl, (b, is, refl))

  -- so is the next one of those that items tell
  pub next_sent : {P : Type 0} (told : P → To × List ℕ) (items : List P) (at : ℕ) (other : P) (a b c : Served I D S N L i d) → at < length items
      → AreSent n l (map told (take at items)) a b → (cut : Bool) × IsSent n l (told (get_or items at other)).0 (told (get_or items at other)).1 cut b c
      → AreSent n l (map told (take (at + 1) items)) a c
  next_sent told items at other a b c lt is more =
      let here = get_or items at other in
      let next : map told (take (at + 1) items) ≡ map told (take at items) ++ told here ∷ [] =
      ap (map told) (take_more items at other lt) ∙ map-append told (take at items) (here ∷ []) in
      subst (λ (out : List (To × List ℕ)). AreSent n l out a c) (sym next)
      (sent_on (map told (take at items)) (told here ∷ []) a b c is (one_sent (told here).0 (told here).1 b c more))
