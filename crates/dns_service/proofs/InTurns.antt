-- What passes the sockets of a server in its turns.
use Rattle.std.proofs.Common.{◌≡◌, ◌⊎◌, inl, inr, ℕ, ◌<◌, Bool, true, false, Option, Some, None, List, [], ◌∷◌, ◌++◌, length, refl, ap, sym, subst, ◌∙◌, append-nil, length-append, ◌+◌, arith}
use Rattle.std.specs.Prelude.{All, nat_eq}
use Rattle.std.specs.List.{AllZip, flat_map}
use Rattle.std.proofs.lemmas.List.{get_or-append-add}
use Rattle.std.proofs.lemmas.List.Elements.{All-append, filter-append}
use Rattle.dns_zone.specs.declared.index.ZoneIndex as zone_index
use Rattle.dns_store.specs.declared.zone_store.ZoneStore as store
use Rattle.dns_primary.specs.declared.event.Peer.{Peer}
use Rattle.dns_primary.specs.declared.event.To.{To}
use Rattle.dns_primary.specs.declared.event.To.TheVariants as to
use Rattle.dns_primary.specs.declared.event.Effects.{Effects}
use Rattle.dns_primary.specs.Step as events
use Rattle.dns_network.specs.declared.datagrams.Datagrams.{Datagrams}
use Rattle.dns_network.specs.declared.network.Network as network
use Rattle.dns_network.specs.declared.network.Note.TheVariants as note
use Rattle.dns_network.specs.declared.network.Observer as notes
use Rattle.dns_network.specs.declared.stream.Stream as stream
use Rattle.dns_network.specs.Closing.{Cause, HasEnded, Silent, Stalled, NoMemory, NoPlace}
use Rattle.dns_network.specs.Connections.{is_open}
use Rattle.dns_network.specs.Datagrams.{Datagram, arrived_of}
use Rattle.dns_network.specs.Delivery.{AreGoing, ClosedInstead, Going, HasNoted, IsSent, Served}
use Rattle.dns_network.specs.Steps.{AreSteps}
use Rattle.dns_network.specs.Turn.{TurnMoment, Asks, Moves, Connects, Refuses, Happens, Closes}
use Rattle.dns_network.specs.Turn.{AreMoments, EventComes, HasAsked, HasHappened, IsCauseNoted, IsMoment, IsPlaced}
use Rattle.dns_network.specs.Turns.{AreDone, AreTurns, IsRound}
use Rattle.dns_service.specs.Carried.{IsCutFrom, datagrams_of_event, datagrams_of_reply, sent_in_moment, sent_in_turns, told_in_moment, told_in_turns}
use Rattle.dns_sockets.specs.DatagramSockets.{AreInOrder, HaveBrought, HaveCarried, of_address}
use Rattle.dns_sockets.specs.declared.system.DatagramCalls.{Ghosts}
use Rattle.dns_sockets.specs.declared.udp.Udp.{Udp}
use Rattle.dns_network.proofs.Steps.{steps_on}
use Rattle.dns_sockets.specs.Udp.{HasCarried}
use Rattle.dns_sockets.proofs.Brought.{none_have, of_own, still_there}
use Rattle.dns_sockets.proofs.Carried.{carried_on}
use Rattle.dns_sockets.proofs.Each.{was_there}
use Rattle.dns_sockets.proofs.Passed.{zip_on}

-- what holds of each holds of the later ones
later_all : {X : Type 0} (P : X → Type 0) (xs ys : List X) → All P (xs ++ ys) → All P ys
later_all P xs ys all k d small =
    subst P (get_or-append-add xs ys k d) (all (length xs + k) d (omega (arith, small, length-append xs ys)))

-- no reply is told of
abbrev no_datagrams : List Datagram
no_datagrams = []

none_told : (goings : List Going) → flat_map (λ (going : Going). no_datagrams) goings ≡ []
none_told [] = refl
none_told (one ∷ rest) = none_told rest

module _ {C : Type 0} (c : Ghosts C) where
  -- These were carried, and then those.
  have_then : (given handed given_then handed_then : List Datagram) (a b d : List (Datagrams (Udp C))) → HaveCarried c given handed a b → HaveCarried c given_then handed_then b d
      → HaveCarried c (given ++ given_then) (handed ++ handed_then) a d
  have_then given handed given_then handed_then a b d first then = record {
    count = then.count ∙ first.count;
    there = All-append (λ one. one.1.local < length a) handed handed_then first.there (still_there handed_then a b first.count then.there);
    each = λ local before after there here. (let mid = was_there b d then.count local after here in
        let own = λ (one : Datagram). nat_eq one.1.local local in
        subst (λ (l : List Datagram). HasCarried c l (of_address local (handed ++ handed_then)) before after) (sym (filter-append own given given_then))
        (subst (λ (l : List Datagram). HasCarried c (of_address local given ++ of_address local given_then) l before after) (sym (filter-append own handed handed_then))
        (carried_on c (of_address local given) (of_address local handed) (of_address local given_then) (of_address local handed_then) before mid.0 after
        (first.each local before mid.0 there mid.1) (then.each local mid.0 after mid.1 here))));
  }

  -- Each is still on its address.
  order_still : (given handed : List Datagram) (old new : List (Datagrams (Udp C))) → HaveCarried c given handed old new → AreInOrder old → AreInOrder new
  order_still given handed old new is order local after now =
      let mid = was_there old new is.count local after now in
      let moved = is.each local mid.0 after mid.1 now in
      let on = order local mid.0 mid.1 in
      record {
        itself = moved.passed.local ∙ on.itself;
        arrived = later_all (λ one. one.1.local ≡ local) (of_address local handed) (arrived_of after)
            (of_own c local (of_address local given) (of_address local handed) mid.0 after moved on);
      }

  -- From sockets in order, these were given, and these handed over, of which some were cut off.
  abbrev pub Carries : List Datagram → List Datagram → List (Datagrams (Udp C)) → List (Datagrams (Udp C)) → Type 0
  Carries given told old new = AreInOrder old → (came : List Datagram) × AllZip IsCutFrom told came × HaveCarried c given came old new

  no_more : (old new : List (Datagrams (Udp C))) → new ≡ old → Carries [] [] old new
  no_more old new same = λ order. ([], tt, subst (λ (x : List (Datagrams (Udp C))). HaveCarried c [] [] old x) (sym same) (none_have c old))

  one_look : (old new : List (Datagrams (Udp C))) → HaveCarried c [] [] old new → Carries [] [] old new
  one_look old new is = λ order. ([], tt, is)

  one_sent : (one : Datagram) (old new : List (Datagrams (Udp C))) → HaveCarried c (one ∷ []) [] old new → Carries (one ∷ []) [] old new
  one_sent one old new is = λ order. ([], tt, is)

  one_came : (one : Datagram) (old new : List (Datagrams (Udp C))) → HaveBrought c old (Some one) new → Carries [] (one ∷ []) old new
  one_came one old new is = λ order.
      let (rest, carried) = is order in
      ((one.0 ++ rest, one.1) ∷ [], ((rest, refl), tt), carried)

  carries_on : (given told given_then told_then : List Datagram) (a b d : List (Datagrams (Udp C))) → Carries given told a b → Carries given_then told_then b d
      → Carries (given ++ given_then) (told ++ told_then) a d
  carries_on given told given_then told_then a b d first then = λ order.
      let (came, cut, carried) = first order in
      let (more, also, on) = then (order_still given came a b carried order) in
      (came ++ more, zip_on IsCutFrom told came told_then more cut also, have_then given came given_then more a b d carried on)

  -- What is carried in each step is carried in all.
  steps_carry : {S T : Type 0} (view : S → List (Datagrams (Udp C))) (step : S → T → S → Type 0) (given told : T → List Datagram)
      → ((old : S) (one : T) (new : S) → step old one new → Carries (given one) (told one) (view old) (view new))
      → (all : List T) (old new : S) → AreSteps step all old new → Carries (flat_map given all) (flat_map told all) (view old) (view new)
  steps_carry view step given told each [] old new same = no_more (view old) (view new) (ap view same)
  steps_carry view step given told each (one ∷ rest) old new (between, here, later) =
      carries_on (given one) (told one) (flat_map given rest) (flat_map told rest) (view old) (view between) (view new) (each old one between here)
      (steps_carry view step given told each rest between new later)

  -- A network whose datagrams pass such sockets.
  pub record Passes {N S : Type 0} (n : network.Ghosts N S) (sockets : N → List (Datagrams (Udp C))) : Type 0 where
    pub accepts : (a b : N) (got : Option (S × Peer)) → n.accepts a got b → sockets b ≡ sockets a
    pub watches : (a b : N) (number : ℕ) (given : S) (got : Option S) → n.watches a number given got b → sockets b ≡ sockets a
    pub receives : (a b : N) (got : Option Datagram) → n.receives a got b → HaveBrought c (sockets a) got (sockets b)
    pub sends : (a b : N) (peer : Peer) (octets : List ℕ) → n.sends a peer octets b → HaveCarried c ((octets, peer) ∷ []) [] (sockets a) (sockets b)
    pub looks : (a b : N) → n.looks a b → HaveCarried c [] [] (sockets a) (sockets b)

  module _ {I D S N L : Type 0} {i : zone_index.Ghosts I} {d : store.Ghosts D} (s : stream.Ghosts S) (n : network.Ghosts N S) (l : notes.Ghosts L)
      (sockets : N → List (Datagrams (Udp C))) (passes : Passes n sockets) where
    abbrev view : Served I D S N L i d → List (Datagrams (Udp C))
    view served = sockets served.network

    asked_carries : (old new : Served I D S N L i d) → HasAsked n old new → Carries [] [] (view old) (view new)
    asked_carries old new is = go is.nothing
      where
        go : n.accepts old.network None new.network ⊎ (n.receives old.network None new.network ⊎ n.looks old.network new.network) → Carries [] [] (view old) (view new)
        go (inl none) = no_more (view old) (view new) (passes.accepts old.network new.network None none)
        go (inr (inl none)) = one_look (view old) (view new) (passes.receives old.network new.network None none)
        go (inr (inr looks)) = one_look (view old) (view new) (passes.looks old.network new.network looks)

    -- A connection is closed in the stead of a reply.
    cut_same : (number : ℕ) (reply : List ℕ) (old new : Served I D S N L i d) → ClosedInstead l number reply old new → view new ≡ view old
    cut_same number reply old new is = ap sockets is.closed.network ∙ go is.cause
      where
        go : ((65535 < length reply) × (is.told ≡ old)) ⊎ ((is_open number old.connections ≡ true) × HasNoted l note.OutOfMemory old is.told) → view is.told ≡ view old
        go (inl (long, same)) = ap view same
        go (inr (there, noted)) = ap view noted.rest

    sent_carries : (going : To) (reply : List ℕ) (cut : Bool) (old new : Served I D S N L i d) → IsSent n l going reply cut old new
        → Carries (datagrams_of_reply going reply) [] (view old) (view new)
    sent_carries (to.Address peer) reply false old new h =
        one_sent (reply, peer) (view old) (view new) (passes.sends old.network new.network peer reply h.1)
    sent_carries (to.Address peer) reply true old new h = absurd h
    sent_carries (to.Connection number) reply false old new h = no_more (view old) (view new) (ap view h.0)
    sent_carries (to.Connection number) reply true old new h = no_more (view old) (view new) (cut_same number reply old new h)
    sent_carries to.Nowhere reply false old new h = no_more (view old) (view new) (ap view h)
    sent_carries to.Nowhere reply true old new h = absurd h

    came_carries : (now : ℕ) (event : events.Event) (old given : Served I D S N L i d) → EventComes n now event old given
        → Carries [] (datagrams_of_event event) (view old) (view given)
    came_carries now (events.Datagram peer octets) old given h =
        one_came (octets, peer) (view old) (view given) (passes.receives old.network given.network (Some (octets, peer)) h.1)
    came_carries now (events.Arrives number message) old given (e, f, there, handed, set) = no_more (view old) (view given) (ap view set)
    came_carries now (events.Pump number) old given h = no_more (view old) (view given) (ap view h)
    came_carries now events.Flush old given h = no_more (view old) (view given) (ap view h)
    came_carries now (events.Connect peer) old given h = absurd h
    came_carries now (events.Checkpoint index) old given h = absurd h
    came_carries now (events.Closed number) old given h = absurd h

    going_carries : (goings : List Going) (old new : Served I D S N L i d) → AreGoing n l goings old new
        → Carries (flat_map (λ going. datagrams_of_reply going.to going.octets) goings) [] (view old) (view new)
    going_carries goings old new is =
        subst (λ (told : List Datagram). Carries (flat_map (λ going. datagrams_of_reply going.to going.octets) goings) told (view old) (view new)) (none_told goings)
        (steps_carry view (λ x one y. IsSent n l one.to one.octets one.cut x y) (λ going. datagrams_of_reply going.to going.octets) (λ going. no_datagrams)
        (λ x one y h. sent_carries one.to one.octets one.cut x y h) goings old new is)

    happened_carries : (now : ℕ) (event : events.Event) (effects : Effects) (goings : List Going) (old new : Served I D S N L i d) → HasHappened n l now event effects goings old new
        → Carries (flat_map (λ going. datagrams_of_reply going.to going.octets) goings) (datagrams_of_event event) (view old) (view new)
    happened_carries now event effects goings old new h =
        let out = flat_map (λ (going : Going). datagrams_of_reply going.to going.octets) goings in
        let came : Carries [] (datagrams_of_event event) (view old) (view h.told) =
        subst (λ (x : List (Datagrams (Udp C))). Carries [] (datagrams_of_event event) (view old) x) (sym (ap view h.rest)) (came_carries now event old h.given h.is_given) in
        let went : Carries out [] (view h.told) (view new) =
        subst (λ (x : List (Datagrams (Udp C))). Carries out [] (view h.told) x) (sym (ap view h.happened.rest)) (going_carries goings h.told h.happened.between h.happened.sent) in
        subst (λ (told : List Datagram). Carries out told (view old) (view new)) (append-nil (datagrams_of_event event))
        (carries_on [] (datagrams_of_event event) out [] (view old) (view h.told) (view new) came went)

    placed_same : (now : ℕ) (stream : S) (accepted : Option ℕ) (old new : Served I D S N L i d) (asked : N) → IsPlaced n now stream accepted asked new.network old.connections new.connections
        → view new ≡ sockets asked
    placed_same now stream None old new asked h = ap sockets h.0
    placed_same now stream (Some number) old new asked (inl (let_go, set)) = passes.watches asked new.network number stream None let_go
    placed_same now stream (Some number) old new asked (inr (watched, watches, put)) = passes.watches asked new.network number stream (Some watched) watches

    cause_same : (number : ℕ) (cause : Cause) (old new : Served I D S N L i d) → IsCauseNoted l number cause old new → view new ≡ view old
    cause_same number HasEnded old new same = ap view same
    cause_same number Silent old new noted = ap view noted.rest
    cause_same number Stalled old new noted = ap view noted.rest
    cause_same number NoMemory old new noted = ap view noted.rest
    cause_same number NoPlace old new same = ap view same

    moment_carries : (now : ℕ) (one : TurnMoment) (old new : Served I D S N L i d) → IsMoment s n l now one old new
        → Carries (sent_in_moment one) (told_in_moment one) (view old) (view new)
    moment_carries now Asks old new h = asked_carries old new h
    moment_carries now (Moves number answer) old new h = no_more (view old) (view new) (ap view h.rest)
    moment_carries now (Connects peer effects) old new h =
        no_more (view old) (view new)
        (placed_same now h.stream effects.accepted old new h.asked h.taken.placed ∙ passes.accepts old.network h.asked (Some (h.stream, peer)) h.came)
    moment_carries now (Refuses peer) old new h = no_more (view old) (view new) (passes.accepts old.network new.network (Some (h.stream, peer)) h.came)
    moment_carries now (Happens event effects goings) old new h = happened_carries now event effects goings old new h
    moment_carries now (Closes number cause) old new h = no_more (view old) (view new) (ap sockets h.closed.network ∙ cause_same number cause old h.told h.noted)

    moments_carry : (now : ℕ) (moments : List TurnMoment) (old new : Served I D S N L i d) → AreMoments s n l now moments old new
        → Carries (flat_map sent_in_moment moments) (flat_map told_in_moment moments) (view old) (view new)
    moments_carry now = steps_carry view (λ x one y. IsMoment s n l now one x y) sent_in_moment told_in_moment (λ x one y h. moment_carries now one x y h)

    done_carries : (now : ℕ) (rested : Option ℕ) (moments : List TurnMoment) (old new : Served I D S N L i d) → AreDone s n l now rested moments old new
        → Carries (flat_map sent_in_moment moments) (flat_map told_in_moment moments) (view old) (view new)
    done_carries now rested moments old new is =
        let stepped = λ (x : Served I D S N L i d) (one : TurnMoment) (y : Served I D S N L i d). IsMoment s n l now one x y in
        subst (λ (all : List TurnMoment). Carries (flat_map sent_in_moment all) (flat_map told_in_moment all) (view old) (view new)) (sym is.are)
        (moments_carry now (is.first ++ is.last) old new (steps_on stepped is.first is.last old is.between new is.done is.flushed))

    rest_carries : (old new : Served I D S N L i d) → (new ≡ old) ⊎ HasAsked n old new → Carries [] [] (view old) (view new)
    rest_carries old new (inl same) = no_more (view old) (view new) (ap view same)
    rest_carries old new (inr asked) = asked_carries old new asked

    round_carries : (moments : List TurnMoment) (old new : Served I D S N L i d) → IsRound s n l moments old new
        → Carries (flat_map sent_in_moment moments) (flat_map told_in_moment moments) (view old) (view new)
    round_carries moments old new is =
        let sent = flat_map sent_in_moment moments in
        let told = flat_map told_in_moment moments in
        let turn : Carries sent told (view is.begun) (view is.ended) =
        subst (λ (x : List (Datagrams (Udp C))). Carries sent told x (view is.ended)) (ap view is.turn.begins.rest)
        (subst (λ (x : List (Datagrams (Udp C))). Carries sent told (view is.turn.begun) x) (sym (ap view is.turn.ends.rest))
        (done_carries is.now is.rested moments is.turn.begun is.turn.ended is.turn.done)) in
        subst (λ (t : List Datagram). Carries sent t (view old) (view new)) (append-nil told)
        (subst (λ (g : List Datagram). Carries g (told ++ []) (view old) (view new)) (append-nil sent)
        (carries_on sent told [] [] (view old) (view is.ended) (view new)
        (carries_on [] [] sent told (view old) (view is.begun) (view is.ended) (rest_carries old is.begun is.before) turn) (rest_carries is.ended new is.after)))

    pub turns_carry : (turns : List (List TurnMoment)) (old new : Served I D S N L i d) → AreTurns s n l turns old new
        → Carries (sent_in_turns turns) (told_in_turns turns) (view old) (view new)
    turns_carry = steps_carry view (λ x moments y. IsRound s n l moments x y) (λ moments. flat_map sent_in_moment moments) (λ moments. flat_map told_in_moment moments)
        (λ x moments y h. round_carries moments x y h)

-- ... whatever the network is.
pub carried_in : {I D S N L C : Type 0} {i : zone_index.Ghosts I} {d : store.Ghosts D} (s : stream.Ghosts S) (n : network.Ghosts N S) (l : notes.Ghosts L) (c : Ghosts C)
    (sockets : N → List (Datagrams (Udp C))) (turns : List (List TurnMoment)) (old new : Served I D S N L i d) → AreTurns s n l turns old new → Passes c n sockets
    → Carries c (sent_in_turns turns) (told_in_turns turns) (sockets old.network) (sockets new.network)
carried_in s n l c sockets turns old new made passes = turns_carry c s n l sockets passes turns old new made
