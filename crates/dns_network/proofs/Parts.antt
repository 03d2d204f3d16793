-- The parts of a turn.
use Rattle.std.proofs.Common.{◌≡◌, ◌⊎◌, inl, inr, ℕ, zero, suc, Bool, true, false, ◌||◌, List, [], ◌∷◌, ◌++◌, length, Option, Some, None, refl, ap, sym, subst, ◌∙◌}
use Rattle.std.specs.Prelude.{is_some}
use Rattle.dns_zone.specs.declared.index.ZoneIndex as zone_index
use Rattle.dns_store.specs.declared.zone_store.ZoneStore as store
use Rattle.dns_primary.specs.declared.event.Reply.{Reply}
use Rattle.dns_network.specs.declared.connection.Connection.{Connection}
use Rattle.dns_network.specs.declared.stream.Moved.{Moved}
use Rattle.dns_network.specs.declared.stream.Moved.TheVariants.{Octets, Later, Ended}
use Rattle.dns_network.specs.declared.stream.Stream as stream
use Rattle.dns_network.specs.declared.network.Network.{Ghosts}
use Rattle.dns_network.specs.declared.network.Observer as notes
use Rattle.dns_network.specs.Connection.{MovesOn, held_of}
use Rattle.dns_network.specs.Closing.{HasEnded}
use Rattle.dns_network.specs.Connections.{HasBecome, HasMovedAt, HasReadAt, IsGoneOr, IsOpenWith, has_left_at, is_open, is_open_at}
use Rattle.dns_network.specs.Delivery.{Served}
use Rattle.dns_primary.specs.declared.primary.Primary.{Primary}
use Rattle.dns_network.specs.Turn.{TurnMoment, Asks, Closes, Moves, AreMoments, IsMoment}
use Rattle.dns_network.specs.Turns.{AreIdle, AreServed, EachHasItsPart, HandlesOne, HasParts, IsAccepting, IsReading, IsReceiving, UnlessEnded}
use Rattle.dns_network.proofs.Leads.{MomentsLead, moves, standing}
use Rattle.dns_network.proofs.Steps.{steps_on}

-- two that are not both
pub clashes : {A : Type 0} (b : Bool) → b ≡ true → b ≡ false → A
clashes b is not = absurd (let clash : true ≡ false = sym is ∙ not in cc)

-- none of three
pub none_of_three : (a b c : Bool) → ((a || b) || c) ≡ false → (a ≡ false) × (b ≡ false) × (c ≡ false)
none_of_three false false false none = (refl, refl, refl)
none_of_three true b c none = absurd (let clash : true ≡ false = none in cc)
none_of_three false true c none = absurd (let clash : true ≡ false = none in cc)
none_of_three false false true none = absurd (let clash : true ≡ false = none in cc)

pub is_none : (message : Option Reply) → is_some message ≡ false → message ≡ None
is_none None none = refl
is_none (Some reply) none = absurd (let clash : true ≡ false = none in cc)

module _ {S : Type 0} where
  pub open_with : (known : Connection S → Type 0) (index : Option (Option (Connection S))) → IsOpenWith known index → is_open_at index ≡ true
  open_with known None is = absurd is
  open_with known (Some None) is = absurd is
  open_with known (Some (Some c)) is = refl

  pub left_open : (index : Option (Option (Connection S))) → has_left_at index ≡ true → is_open_at index ≡ true
  left_open None left = left
  left_open (Some None) left = left
  left_open (Some (Some c)) left = refl

  pub open_become : (became : Connection S → Connection S → Type 0) (number : ℕ) (old new : List (Option (Connection S))) → HasBecome became number old new
      → is_open number old ≡ true
  open_become became number old new (c, e, there, on, set) = ap (λ (index : Option (Option (Connection S))). is_open_at index) there

  -- no message waits on what is there
  pub none_held : (index : Option (Option (Connection S))) → ((c : Connection S) → index ≡ Some (Some c) → held_of c ≡ [])
      → IsGoneOr (λ c. held_of c ≡ []) index
  none_held None none = tt
  none_held (Some None) none = tt
  none_held (Some (Some c)) none = none c refl

  -- The connection that was read or written is there: it was before, its stream ended, or it is after.
  module _ (s : stream.Ghosts S) (now number : ℕ) (moved : Moved) (old new : List (Option (Connection S))) where
    pub moved_open : is_open number old ≡ true → HasMovedAt s now number moved old new → HasBecome (MovesOn s now moved) number old new
    moved_open opened (inl (closed, lasts, same)) = clashes (is_open number old) opened closed
    moved_open opened (inr on) = on

    pub moved_ended : moved ≡ Ended → HasMovedAt s now number moved old new → HasBecome (MovesOn s now moved) number old new
    moved_ended ended (inl (closed, lasts, same)) = absurd (lasts ended)
    moved_ended ended (inr on) = on

    pub moved_there : is_open number new ≡ true → HasMovedAt s now number moved old new → HasBecome (MovesOn s now moved) number old new
    moved_there opened (inl (closed, lasts, same)) =
        clashes (is_open number new) opened (ap (λ (cs : List (Option (Connection S))). is_open number cs) same ∙ closed)
    moved_there opened (inr on) = on

    -- one that is read later did not end
    pub read_ended : moved ≡ Ended → HasReadAt s now number moved old new → HasMovedAt s now number moved old new
    read_ended ended (inl on) = on
    read_ended ended (inr (later, is, same)) = absurd (let clash : Later ≡ Ended = sym is ∙ ended in cc)

-- what is done after a stream answered
pub not_ended : (number : ℕ) (answer : Moved) (done : List TurnMoment → Type 0) (rest : List TurnMoment) → (answer ≡ Ended → ⊥) → done rest
    → UnlessEnded number answer done rest
not_ended number (Octets count) done rest lasts is = is
not_ended number Later done rest lasts is = is
not_ended number Ended done rest lasts is = absurd (lasts refl)

pub has_ended : (number : ℕ) (answer : Moved) (done : List TurnMoment → Type 0) → answer ≡ Ended → UnlessEnded number answer done (Closes number HasEnded ∷ [])
has_ended number answer done is = subst (λ (a : Moved). UnlessEnded number a done (Closes number HasEnded ∷ [])) (sym is) refl

-- What is done one after the other is idle if each of it is.
pub idle_on : (first last : List TurnMoment) → AreIdle first → AreIdle last → AreIdle (first ++ last)
idle_on [] last is more = more
idle_on (one ∷ rest) last (idle, is) more = (idle, idle_on rest last is more)

idle_asked : (moments : List TurnMoment) → moments ≡ Asks ∷ [] → AreIdle moments
idle_asked moments is = subst AreIdle (sym is) (tt, tt)

module _ {I D S N L : Type 0} {i : zone_index.Ghosts I} {d : store.Ghosts D} (s : stream.Ghosts S) (n : Ghosts N S) (l : notes.Ghosts L) (now : ℕ) where
  -- moments, one after the other
  pub moments_on : (first last : List TurnMoment) (a b c : Served I D S N L i d) → AreMoments s n l now first a b → AreMoments s n l now last b c
      → AreMoments s n l now (first ++ last) a c
  moments_on first last a b c is more = steps_on (λ x one y. IsMoment s n l now one x y) first last a b c is more

  -- The connection was read, if it is open and is not read later; its stream did not end; and then this was done.
  pub read_then : (number : ℕ) (answer : Moved) (rest : List TurnMoment) (primary : Primary I D i d) (network : N) (notes : L) (old mid : List (Option (Connection S)))
      (new : Served I D S N L i d) → (answer ≡ Ended → ⊥) → HasReadAt s now number answer old mid → (is_open number mid ≡ true) ⊎ (rest ≡ [])
      → AreMoments s n l now rest (standing primary network notes mid) new → HandlesOne number rest new
      → (moments : List TurnMoment) × IsReading s n l now number moments (standing primary network notes old) new × (answer ≡ Later → AreIdle rest → AreIdle moments)
  read_then number answer rest primary network notes old mid new lasts (inl (inl (closed, moved_none, same))) (inl opened) are handles =
      clashes (is_open number mid) opened (ap (is_open number) same ∙ closed)
  read_then number answer rest primary network notes old mid new lasts (inl (inl (closed, moved_none, same))) (inr none) are handles = (
    rest,
    record {
      are = subst (λ (cs : List (Option (Connection S))). AreMoments s n l now rest (standing primary network notes cs) new) same are;
      reads = inl (closed, none);
    },
    λ is idle. idle,
  )
  read_then number answer rest primary network notes old mid new lasts (inl (inr on)) there are handles = (
    Moves number answer ∷ rest,
    record {
      are = (standing primary network notes mid, moves s n l now number answer primary network notes old mid on, are);
      reads = inr (inr (inl (answer, rest, refl, not_ended number answer (λ done. HandlesOne number done new) rest lasts handles)));
    },
    λ is idle. (is, idle),
  )
  read_then number answer rest primary network notes old mid new lasts (inr (later, is, same)) there are handles = (
    rest,
    record {
      are = subst (λ (cs : List (Option (Connection S))). AreMoments s n l now rest (standing primary network notes cs) new) same are;
      reads = inr (inl (later, handles));
    },
    λ is idle. idle,
  )

  each_moments : (number : ℕ) (moments : List TurnMoment) (old new : Served I D S N L i d) → EachHasItsPart s n l now number moments old new
      → AreMoments s n l now moments old new
  each_moments zero moments old new (none, same) = subst (λ (ms : List TurnMoment). AreMoments s n l now ms old new) (sym none) same
  each_moments (suc number) moments old new (first, last, between, is, before, part) =
      subst (λ (ms : List TurnMoment). AreMoments s n l now ms old new) (sym is)
      (moments_on first last old between new (each_moments number first old between before) part.are)

  served_moments : (rested : Option ℕ) (moments : List TurnMoment) (old new : Served I D S N L i d) → AreServed s n l now rested moments old new
      → AreMoments s n l now moments old new
  served_moments rested moments old new (inl each) = each_moments (length old.connections) moments old new each
  served_moments rested moments old new (inr passed) =
      subst (λ (ms : List TurnMoment). AreMoments s n l now ms old new) (sym passed.none) passed.same

  pub served_leads : (rested : Option ℕ) (moments : List TurnMoment) (old new : Served I D S N L i d) → AreServed s n l now rested moments old new
      → MomentsLead s n l now old new
  served_leads rested moments old new is = (moments, served_moments rested moments old new is)

  -- What was rested before rests in that second.
  rests_before : (before after : Option ℕ) (moments : List TurnMoment) (old new : Served I D S N L i d) → (after ≡ Some now → before ≡ Some now)
      → AreServed s n l now after moments old new → AreServed s n l now before moments old new
  rests_before before after moments old new rests (inl each) = inl each
  rests_before before after moments old new rests (inr passed) =
      inr (record { rests = rests passed.rests; still = passed.still; none = passed.none; same = passed.same })

  -- The parts before the flush: what is done in them, that they are all, and that nothing was done where each says so.
  module _ (rested after : Option ℕ) (accepting receiving serving : List TurnMoment) (one two : Bool) (old accepted received new : Served I D S N L i d)
      (accepts : IsAccepting s n l now one accepting old accepted) (receives : IsReceiving s n l now two receiving accepted received)
      (serves : AreServed s n l now after serving received new) where
    pub parts_moments : AreMoments s n l now (accepting ++ receiving ++ serving) old new
    parts_moments =
        moments_on (accepting ++ receiving) serving old received new
        (moments_on accepting receiving old accepted received accepts.are receives.are) (served_moments after serving received new serves)

    pub parts_are : (after ≡ Some now → rested ≡ Some now) → HasParts s n l now rested (accepting ++ receiving ++ serving) old new
    parts_are rests = record {
      accepted = accepted;
      received = received;
      accepting = accepting;
      receiving = receiving;
      serving = serving;
      are = refl;
      accepts = (one, accepts);
      receives = (two, receives);
      serves = rests_before rested after serving received new rests serves;
    }

    pub parts_idle : one ≡ false → two ≡ false → AreIdle serving → AreIdle (accepting ++ receiving ++ serving)
    parts_idle none neither idle =
        idle_on (accepting ++ receiving) serving
        (idle_on accepting receiving (idle_asked accepting (accepts.none none).0) (idle_asked receiving (receives.none neither).0)) idle
