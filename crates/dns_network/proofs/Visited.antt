-- What is known of a connection while replies go out, and what a pump leaves of it.
use Rattle.std.proofs.Common.{◌≡◌, ◌⊎◌, inl, inr, ℕ, Bool, true, false, List, [], ◌∷◌, ◌++◌, map, get_or, Option, Some, None, refl, ap, sym, subst, ◌∙◌, slice_set}
use Rattle.std.specs.Prelude.{is_some}
use Rattle.dns_zone.specs.declared.index.ZoneIndex as zone_index
use Rattle.dns_store.specs.declared.zone_store.ZoneStore as store
use Rattle.dns_transfer.specs.Session.{Sending}
use Rattle.dns_records.specs.Record.{Record}
use Rattle.dns_primary.specs.declared.event.Effects.{Effects}
use Rattle.dns_primary.specs.declared.event.Reply.{Reply}
use Rattle.dns_primary.specs.declared.event.To.{To}
use Rattle.dns_primary.specs.declared.event.To.TheVariants as to
use Rattle.dns_primary.specs.declared.primary.Primary.{Primary}
use Rattle.dns_primary.specs.Flush.{Sent, all_out}
use Rattle.dns_primary.specs.Keeps.{IsKept, header_out, reply_out}
use Rattle.dns_primary.specs.Machine.{Machine, sending_at}
use Rattle.dns_primary.specs.Step as machine
use Rattle.dns_primary.specs.Step.{Pump, Step}
use Rattle.dns_primary.specs.Transfer as transfer
use Rattle.dns_network.specs.declared.connection.Connection.{Connection}
use Rattle.dns_network.specs.declared.network.Network.{Ghosts}
use Rattle.dns_network.specs.declared.network.Note.TheVariants as note
use Rattle.dns_network.specs.declared.network.Observer as notes
use Rattle.dns_network.specs.Connections.{IsNextQueued, HasPumped}
use Rattle.dns_network.specs.Delivery.{AreGoing, ClosedInstead, Going, HasEffects, HasNoted, IsSent, Served, TakesEvent, out_of, reply_to_send}
use Rattle.dns_network.proofs.Used.{Is, StaysQueued, gone_stays, pushed_stays}

-- What goes out of a pump: nothing, or one reply to its connection.
abbrev IsOneOrNone : ℕ → List (To × List ℕ) → Type 0
IsOneOrNone number out = (out ≡ []) ⊎ ((octets : List ℕ) × (out ≡ (to.Connection number, octets) ∷ []))

sent_out : (m : Machine) (number : ℕ) (s : Sending) (left : List Record) (out : List Sent) (next : Machine) → transfer.IsSentOn m number s left out next
    → IsOneOrNone number (all_out out)
sent_out m number s [] out next (is, same) = inl (ap (λ (o : List Sent). all_out o) is)
sent_out m number s (r ∷ left) out next (message, rest, sends, is, same) = inr (message, ap (λ (o : List Sent). all_out o) is)

pumped_out : (m : Machine) (number : ℕ) (sending : Option Sending) (out : List Sent) (next : Machine) → transfer.IsPumped m number sending out next
    → IsOneOrNone number (all_out out)
pumped_out m number None out next (is, same) = inl (ap (λ (o : List Sent). all_out o) is)
pumped_out m number (Some s) out next is = sent_out m number s s.left out next is

step_out : (m : Machine) (number : ℕ) (fails : List Bool) (stated : machine.Effects) (next : Machine) → Step fails m (Pump number) stated next
    → IsOneOrNone number (all_out stated.sent)
step_out m number fails stated next (inl (none, is, tells)) = pumped_out m number (sending_at number m.connections) stated.sent next is
step_out m number fails stated next (inr lacks) = elim lacks.stays [
  | inl (none, same, sent) ↦ inl (ap (λ (o : List Sent). all_out o) sent)
  | inr (inl h) ↦ absurd (let clash : false ≡ true = h.0 in cc)
  | inr (inr h) ↦ absurd (let clash : ◌≡◌ {A = Option (ℕ × ℕ)} None (Some h.0) = h.2 in cc)
]

-- where no message goes out, there is none
none_out : (headers : List (To × List ℕ)) (message : Option Reply) → headers ++ reply_out message ≡ [] → message ≡ None
none_out headers None e = refl
none_out [] (Some r) e = absurd (cc e)
none_out (h ∷ headers) (Some r) e = absurd (cc e)

none_going : (goings : List Going) → map reply_to_send goings ≡ [] → goings ≡ []
none_going [] e = refl
none_going (g ∷ goings) e = absurd (cc e)

one_going : (goings : List Going) (x : To × List ℕ) → map reply_to_send goings ≡ x ∷ [] → (g : Going) × (goings ≡ g ∷ []) × (reply_to_send g ≡ x)
one_going [] x e = absurd (cc e)
one_going (g ∷ []) x e = (g, refl, ap (λ (xs : List (To × List ℕ)). get_or xs 0 x) e)
one_going (g ∷ h ∷ goings) x e = absurd (cc e)

-- What is told of a pump is whether a message was queued, or may have been.
pub is_pumped : {S : Type 0} (number : ℕ) (told : Bool) (message : Option Reply) (old new : List (Option (Connection S))) → told ≡ is_some message
    → IsNextQueued number old new ⊎ ((message ≡ None) × (new ≡ old)) → HasPumped number told old new
is_pumped number true message old new is (inl queued) = queued
is_pumped number true message old new is (inr (none, same)) = absurd (let clash : true ≡ false = is ∙ ap (λ (o : Option Reply). is_some o) none in cc)
is_pumped number false message old new is (inl queued) = inr queued
is_pumped number false message old new is (inr (none, same)) = inl same

module _ {I D S N L : Type 0} {i : zone_index.Ghosts I} {d : store.Ghosts D} (n : Ghosts N S) (l : notes.Ghosts L) where
  abbrev places_in : Served I D S N L i d → List (Option (Connection S))
  places_in served = served.connections

  told_instead : {P Q : Type 0} (old told : Served I D S N L i d) → (P × (told ≡ old)) ⊎ (Q × HasNoted l note.OutOfMemory old told)
      → told.connections ≡ old.connections
  told_instead old told (inl (long, same)) = ap places_in same
  told_instead old told (inr (there, noted)) = ap places_in noted.rest

  cut_gone : (number : ℕ) (reply : List ℕ) (old new : Served I D S N L i d) → ClosedInstead l number reply old new
      → new.connections ≡ slice_set old.connections number None
  cut_gone number reply old new is =
      is.closed.gone ∙ ap (λ (cs : List (Option (Connection S))). slice_set cs number None) (told_instead old is.told is.cause)

  -- What is known of a connection is known after replies went out, where it stays known when one is queued.
  module _ (known : Connection S → Type 0) (number : ℕ) (on : StaysQueued known) where
    sent_stays : (target : To) (reply : List ℕ) (cut : Bool) (old new : Served I D S N L i d) → IsSent n l target reply cut old new
        → Is known number old.connections → Is known number new.connections
    sent_stays (to.Address peer) reply false old new h is = subst (Is known number) (sym (ap places_in h.0)) is
    sent_stays (to.Address peer) reply true old new h is = absurd h
    sent_stays (to.Connection target) reply false old new h is = pushed_stays known number target reply old.connections new.connections on h.1 is
    sent_stays (to.Connection target) reply true old new h is =
        subst (Is known number) (sym (cut_gone target reply old new h)) (gone_stays known number target old.connections is)
    sent_stays to.Nowhere reply false old new h is = subst (Is known number) (sym (ap places_in h)) is
    sent_stays to.Nowhere reply true old new h is = absurd h

    goings_stay : (goings : List Going) (old new : Served I D S N L i d) → AreGoing n l goings old new → Is known number old.connections
        → Is known number new.connections
    goings_stay [] old new same is = subst (Is known number) (sym (ap places_in same)) is
    goings_stay (one ∷ rest) old new (between, here, later) is =
        goings_stay rest between new later (sent_stays one.to one.octets one.cut old between here is)

    pub effects_stay : (effects : Effects) (goings : List Going) (old new : Served I D S N L i d) → HasEffects n l effects goings old new
        → Is known number old.connections → Is known number new.connections
    effects_stay effects goings old new has is =
        subst (Is known number) (sym (ap places_in has.rest)) (goings_stay goings old has.between has.sent is)

  -- the reply that goes to a connection is queued there, or the connection closed
  queued : (number : ℕ) (reply : List ℕ) (cut : Bool) (old new : Served I D S N L i d) → IsSent n l (to.Connection number) reply cut old new
      → IsNextQueued number old.connections new.connections
  queued number reply false old new h = inr (reply, h.1)
  queued number reply true old new h = inl (cut_gone number reply old new h)

  one_queued : (number : ℕ) (octets : List ℕ) (g : Going) (old between new : Served I D S N L i d) → reply_to_send g ≡ (to.Connection number, octets)
      → IsSent n l g.to g.octets g.cut old between → new.connections ≡ between.connections → IsNextQueued number old.connections new.connections
  one_queued number octets g old between new e h same =
      subst (IsNextQueued number old.connections) (sym same)
      (queued number g.octets g.cut old between (subst (λ (t : To). IsSent n l t g.octets g.cut old between) (ap (λ (x : To × List ℕ). x.0) e) h))

  sent_one : (number : ℕ) (effects : Effects) (goings : List Going) (old between : Served I D S N L i d) → map reply_to_send goings ≡ out_of effects
      → AreGoing n l goings old between → IsOneOrNone number (out_of effects)
      → IsNextQueued number old.connections between.connections ⊎ ((effects.message ≡ None) × (between.connections ≡ old.connections))
  sent_one number effects goings old between are sent (inl none) =
      let no = none_going goings (are ∙ none) in
      let same : between ≡ old = subst (λ (gs : List Going). AreGoing n l gs old between) no sent in
      inr (none_out (map header_out effects.headers.items) effects.message none, ap places_in same)
  sent_one number effects goings old between are sent (inr (octets, one)) =
      let (g, is, e) = one_going goings (to.Connection number, octets) (are ∙ one) in
      let (after, here, same) = subst (λ (gs : List Going). AreGoing n l gs old between) is sent in
      inl (one_queued number octets g old after between e here (ap places_in same))

  pub next_queued : (m : Machine) (number : ℕ) (effects : Effects) (goings : List Going) (before after : Primary I D i d) (old new : Served I D S N L i d)
      → TakesEvent before (Pump number) after effects → IsKept before m → HasEffects n l effects goings old new
      → IsNextQueued number old.connections new.connections ⊎ ((effects.message ≡ None) × (new.connections ≡ old.connections))
  next_queued m number effects goings before after old new takes kept has =
      let step = takes m kept in
      let out = subst (IsOneOrNone number) step.effects_are.sent (step_out m number step.fails step.stated step.next step.is) in
      subst (λ (cs : List (Option (Connection S))). IsNextQueued number old.connections cs ⊎ ((effects.message ≡ None) × (cs ≡ old.connections))) (sym (ap places_in has.rest))
      (sent_one number effects goings old has.between has.out has.sent out)
