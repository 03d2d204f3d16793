-- Transfers that are open are touched by the pumps and the end of their connection alone.
use Rattle.std.proofs.Common.{◌≡◌, ◌⊎◌, inl, inr, ⊎_elim, ℕ, Bool, true, false, List, [], ◌∷◌, map, Option, Some, None, Result, Ok, Err, refl, sym, ap, subst, ◌∙◌}
use Rattle.std.specs.Prelude.{◌&&◌, ◌==◌, is_none, is_some, option_map, slice_get}
use Rattle.dns_records.specs.Record.{Record}
use Rattle.dns_wire.specs.Message.{Question, Message}
use Rattle.dns_wire.specs.declared.codes.Rcode.{Rcode}
use Rattle.dns_request.specs.declared.request.Transport.TheVariants.{Tcp, Udp}
use Rattle.dns_request.specs.Request as request
use Rattle.dns_request.specs.Request.{request_of}
use Rattle.dns_zone.specs.Zone.{Zone}
use Rattle.dns_answer.specs.Answer.{Handled, NoReply, Replies, Update, Transfer, handled, handled_as}
use Rattle.dns_update.specs.Verdict.{Verdict, Refuses, Keeps, Leaves, verdict}
use Rattle.dns_versions.specs.Held.{newest_zone}
use Rattle.dns_versions.specs.Staging.{has_room}
use Rattle.dns_transfer.specs.Refusal.{client_serial}
use Rattle.dns_transfer.specs.Session.{Sending, Version, Opens, IsTransferOpened}
use Rattle.dns_primary.specs.declared.event.Peer.{Peer}
use Rattle.dns_primary.specs.declared.event.To.{To}
use Rattle.dns_primary.specs.declared.event.To.TheVariants as to
use Rattle.dns_primary.specs.Machine.{ZoneState, Machine, kept_of, shown_zones, peer_at, sending_at}
use Rattle.dns_primary.specs.Flush.{Sent, flushed, flush_sends}
use Rattle.dns_primary.specs.Update.{Asked, Admission, Rejects, Admits, admission, accepted_in, judged_in, admitted, is_full, room_lacked}
use Rattle.dns_primary.specs.Transfer.{OpensFrom, TransferBegins, IsStarted, IsSentOn, IsPumped, is_free, may_have, open_still, set_transfer, transfer_version, zone_named}
use Rattle.dns_primary.specs.Step.{Event, Datagram, Connect, Arrives, Flush, Checkpoint, Pump, Closed, IsCheckpointed, IsUpdateBegun, IsUpdated, Effects, IsRequestHandled, IsArrived, IsConnected, Goes, Lacks, Step, takes_memory}
use Rattle.dns_primary.specs.Connections.{closed}
use Rattle.dns_primary.specs.Stop.{IsStopped, IsConfigured}
use Rattle.dns_primary.specs.Runs.{Moment, Took, Stopped, Configured, Run}
use Rattle.dns_primary.specs.Continues.{OpensOn, GivesNext, GoesOn, Continues}
use Rattle.dns_primary.proofs.Zonewise.{tested}
use Rattle.dns_primary.proofs.Connected.{is_one, test_same, by_test}
use Rattle.dns_primary.proofs.Transferred.{allowed_of, allowed_when, closed_here, closed_other, made_sending, sending_other, sending_same, there_open}

abbrev SameConnections : Machine → Machine → Type 0
SameConnections old new = new.connections ≡ old.connections

-- an update touches no connection
accepted_same : (m : Machine) (a : Asked) (index : ℕ) (z : ZoneState) (records : List Record) → SameConnections m (accepted_in m a index z records).0
accepted_same m a index z records =
    let P = λ (r : Machine × List Sent). SameConnections m r.0 in
    tested P (has_room (kept_of z) records) _ _ (λ _. refl) (λ _. refl)

judged_same : (m : Machine) (a : Asked) (index : ℕ) (z : ZoneState) (v : Verdict) → SameConnections m (judged_in m a index z v).0
judged_same m a index z (Refuses rcode) = refl
judged_same m a index z Keeps = refl
judged_same m a index z (Leaves records) = accepted_same m a index z records

admitted_same : (m : Machine) (a : Asked) (d : Admission) → SameConnections m (admitted m a d).0
admitted_same m a (Rejects rcode) = refl
admitted_same m a (Admits index z) = judged_same m a index z (verdict (newest_zone (kept_of z)) a.message.answers a.message.authorities)

begun_same : (fails : List Bool) (old : Machine) (lacked : Option (ℕ × ℕ)) (first : Effects) (mid : Machine) → IsUpdateBegun fails old lacked first mid → SameConnections old mid
begun_same fails old None first mid g =
    ap (λ (m : Machine). m.connections) (g.1).state ∙ tested (λ (r : Machine × List Sent). SameConnections old r.0) (is_full old) (flushed fails old, flush_sends fails old) (old, []) (λ _. refl) (λ _. refl)
begun_same fails old (Some lacked) first mid g = ap (λ (m : Machine). m.connections) (g.3).is

updated_same : (fails : List Bool) (old : Machine) (a : Asked) (effects : Effects) (new : Machine) → IsUpdated fails old a effects new → SameConnections old new
updated_same fails old a effects new u =
    ap (λ (m : Machine). m.connections) u.state ∙ admitted_same u.mid a (admission (u.mid).zones a) ∙ begun_same fails old (room_lacked old a) u.first u.mid u.begun

checkpointed_same : (fails : List Bool) (old : Machine) (index : ℕ) (o : Option ZoneState) (effects : Effects) (new : Machine) → IsCheckpointed fails old index o effects new → SameConnections old new
checkpointed_same fails old index None effects new g = ap (λ (m : Machine). m.connections) (g.1).state
checkpointed_same fails old index (Some z) effects new g = begun_same fails old (Some (index, 0)) effects new g

lacks_same : (fails : List Bool) (old : Machine) (event : Event) (effects : Effects) (new : Machine) → Lacks fails old event effects new → SameConnections old new
lacks_same fails old event effects new l = elim (l.stays) [
  | inl c ↦ ap (λ (m : Machine). m.connections) c.1
  | inr r ↦ elim r [
    | inl c ↦ ap (λ (m : Machine). m.connections) c.2
    | inr c ↦ begun_same fails old (Some c.0) c.1 new c.3
  ]
]

module _ (number : ℕ) where
  abbrev Same : Machine → Machine → Type 0
  Same old new = sending_at number new.connections ≡ sending_at number old.connections

  same_by : (old new : Machine) → SameConnections old new → Same old new
  same_by old new e = ap (sending_at number) e

  -- a request opens one
  record IsOpenedBy (old : Machine) (target : To) (peer : Peer) (h : Handled) (new : Machine) : Type 0 where
    octets : List ℕ
    message : Message
    question : Question
    sending : Sending
    here : target ≡ to.Connection number
    asks : h ≡ Transfer octets message question
    opens : OpensFrom old target peer octets message question (Ok sending)
    is : sending_at number new.connections ≡ Some sending

  begins : (old : Machine) (target : To) (peer : Peer) (octets : List ℕ) (message : Message) (question : Question) (s : Sending) (out : List Sent) (new : Machine)
      → ((n : ℕ) → target ≡ to.Connection n → peer_at n old.connections ≡ None → ⊥)
      → OpensFrom old target peer octets message question (Ok s) → TransferBegins old target s out new → Same old new ⊎ IsOpenedBy old target peer (Transfer octets message question) new
  begins old (to.Connection n) peer octets message question s out new there o h = by_test (n == number)
      (λ e.
      (let same = is_one n number e in
      inr (record {
        octets = octets;
        message = message;
        question = question;
        sending = s;
        here = ap (λ (k : ℕ). to.Connection k) same;
        asks = refl;
        opens = o;
        is = ap (λ (m : Machine). sending_at number m.connections) h.1
            ∙ subst (λ (k : ℕ). (peer_at k old.connections ≡ None → ⊥) → sending_at k (map (set_transfer n (Some s)) old.connections) ≡ Some s) same (sending_same n (Some s) old.connections) (λ none. there n refl (subst (λ (k : ℕ). peer_at k old.connections ≡ None) (sym same) none));
      })))
      (λ e. inl (ap (λ (m : Machine). sending_at number m.connections) h.1 ∙ sending_other n (Some s) number old.connections (λ same. (let clash : true ≡ false = sym (test_same n number same) ∙ e in cc))))
  begins old (to.Address p) peer octets message question s out new there o h = inl (same_by old new (ap (λ (m : Machine). m.connections) h.4))
  begins old to.Nowhere peer octets message question s out new there o h = inl (same_by old new (ap (λ (m : Machine). m.connections) h.1))

  starts : (old : Machine) (target : To) (peer : Peer) (octets : List ℕ) (message : Message) (question : Question) (r : Result Sending Rcode) (out : List Sent) (new : Machine)
      → ((n : ℕ) → target ≡ to.Connection n → peer_at n old.connections ≡ None → ⊥)
      → OpensFrom old target peer octets message question r → IsStarted old target octets message question r out new → Same old new ⊎ IsOpenedBy old target peer (Transfer octets message question) new
  starts old target peer octets message question (Ok s) out new there o h = begins old target peer octets message question s out new there o h
  starts old target peer octets message question (Err rcode) out new there o h = inl (same_by old new (ap (λ (m : Machine). m.connections) h.1))

  served : (fails : List Bool) (old : Machine) (target : To) (peer : Peer) (h : Handled) (effects : Effects) (new : Machine)
      → ((n : ℕ) → target ≡ to.Connection n → peer_at n old.connections ≡ None → ⊥) → IsRequestHandled fails old target peer h effects new → Same old new ⊎ IsOpenedBy old target peer h new
  served fails old target peer NoReply effects new there g = inl (same_by old new (ap (λ (m : Machine). m.connections) (g.1).state))
  served fails old target peer (Replies reply) effects new there g = inl (same_by old new (ap (λ (m : Machine). m.connections) (g.1).state))
  served fails old target peer (Update message question) effects new there g =
      inl (same_by old new (updated_same fails old (record { to = target; address = peer.address; message = message; zone = question }) effects new g))
  served fails old target peer (Transfer octets message question) effects new there g =
      starts old target peer octets message question (g.1).0 effects.sent new there (g.1).1 (g.1).2

  -- none is opened where one is open
  is_taken : (old : Machine) (s t : Sending) (peer : Peer) (octets : List ℕ) (message : Message) (question : Question) → sending_at number old.connections ≡ Some s
      → OpensFrom old (to.Connection number) peer octets message question (Ok t) → ⊥
  is_taken old s t peer octets message question at o =
      let free = allowed_when Tcp question (client_serial question message.authorities) (is_some (option_map transfer_version (zone_named question.name old.zones))) (may_have peer.address (zone_named question.name old.zones))
      (is_free (to.Connection number) old.connections) o.0 in
      let clash : false ≡ true = ap is_none (sym at) ∙ free in
      cc

  not_taken : (old : Machine) (s : Sending) (t : To) (peer : Peer) (h : Handled) (new : Machine) → sending_at number old.connections ≡ Some s → Same old new ⊎ IsOpenedBy old t peer h new → sending_at number new.connections ≡ Some s
  not_taken old s t peer h new at (inl same) = same ∙ at
  not_taken old s t peer h new at (inr o) = absurd
      (is_taken old s o.sending peer o.octets o.message o.question at (subst (λ (x : To). OpensFrom old x peer o.octets o.message o.question (Ok o.sending)) o.here o.opens))

  -- what opens one is of the version that is shown
  first_true : (a b : Bool) → (a && b) ≡ true → a ≡ true
  first_true true b e = refl
  first_true false b e = absurd (cc e)

  record IsOfShown (old : Machine) (peer : Peer) (octets : List ℕ) (message : Message) (question : Question) (t : Sending) (o : Option ZoneState) : Type 0 where
    zone : ZoneState
    named : o ≡ Some zone
    allowed : zone.setting.may_transfer peer.address ≡ true
    opened : IsTransferOpened Tcp octets message question (transfer_version zone) t

  opened_zone : (old : Machine) (peer : Peer) (octets : List ℕ) (message : Message) (question : Question) (t : Sending) (o : Option ZoneState)
      → Opens Tcp octets message question (option_map transfer_version o) (may_have peer.address o && is_free (to.Connection number) old.connections) (Ok t)
      → IsOfShown old peer octets message question t o
  opened_zone old peer octets message question t None opens = absurd (let clash : ◌≡◌ {A = Option Version} None (Some opens.1) = opens.2 in cc)
  opened_zone old peer octets message question t (Some z) opens =
      let same : transfer_version z ≡ opens.1 = (let e : Some (transfer_version z) ≡ Some opens.1 = opens.2 in cc) in
      record {
        zone = z;
        named = refl;
        allowed = first_true (z.setting.may_transfer peer.address) (is_free (to.Connection number) old.connections)
            (allowed_of Tcp question (client_serial question message.authorities) true (z.setting.may_transfer peer.address && is_free (to.Connection number) old.connections) opens.0);
        opened = subst (λ (v : Version). IsTransferOpened Tcp octets message question v t) (sym same) opens.3;
      }

  same_octets : (zones : List Zone) (octets others : List ℕ) (message : Message) (question : Question) (r : request.Request) → handled_as zones octets Tcp r ≡ Transfer others message question → others ≡ octets
  same_octets zones octets others message question request.Ignored e = absurd (cc e)
  same_octets zones octets others message question (request.Refused rcode) e = absurd (cc e)
  same_octets zones octets others message question (request.NotServed m q rcode) e = absurd (cc e)
  same_octets zones octets others message question (request.Query m q) e = absurd (cc e)
  same_octets zones octets others message question (request.Update m q) e = absurd (cc e)
  same_octets zones octets others message question (request.Transfer m q) e = cc e

  opened_on : (old : Machine) (octets : List ℕ) (peer : Peer) (new : Machine) (s : Sending) → peer_at number old.connections ≡ Some peer → sending_at number new.connections ≡ Some s
      → IsOpenedBy old (to.Connection number) peer (handled (shown_zones old) octets Tcp) new → OpensOn old number (Arrives number octets) s
  opened_on old octets peer new s from at o =
      let same : o.octets ≡ octets = same_octets (shown_zones old) octets o.octets o.message o.question (request_of octets Tcp) o.asks in
      let is : o.sending ≡ s = (let e : Some o.sending ≡ Some s = sym o.is ∙ at in cc) in
      let z = opened_zone old peer o.octets o.message o.question o.sending (zone_named (o.question).name old.zones) o.opens in
      record {
        octets = octets;
        message = o.message;
        question = o.question;
        peer = peer;
        zone = z.zone;
        arrives = refl;
        from = from;
        asks = o.asks ∙ ap (λ (x : List ℕ). Transfer x o.message o.question) same;
        named = z.named;
        allowed = z.allowed;
        opened = subst (λ (x : Sending). IsTransferOpened Tcp octets o.message o.question (transfer_version z.zone) x) is (subst (λ (x : List ℕ). IsTransferOpened Tcp x o.message o.question (transfer_version z.zone) o.sending) same z.opened);
      }

  -- each event
  nowhere_there : (old : Machine) (p : Peer) (n : ℕ) → to.Address p ≡ to.Connection n → peer_at n old.connections ≡ None → ⊥
  nowhere_there old p n e none = cc e

  is_there : (old : Machine) (k : ℕ) (peer : Peer) → peer_at k old.connections ≡ Some peer → (n : ℕ) → to.Connection k ≡ to.Connection n → peer_at n old.connections ≡ None → ⊥
  is_there old k peer from n e none =
      let same : k ≡ n = cc e in
      let clash : Some peer ≡ None = sym from ∙ ap (λ (i : ℕ). peer_at i old.connections) same ∙ none in
      cc

  arrived : (fails : List Bool) (old : Machine) (k : ℕ) (o : Option Peer) (octets : List ℕ) (effects : Effects) (new : Machine) → peer_at k old.connections ≡ o → IsArrived fails old k o octets effects new
      → Same old new ⊎ ((peer : Peer) × (peer_at k old.connections ≡ Some peer) × IsOpenedBy old (to.Connection k) peer (handled (shown_zones old) octets Tcp) new)
  arrived fails old k None octets effects new from g = inl (same_by old new (ap (λ (m : Machine). m.connections) (g.1).state))
  arrived fails old k (Some peer) octets effects new from g =
      ⊎_elim (λ h. inl h) (λ h. inr (peer, from, h)) (served fails old (to.Connection k) peer (handled (shown_zones old) octets Tcp) effects new (is_there old k peer from) g)

  connected_same : (old new : Machine) (peer : Peer) (effects : Effects) → IsConnected old peer effects new → Same old new
  connected_same old new peer effects (inl c) =
      ap (λ (m : Machine). sending_at number m.connections) c.state ∙ sym (made_sending c.number number peer old.connections c.free)
  connected_same old new peer effects (inr g) = same_by old new (ap (λ (m : Machine). m.connections) (g.1).state)

  sent_elsewhere : (old : Machine) (n : ℕ) (s : Sending) (left : List Record) (out : List Sent) (new : Machine) → (n ≡ number → ⊥) → IsSentOn old n s left out new → Same old new
  sent_elsewhere old n s [] out new other h = ap (λ (m : Machine). sending_at number m.connections) h.1 ∙ sending_other n None number old.connections other
  sent_elsewhere old n s (r ∷ left) out new other h =
      ap (λ (m : Machine). sending_at number m.connections) h.4 ∙ sending_other n (open_still (h.1).left h.1) number old.connections other

  pumped_elsewhere : (old : Machine) (n : ℕ) (o : Option Sending) (out : List Sent) (new : Machine) → (n ≡ number → ⊥) → IsPumped old n o out new → Same old new
  pumped_elsewhere old n None out new other h = same_by old new (ap (λ (m : Machine). m.connections) h.1)
  pumped_elsewhere old n (Some s) out new other h = sent_elsewhere old n s s.left out new other h

  is_elsewhere : (n : ℕ) → (n == number) ≡ false → n ≡ number → ⊥
  is_elsewhere n e same = (let clash : true ≡ false = sym (test_same n number same) ∙ e in cc)

  -- one that is open
  untouched : (s : Sending) (event : Event) (effects : Effects) (next : Option Sending) → (event ≡ Pump number → ⊥) → (event ≡ Closed number → ⊥) → next ≡ Some s → GoesOn number s event effects next
  untouched s event effects next pumps closes is = record { pumped = λ e. absurd (pumps e); closed = λ e. absurd (closes e); others = λ _ _. is }

  pumped_here : (old : Machine) (s : Sending) (left : List Record) (effects : Effects) (new : Machine) → s.left ≡ left → sending_at number old.connections ≡ Some s → IsSentOn old number s left effects.sent new
      → GivesNext number s effects (sending_at number new.connections)
  pumped_here old s [] effects new none at h =
      inr (inr (none, h.0, ap (λ (m : Machine). sending_at number m.connections) h.1 ∙ sending_same number None old.connections (there_open number s old.connections at)))
  pumped_here old s (r ∷ left) effects new some at h =
      inl (h.0, h.1, h.2, h.3, ap (λ (m : Machine). sending_at number m.connections) h.4 ∙ sending_same number (open_still (h.1).left h.1) old.connections (there_open number s old.connections at))

  pump_goes : (old : Machine) (n : ℕ) (s : Sending) (effects : Effects) (new : Machine) → sending_at number old.connections ≡ Some s → IsPumped old n (sending_at n old.connections) effects.sent new
      → GoesOn number s (Pump n) effects (sending_at number new.connections)
  pump_goes old n s effects new at h = by_test (n == number)
      (λ e.
      (let same = is_one n number e in
      let here = subst (λ (k : ℕ). IsPumped old k (sending_at k old.connections) effects.sent new) same h in
      record {
        pumped = λ _. pumped_here old s s.left effects new refl at (subst (λ (o : Option Sending). IsPumped old number o effects.sent new) at here);
        closed = λ c. absurd (cc c);
        others = λ no _. absurd (no (ap (λ (k : ℕ). Pump k) same));
      }))
      (λ e. untouched s (Pump n) effects (sending_at number new.connections) (λ p. is_elsewhere n e (cc p)) (λ p. cc p)
      (pumped_elsewhere old n (sending_at n old.connections) effects.sent new (is_elsewhere n e) h ∙ at))

  close_goes : (old : Machine) (n : ℕ) (s : Sending) (effects : Effects) (new : Machine) → sending_at number old.connections ≡ Some s → new ≡ closed n old
      → GoesOn number s (Closed n) effects (sending_at number new.connections)
  close_goes old n s effects new at is = by_test (n == number)
      (λ e.
      (let same = is_one n number e in
      record {
        pumped = λ c. absurd (cc c);
        closed = λ _. ap (λ (m : Machine). sending_at number m.connections) (is ∙ ap (λ (k : ℕ). closed k old) same) ∙ closed_here number old.connections;
        others = λ _ no. absurd (no (ap (λ (k : ℕ). Closed k) same));
      }))
      (λ e. untouched s (Closed n) effects (sending_at number new.connections) (λ p. cc p) (λ p. is_elsewhere n e (cc p))
      (ap (λ (m : Machine). sending_at number m.connections) is ∙ closed_other n number old.connections (is_elsewhere n e) ∙ at))

  event_goes : (fails : List Bool) (old : Machine) (event : Event) (effects : Effects) (new : Machine) (s : Sending) → sending_at number old.connections ≡ Some s → Goes fails old event effects new
      → GoesOn number s event effects (sending_at number new.connections)
  event_goes fails old (Datagram peer octets) effects new s at g =
      untouched s (Datagram peer octets) effects _ (λ e. cc e) (λ e. cc e)
      (not_taken old s (to.Address peer) peer (handled (shown_zones old) octets Udp) new at (served fails old (to.Address peer) peer (handled (shown_zones old) octets Udp) effects new (nowhere_there old peer) g))
  event_goes fails old (Connect peer) effects new s at g = untouched s (Connect peer) effects _ (λ e. cc e) (λ e. cc e) (connected_same old new peer effects g.1 ∙ at)
  event_goes fails old (Arrives k octets) effects new s at g =
      untouched s (Arrives k octets) effects _ (λ e. cc e) (λ e. cc e)
      (⊎_elim (λ same. same ∙ at) (λ o. not_taken old s (to.Connection k) o.0 (handled (shown_zones old) octets Tcp) new at (inr o.2)) (arrived fails old k (peer_at k old.connections) octets effects new refl g))
  event_goes fails old Flush effects new s at g = untouched s Flush effects _ (λ e. cc e) (λ e. cc e) (same_by old new (ap (λ (m : Machine). m.connections) (g.1).state) ∙ at)
  event_goes fails old (Checkpoint index) effects new s at g =
      untouched s (Checkpoint index) effects _ (λ e. cc e) (λ e. cc e) (same_by old new (checkpointed_same fails old index (slice_get old.zones index) effects new g) ∙ at)
  event_goes fails old (Pump n) effects new s at g = pump_goes old n s effects new at g.1
  event_goes fails old (Closed n) effects new s at g = close_goes old n s effects new at (g.1).state

  nothing_fails : (old : Machine) (fails : List Bool) (effects : Effects) (new : Machine) → Lacks fails old (Pump number) effects new → effects.sent ≡ []
  nothing_fails old fails effects new l = elim (l.stays) [
    | inl c ↦ c.2
    | inr r ↦ elim r [
      | inl c ↦ absurd (let clash : false ≡ true = c.0 in cc)
      | inr c ↦ absurd (let clash : ◌≡◌ {A = Option (ℕ × ℕ)} None (Some c.0) = c.2 in cc)
    ]
  ]

  lacks_goes : (fails : List Bool) (old : Machine) (event : Event) (effects : Effects) (new : Machine) (s : Sending) → sending_at number old.connections ≡ Some s → Lacks fails old event effects new
      → GoesOn number s event effects (sending_at number new.connections)
  lacks_goes fails old event effects new s at l =
      let next = same_by old new (lacks_same fails old event effects new l) ∙ at in
      record {
        pumped = λ e. inr (inl (l.noted, nothing_fails old fails effects new (subst (λ (x : Event). Lacks fails old x effects new) e l), next));
        closed = λ e. absurd (let clash : false ≡ true = sym (ap takes_memory e) ∙ l.takes in cc);
        others = λ _ _. next;
      }

  pub step_goes : (fails : List Bool) (old : Machine) (event : Event) (effects : Effects) (new : Machine) (s : Sending) → sending_at number old.connections ≡ Some s → Step fails old event effects new
      → GoesOn number s event effects (sending_at number new.connections)
  step_goes fails old event effects new s at (inl g) = event_goes fails old event effects new s at g
  step_goes fails old event effects new s at (inr l) = lacks_goes fails old event effects new s at l

  -- along a run
  stopped_none : (tries : ℕ) (old : Machine) (event : Event) (new : Machine) → IsStopped tries old event new → sending_at number new.connections ≡ None
  stopped_none tries old event new r = ap (sending_at number) r.connections

  configured_none : (old new : Machine) → IsConfigured old new → sending_at number new.connections ≡ None
  configured_none old new c = ap (λ (m : Machine). sending_at number m.connections) c.rest ∙ ap (sending_at number) c.connections

  pub run_goes : (run : List Moment) (start : Machine) (o : Option Sending) → sending_at number start.connections ≡ o → Run start run → Continues number run o
  run_goes [] start o at h = tt
  run_goes (t ∷ rest) start None at h = tt
  run_goes (Took event fails effects new ∷ rest) start (Some s) at h =
      (step_goes fails start event effects new s at h.0, run_goes rest new (sending_at number new.connections) refl h.1)
  run_goes (Stopped event tries new ∷ rest) start (Some s) at h = stopped_none tries start event new h.0
  run_goes (Configured new ∷ rest) start (Some s) at h = configured_none start new h.0

  -- none that is open comes of nothing
  is_new : {P : Type 0} (old new : Machine) (s : Sending) → sending_at number old.connections ≡ None → sending_at number new.connections ≡ Some s → Same old new → P
  is_new old new s none some same = absurd (let clash : None ≡ Some s = sym (same ∙ none) ∙ some in cc)

  arrives_opened : (fails : List Bool) (old : Machine) (k : ℕ) (octets : List ℕ) (effects : Effects) (new : Machine) (s : Sending) → sending_at number old.connections ≡ None → sending_at number new.connections ≡ Some s
      → IsArrived fails old k (peer_at k old.connections) octets effects new → OpensOn old number (Arrives k octets) s
  arrives_opened fails old k octets effects new s none some g =
      ⊎_elim (λ same. is_new old new s none some same)
      (λ o.
      (let here : k ≡ number = (let e : to.Connection k ≡ to.Connection number = (o.2).here in cc) in
      subst (λ (i : ℕ). OpensOn old number (Arrives i octets) s) (sym here)
      (opened_on old octets o.0 new s (subst (λ (i : ℕ). peer_at i old.connections ≡ Some o.0) here o.1) some
      (subst (λ (i : ℕ). IsOpenedBy old (to.Connection i) o.0 (handled (shown_zones old) octets Tcp) new) here o.2))))
      (arrived fails old k (peer_at k old.connections) octets effects new refl g)

  datagram_opened : (fails : List Bool) (old : Machine) (peer : Peer) (octets : List ℕ) (effects : Effects) (new : Machine) (s : Sending) → sending_at number old.connections ≡ None → sending_at number new.connections ≡ Some s
      → IsRequestHandled fails old (to.Address peer) peer (handled (shown_zones old) octets Udp) effects new → OpensOn old number (Datagram peer octets) s
  datagram_opened fails old peer octets effects new s none some g =
      ⊎_elim (λ same. is_new old new s none some same) (λ o. absurd (let clash : to.Address peer ≡ to.Connection number = o.here in cc))
      (served fails old (to.Address peer) peer (handled (shown_zones old) octets Udp) effects new (nowhere_there old peer) g)

  pump_opened : (old : Machine) (n : ℕ) (effects : Effects) (new : Machine) → sending_at number old.connections ≡ None → IsPumped old n (sending_at n old.connections) effects.sent new → Same old new
  pump_opened old n effects new none h = by_test (n == number)
      (λ e.
      (let here = subst (λ (k : ℕ). IsPumped old k (sending_at k old.connections) effects.sent new) (is_one n number e) h in
      same_by old new (ap (λ (m : Machine). m.connections) (subst (λ (o : Option Sending). IsPumped old number o effects.sent new) none here).1)))
      (λ e. pumped_elsewhere old n (sending_at n old.connections) effects.sent new (is_elsewhere n e) h)

  close_opened : (old : Machine) (n : ℕ) (new : Machine) → sending_at number old.connections ≡ None → new ≡ closed n old → Same old new
  close_opened old n new none is = by_test (n == number)
      (λ e. ap (λ (m : Machine). sending_at number m.connections) (is ∙ ap (λ (k : ℕ). closed k old) (is_one n number e)) ∙ closed_here number old.connections ∙ sym none)
      (λ e. ap (λ (m : Machine). sending_at number m.connections) is ∙ closed_other n number old.connections (is_elsewhere n e))

  event_opened : (fails : List Bool) (old : Machine) (event : Event) (effects : Effects) (new : Machine) (s : Sending) → sending_at number old.connections ≡ None → sending_at number new.connections ≡ Some s
      → Goes fails old event effects new → OpensOn old number event s
  event_opened fails old (Datagram peer octets) effects new s none some g = datagram_opened fails old peer octets effects new s none some g
  event_opened fails old (Connect peer) effects new s none some g = is_new old new s none some (connected_same old new peer effects g.1)
  event_opened fails old (Arrives k octets) effects new s none some g = arrives_opened fails old k octets effects new s none some g
  event_opened fails old Flush effects new s none some g = is_new old new s none some (same_by old new (ap (λ (m : Machine). m.connections) (g.1).state))
  event_opened fails old (Checkpoint index) effects new s none some g = is_new old new s none some (same_by old new (checkpointed_same fails old index (slice_get old.zones index) effects new g))
  event_opened fails old (Pump n) effects new s none some g = is_new old new s none some (pump_opened old n effects new none g.1)
  event_opened fails old (Closed n) effects new s none some g = is_new old new s none some (close_opened old n new none (g.1).state)

  pub step_opened : (fails : List Bool) (old : Machine) (event : Event) (effects : Effects) (new : Machine) (s : Sending) → sending_at number old.connections ≡ None → sending_at number new.connections ≡ Some s
      → Step fails old event effects new → OpensOn old number event s
  step_opened fails old event effects new s none some (inl g) = event_opened fails old event effects new s none some g
  step_opened fails old event effects new s none some (inr l) = is_new old new s none some (same_by old new (lacks_same fails old event effects new l))
