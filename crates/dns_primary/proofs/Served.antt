-- What is done with requests, as steps.
use Rattle.std.proofs.Common.{◌≡◌, ◌⊎◌, inl, inr, ⊎_elim, ℕ, Bool, true, false, not, List, [], ◌∷◌, ◌++◌, length, map, Option, Some, None, Result, Ok, Err, refl, sym, ap, subst, ◌∙◌, append-nil, arith}
use Rattle.std.specs.Prelude.{◌↔◌, ◌==◌, ◌&&◌, ◌||◌, nat_lt, is_some, IfOk, IfErr, if◌then◌else◌}
use Rattle.dns_wire.specs.Message.{Header, Question, Message, header_of}
use Rattle.dns_wire.specs.Reading.{message_of}
use Rattle.dns_wire.specs.Text.{text}
use Rattle.dns_zone.specs.Zone.{Zone}
use Rattle.dns_zone.specs.declared.index.ZoneIndex as zone_index
use Rattle.dns_request.specs.Codes.{rcode_formerr, rcode_notimp, rcode_servfail}
use Rattle.dns_request.specs.Request as request
use Rattle.dns_request.specs.Request.{opcode_query, opcode_update, request_of, read_as, too_long}
use Rattle.dns_request.specs.declared.request.Transport.{Transport}
use Rattle.dns_answer.specs.Answer.{Handled, Replies, bare_reply, handled, handled_as}
use Rattle.dns_store.specs.declared.zone_store.ZoneStore as store
use Rattle.dns_store.specs.Versions.{Kept, OpensAsLeft}
use Rattle.dns_versions.specs.declared.zone_versions.ZoneVersions.{ZoneVersions}
use Rattle.dns_sectors.specs.Device.{Content, LeavesOnly}
use Rattle.dns_sectors.proofs.Moments.{started}
use Rattle.dns_versions.proofs.Lists.{diag, diag2}
use Rattle.dns_versions.specs.Each.{Each2, Each3}
use Rattle.dns_versions.specs.Flush.{FailedWhere, IsCounted}
use Rattle.dns_versions.specs.Held.{HasVersions, shown_zone}
use Rattle.dns_primary.specs.declared.event.Peer.{Peer}
use Rattle.dns_primary.specs.declared.event.To.{To}
use Rattle.dns_primary.specs.declared.event.Effects.{Effects}
use Rattle.dns_primary.specs.declared.event.Noted.TheVariants.{OutOfMemory}
use Rattle.dns_primary.specs.declared.primary.Primary.{Primary}
use Rattle.dns_primary.specs.declared.update.Outcome.{Outcome}
use Rattle.dns_primary.specs.declared.update.Outcome.TheVariants as outcome
use Rattle.dns_primary.specs.Machine.{ZoneState, Machine, kept_of, shown_zones}
use Rattle.dns_primary.specs.Flush.{Sent, Replied, flushed, flush_sends}
use Rattle.dns_primary.specs.Update.{Asked, answer, is_full, made_place, replies, room_lacked}
use Rattle.dns_primary.specs.Step as machine
use Rattle.dns_primary.specs.Step.{AreFailures, GivesEffects, IsUpdateBegun, IsRequestHandled, failure, is_asking, is_update, request_lacks}
use Rattle.dns_primary.specs.Keeps.{HaveVersions, IsKept, AreEffects}
use Rattle.dns_primary.specs.Queue.{IsAnswered, IsUntouched}
use Rattle.dns_primary.specs.Steps.{AtAnyMoment, LeavesIfHonest, StayHonest, Stepped, nothing, one_reply, answered_with, IsBegunOrLacks, LacksUpdate, IsUpdatedOrLacks, LacksRequest, IsServedOrLacks, LacksAlone, IsTransferredOrLacks}
use Rattle.dns_primary.proofs.Judged.{tested, untested}

-- the zones are those that the machine shows
pub are_shown : {I S : Type 0} (keeps : S → Kept → Type 0) (zones : List Zone) (pending : List (ZoneVersions I S)) (states : List ZoneState) → HaveVersions keeps zones pending states → zones ≡ map (λ z. shown_zone (kept_of z)) states
are_shown keeps [] [] [] each = refl
are_shown keeps (z ∷ zones) (b ∷ pending) (s ∷ states) each = λ i. each.0.zone_is i ∷ are_shown keeps zones pending states each.1 i
are_shown keeps _ _ _ each = absurd each

-- where no device is touched the failures stay
pub failed_still : {S B : Type 0} (store : B → S) (failed : S → ℕ) (moment : S → ℕ) (left_since : S → ℕ → List (List ℕ) → Type 0) (is_honest : S → Type 0) (fails : List Bool) (olds mids news : List B)
    → FailedWhere (λ b. failed (store b)) fails olds mids → Each2 (λ a b. IsUntouched moment left_since failed is_honest (store a) (store b)) mids news → FailedWhere (λ b. failed (store b)) fails olds news
failed_still store failed moment left_since is_honest [] olds mids news h same = tt
failed_still store failed moment left_since is_honest (f ∷ fails) (a ∷ olds) (b ∷ mids) (c ∷ news) h same =
    (subst (λ n. IsCounted f (failed (store a)) n) (sym same.0.quiet) h.0, failed_still store failed moment left_since is_honest fails olds mids news h.1 same.1)
failed_still store failed moment left_since is_honest (f ∷ fails) [] mids news h same = absurd h
failed_still store failed moment left_since is_honest (f ∷ fails) (a ∷ olds) [] news h same = absurd h
failed_still store failed moment left_since is_honest (f ∷ fails) (a ∷ olds) (b ∷ mids) [] h same = absurd same

-- no call was made, or none more
pub rests : {I S : Type 0} (s : store.Ghosts S) (zones : List Zone) (pending : List (ZoneVersions I S)) (ks : List Kept)
    → ((x : S) (k : Kept) → s.keeps x k → s.is_honest x → (c : Content) → s.left_since x (s.moment x) c → OpensAsLeft s.opens k c) → Each3 (λ z b k. HasVersions s.keeps z b k) zones pending ks
    → Each3 (λ a b k. LeavesIfHonest s a.store b.store (OpensAsLeft s.opens k)) pending pending ks
rests {I} {S} s zones pending ks at_rest held =
    diag (λ (z : Zone) (b : ZoneVersions I S) (k : Kept). HasVersions s.keeps z b k) (λ (a b : ZoneVersions I S) (k : Kept). LeavesIfHonest s a.store b.store (OpensAsLeft s.opens k)) zones pending ks held
    (λ z b k h honest. started s.moment s.left_since b.store (OpensAsLeft s.opens k) (λ c left. at_rest b.store k h.kept honest c left))

pub as_honest : {I S : Type 0} (s : store.Ghosts S) (pending : List (ZoneVersions I S)) → StayHonest s pending pending
as_honest {I} {S} s pending = diag2 (λ (a b : ZoneVersions I S). s.is_honest b.store ↔ s.is_honest a.store) pending (λ a. (λ h. h, λ h. h))

pub still_leaves : {S B K : Type 0} (store : B → S) (failed : S → ℕ) (moment : S → ℕ) (left_since : S → ℕ → Content → Type 0) (is_honest : S → Type 0) (P : K → Content → Type 0) (olds mids news : List B) (ks : List K)
    → Each3 (λ a b k. is_honest (store a) → LeavesOnly moment left_since (store a) (store b) (P k)) olds mids ks → Each2 (λ a b. IsUntouched moment left_since failed is_honest (store a) (store b)) mids news
    → Each3 (λ a b k. is_honest (store a) → LeavesOnly moment left_since (store a) (store b) (P k)) olds news ks
still_leaves store failed moment left_since is_honest P [] [] [] [] each same = tt
still_leaves store failed moment left_since is_honest P (a ∷ olds) (b ∷ mids) (c ∷ news) (k ∷ ks) each same = (
  λ honest.
      (let was = each.0 honest in
      record {
        later = omega (arith, was.later, same.0.still.no_later);
        each = λ x left. was.each x (same.0.still.same (moment (store a)) x left);
        before = λ t x le left. was.before t x le (same.0.still.same t x left);
      }),
  still_leaves store failed moment left_since is_honest P olds mids news ks each.1 same.1,
)
still_leaves store failed moment left_since is_honest P [] [] (c ∷ news) [] each same = absurd same
still_leaves store failed moment left_since is_honest P (a ∷ olds) (b ∷ mids) [] (k ∷ ks) each same = absurd same
still_leaves store failed moment left_since is_honest P _ _ _ _ each same = absurd each

pub still_honest : {S B : Type 0} (store : B → S) (failed : S → ℕ) (moment : S → ℕ) (left_since : S → ℕ → Content → Type 0) (is_honest : S → Type 0) (olds mids news : List B)
    → Each2 (λ a b. is_honest (store b) ↔ is_honest (store a)) olds mids → Each2 (λ a b. IsUntouched moment left_since failed is_honest (store a) (store b)) mids news
    → Each2 (λ a b. is_honest (store b) ↔ is_honest (store a)) olds news
still_honest store failed moment left_since is_honest [] [] [] each same = tt
still_honest store failed moment left_since is_honest (a ∷ olds) (b ∷ mids) (c ∷ news) each same =
    ((λ h. each.0.0 (same.0.honest.0 h), λ h. same.0.honest.1 (each.0.1 h)), still_honest store failed moment left_since is_honest olds mids news each.1 same.1)
still_honest store failed moment left_since is_honest [] [] (c ∷ news) each same = absurd same
still_honest store failed moment left_since is_honest (a ∷ olds) (b ∷ mids) [] each same = absurd same
still_honest store failed moment left_since is_honest _ _ news each same = absurd each

-- octets that are some request get a reply
asking_by : (short response : Bool) (x r : request.Request) → (if short || response then request.Ignored else x) ≡ r → (r ≡ request.Ignored → ⊥) → (not short && not response) ≡ true
asking_by true response x r e some = absurd (some (sym e))
asking_by false true x r e some = absurd (some (sym e))
asking_by false false x r e some = refl

pub asking : (octets : List ℕ) (transport : Transport) (r : request.Request) → request_of octets transport ≡ r → (r ≡ request.Ignored → ⊥) → is_asking octets ≡ true
asking octets transport r e some =
    asking_by (nat_lt (length octets) 12) (header_of octets).qr
    (if not ((header_of octets).opcode == opcode_query || (header_of octets).opcode == opcode_update) then request.Refused rcode_notimp
    else if too_long transport octets then request.Refused rcode_formerr
    else read_as (message_of octets)) r e some

-- SERVFAIL, made from the header of octets that get a reply
pub failure_is : (to : To) (octets : List ℕ) (h : Header) → is_asking octets ≡ true → h ≡ header_of octets → failure to octets ≡ Replied to (text (bare_reply h rcode_servfail)) ∷ []
failure_is to octets h asks is =
    tested (is_asking octets) (Replied to (text (bare_reply (header_of octets) rcode_servfail)) ∷ []) [] asks ∙ ap (λ (x : Header). Replied to (text (bare_reply x rcode_servfail)) ∷ []) (sym is)

-- room was made for the reply of an update
full_place : (old : Machine) (fails : List Bool) → is_full old ≡ true → made_place fails old ≡ (flushed fails old, flush_sends fails old)
full_place old fails e = tested (is_full old) (flushed fails old, flush_sends fails old) (old, []) e

free_place : (old : Machine) (fails : List Bool) → is_full old ≡ false → made_place fails old ≡ (old, [])
free_place old fails e = untested (is_full old) (flushed fails old, flush_sends fails old) (old, []) e

pub placed_full : (old : Machine) (fails : List Bool) (stated : machine.Effects) (mid : Machine) → is_full old ≡ true → AreFailures true old fails × GivesEffects stated mid (flushed fails old) (flush_sends fails old) fails → IsUpdateBegun fails old None stated mid
placed_full old fails stated mid full h = (
  subst (λ (b : Bool). AreFailures b old fails) (sym full) h.0,
  subst (λ (p : Machine × List Sent). GivesEffects stated mid p.0 p.1 fails) (sym (full_place old fails full)) h.1,
)

pub placed_free : (old : Machine) → is_full old ≡ false → IsUpdateBegun [] old None nothing old
placed_free old free = (
  subst (λ (b : Bool). AreFailures b old []) (sym free) refl,
  subst (λ (p : Machine × List Sent). GivesEffects nothing old p.0 p.1 []) (sym (free_place old [] free)) (record { state = refl; sent = refl; accepted = refl; noted = refl }),
)

lacks_by : (b : Bool) (old mid : Machine) (a : Asked) (fails : List Bool) (stated : machine.Effects) → is_full old ≡ b → IsUpdateBegun fails old None stated mid
    → LacksUpdate fails old a (record stated { sent = stated.sent ++ replies a rcode_servfail ∷ []; noted = OutOfMemory }) mid
lacks_by true old mid a fails stated is h = record {
  noted = refl;
  accepted = h.1.accepted;
  stays =
      let index = full_place old fails is in
      inr (inl (
        ap (λ (b : Bool). b || is_some (room_lacked old a)) is,
        subst (λ (b : Bool). AreFailures b old fails) is h.0,
        h.1.state ∙ ap (λ (p : Machine × List Sent). p.0) index,
        ap (λ (l : List Sent). l ++ replies a rcode_servfail ∷ []) (h.1.sent ∙ ap (λ (p : Machine × List Sent). p.1) index),
      ));
}
lacks_by false old mid a fails stated is h = record {
  noted = refl;
  accepted = h.1.accepted;
  stays =
      let index = free_place old fails is in
      inl (
        subst (λ (b : Bool). AreFailures b old fails) is h.0,
        h.1.state ∙ ap (λ (p : Machine × List Sent). p.0) index,
        ap (λ (l : List Sent). l ++ replies a rcode_servfail ∷ []) (h.1.sent ∙ ap (λ (p : Machine × List Sent). p.1) index),
      );
}

-- memory was refused after what came first
pub lacks_pending : (o : Option (ℕ × ℕ)) (old mid : Machine) (a : Asked) (fails : List Bool) (stated : machine.Effects) → room_lacked old a ≡ o → IsUpdateBegun fails old o stated mid
    → LacksUpdate fails old a (record stated { sent = stated.sent ++ replies a rcode_servfail ∷ []; noted = OutOfMemory }) mid
lacks_pending None old mid a fails stated is h = lacks_by (is_full old) old mid a fails stated refl h
lacks_pending (Some lacked) old mid a fails stated is h = record {
  noted = refl;
  accepted = (h.4).accepted;
  stays = inr (inr (lacked, stated, is, h, refl));
}

or_second : (b c : Bool) → c ≡ true → (b || c) ≡ true
or_second true c e = refl
or_second false c e = e

pub lacks_begun : (old mid : Machine) (a : Asked) (fails : List Bool) (stated : machine.Effects) → IsBegunOrLacks old (room_lacked old a) fails stated mid
    → LacksUpdate fails old a (record stated { sent = stated.sent ++ replies a rcode_servfail ∷ []; noted = OutOfMemory }) mid
lacks_begun old mid a fails stated (inl h) = lacks_pending (room_lacked old a) old mid a fails stated refl h
lacks_begun old mid a fails stated (inr (some, l)) = record {
  noted = refl;
  accepted = l.accepted;
  stays = inr (inl (or_second (is_full old) (is_some (room_lacked old a)) some, l.failures, l.state, ap (λ (x : List Sent). x ++ replies a rcode_servfail ∷ []) l.sent));
}

-- after it the update is answered
pub record Answers (held : Machine → Type 0) (old : Machine) (a : Asked) (fails : List Bool) (effects : machine.Effects) : Type 0 where
  pub next : Machine
  pub is : IsUpdatedOrLacks old a fails effects next
  pub kept : held next

pub answered : (held : Machine → Type 0) (old mid : Machine) (a : Asked) (fails : List Bool) (stated : machine.Effects) (o : Outcome) → IsUpdateBegun fails old (room_lacked old a) stated mid → IsAnswered held mid a (answer mid a) o
    → Answers held old a fails (answered_with stated a o)
answered held old mid a fails stated (outcome.Waits rcode) h is = record {
  next = (answer mid a).0;
  is = inl (record {
    first = stated;
    mid = mid;
    begun = h;
    state = refl;
    sent = sym (append-nil stated.sent) ∙ ap (λ (l : List Sent). stated.sent ++ l) (sym is.0);
    accepted = refl;
    noted = refl;
  });
  kept = is.1;
}
answered held old mid a fails stated (outcome.AtOnce rcode) h is = record {
  next = (answer mid a).0;
  is = inl (record {
    first = stated;
    mid = mid;
    begun = h;
    state = refl;
    sent = ap (λ (l : List Sent). stated.sent ++ l) (sym is.0);
    accepted = refl;
    noted = refl;
  });
  kept = is.1;
}
answered held old mid a fails stated outcome.OutOfMemory h is = record {
  next = mid;
  is = inr (lacks_pending (room_lacked old a) old mid a fails stated refl h);
  kept = is;
}

module _ {I S : Type 0} {i : zone_index.Ghosts I} {s : store.Ghosts S} where
  -- nothing changes, and this is what goes out
  pub stays : (p : Primary I S i s) (m : Machine) (effects : Effects) (stated : machine.Effects) (step : List Bool → machine.Effects → Machine → Type 0) → AtAnyMoment s m p.pending.items p.pending.items → IsKept p m → AreEffects stated effects → step [] stated m
      → Stepped m p p effects step
  stays p m effects stated step rest kept effects_are is = record { fails = []; failed = tt; any_moment = rest; honest = as_honest s p.pending.items; next = m; stated = stated; is = is; effects_are = effects_are; kept = kept }

-- a request is served, as what it is
pub served_as : (old new : Machine) (peer : Peer) (to : To) (octets : List ℕ) (transport : Transport) (r : request.Request) (fails : List Bool) (stated : machine.Effects) → r ≡ request_of octets transport
    → IsRequestHandled fails old to peer (handled_as (shown_zones old) octets transport r) stated new → IsServedOrLacks old peer to octets transport fails stated new
served_as old new peer to octets transport r fails stated e h = inl (subst (λ (x : request.Request). IsRequestHandled fails old to peer (handled_as (shown_zones old) octets transport x) stated new) e h)

abbrev pub lack : Sent → machine.Effects
lack reply = record (one_reply reply) { noted = OutOfMemory }

pub gives_one : (m : Machine) (reply : Sent) → GivesEffects (one_reply reply) m m (reply ∷ []) []
gives_one m reply = record { state = refl; sent = refl; accepted = refl; noted = refl }

pub gives_none : (m : Machine) → GivesEffects nothing m m [] []
gives_none m = record { state = refl; sent = refl; accepted = refl; noted = refl }

pub lacks_one : (m : Machine) (to : To) (updates : Bool) (lacked : Option (ℕ × ℕ)) (octets : List ℕ) (transport : Transport) (r : request.Request) → r ≡ request_of octets transport → (r ≡ request.Ignored → ⊥)
    → LacksRequest [] m to updates lacked octets (lack (Replied to (text (bare_reply (header_of octets) rcode_servfail)))) m
lacks_one m to updates lacked octets transport r e some = record { noted = refl; accepted = refl; stays = inl (refl, refl, sym (failure_is to octets (header_of octets) (asking octets transport r (sym e) some) refl)) }

-- a reply that was made, or memory was refused
pub replied : {V E : Type 0} (items : V → List ℕ) (r : Result V E) (effects : Effects) (to : To) (octets failed : List ℕ) → IfOk r (λ v. items v ≡ octets) → IfOk r (λ v. AreEffects (one_reply (Replied to (items v))) effects)
    → IfErr r (λ _. AreEffects (lack (Replied to failed)) effects) → AreEffects (one_reply (Replied to octets)) effects ⊎ AreEffects (lack (Replied to failed)) effects
replied items (Ok v) effects to octets failed is effects_are none = inl (subst (λ (l : List ℕ). AreEffects (one_reply (Replied to l)) effects) is effects_are)
replied items (Err e) effects to octets failed is effects_are none = inr none

-- an update that lacked memory, as a request
pub lacks_update : (fails : List Bool) (old new : Machine) (a : Asked) (octets : List ℕ) (effects : machine.Effects) → is_asking octets ≡ true → a.message.header ≡ header_of octets
    → LacksUpdate fails old a effects new → LacksRequest fails old a.to true (room_lacked old a) octets effects new
lacks_update fails old new a octets effects asks is l =
    let goes = failure_is a.to octets a.message.header asks is in
    record {
      noted = l.noted;
      accepted = l.accepted;
      stays = elim (l.stays) [
        | inl h ↦ inl (h.0, h.1, h.2 ∙ sym goes)
        | inr r ↦ elim r [
          | inl h ↦ inr (inl (h.0, h.1, h.2, h.3 ∙ ap (λ (x : List Sent). flush_sends fails old ++ x) (sym goes)))
          | inr h ↦ inr (inr (h.0, h.1, h.2, h.3, h.4 ∙ ap (λ (x : List Sent). (h.1).sent ++ x) (sym goes)))
        ]
      ];
    }

-- a request for a transfer, as a request
pub transferred_as : (old new : Machine) (peer : Peer) (to : To) (octets : List ℕ) (transport : Transport) (m : Message) (q : Question) (fails : List Bool) (stated : machine.Effects) → request.Transfer m q ≡ request_of octets transport → m.header ≡ header_of octets
    → IsTransferredOrLacks old peer to octets m q fails stated new → IsServedOrLacks old peer to octets transport fails stated new
transferred_as old new peer to octets transport m q fails stated e header h =
    ⊎_elim (λ g. served_as old new peer to octets transport (request.Transfer m q) fails stated e g)
    (λ (l : LacksAlone fails old to m.header stated new). inr (record {
      noted = ap (λ (x : machine.Effects). x.noted) l.is;
      accepted = ap (λ (x : machine.Effects). x.accepted) l.is;
      stays = inl (l.nothing, l.stays, ap (λ (x : machine.Effects). x.sent) l.is ∙ sym (failure_is to octets m.header (asking octets transport (request.Transfer m q) (sym e) (λ x. cc x)) header));
    })) h

module _ {I S : Type 0} {i : zone_index.Ghosts I} {s : store.Ghosts S} where
  -- a request that changes nothing is replied to, or lacks memory
  pub replies_or_lacks : (p : Primary I S i s) (m : Machine) (effects : Effects) (peer : Peer) (to : To) (octets : List ℕ) (transport : Transport) (r : request.Request) (reply : List ℕ)
      → r ≡ request_of octets transport → (r ≡ request.Ignored → ⊥) → handled_as (shown_zones m) octets transport r ≡ Replies reply → AtAnyMoment s m p.pending.items p.pending.items → IsKept p m
      → AreEffects (one_reply (Replied to reply)) effects ⊎ AreEffects (lack (Replied to (text (bare_reply (header_of octets) rcode_servfail)))) effects
      → Stepped m p p effects (IsServedOrLacks m peer to octets transport)
  replies_or_lacks p m effects peer to octets transport r reply e some is rest kept effects_are =
      ⊎_elim
      (λ t. stays p m effects (one_reply (Replied to reply)) (IsServedOrLacks m peer to octets transport) rest kept t
      (served_as m m peer to octets transport r [] (one_reply (Replied to reply)) e
      (subst (λ (h : Handled). IsRequestHandled [] m to peer h (one_reply (Replied to reply)) m) (sym is) (refl, gives_one m (Replied to reply)))))
      (λ t. stays p m effects (lack (Replied to (text (bare_reply (header_of octets) rcode_servfail)))) (IsServedOrLacks m peer to octets transport) rest kept t (inr (lacks_one m to (is_update (handled (shown_zones m) octets transport)) (request_lacks m to peer (handled (shown_zones m) octets transport)) octets transport r e some)))
      effects_are
