-- What goes out for an update waited before the event.
use Rattle.std.proofs.Common.{◌≡◌, ◌⊎◌, ◌∙◌, ℕ, zero, suc, Bool, true, false, inl, inr, List, [], ◌∷◌, ◌++◌, map, Option, Some, None, refl, sym, ap, subst, arith}
use Rattle.std.specs.Prelude.{slice_get, slice_set, ◌||◌, if◌then◌else◌}
use Rattle.std.specs.List.{AllByRecursion, Contains}
use Rattle.dns_records.specs.Record.{Record}
use Rattle.dns_wire.specs.Message.{header_of}
use Rattle.dns_wire.specs.Text.{text}
use Rattle.dns_wire.specs.Codes.{number_of_rcode}
use Rattle.dns_request.specs.Codes.{rcode_servfail}
use Rattle.dns_answer.specs.Answer.{bare_reply, Handled, NoReply, Replies, Update, Transfer}
use Rattle.dns_update.specs.Verdict.{Verdict, Refuses, Keeps, Leaves, verdict}
use Rattle.dns_versions.specs.Held.{newest_zone}
use Rattle.dns_versions.specs.Staging.{has_room}
use Rattle.dns_primary.specs.declared.event.Peer.{Peer}
use Rattle.dns_primary.specs.declared.event.To.{To}
use Rattle.dns_primary.specs.declared.event.To.TheVariants as to
use Rattle.dns_primary.specs.Machine.{Made, ZoneState, Waits, Machine, kept_of, updates_of, peer_at, sending_at}
use Rattle.dns_primary.specs.Flush.{Sent, Replied, flushed, flush_sends, flushed_zones, released, is_closed_in, is_none_made}
use Rattle.dns_primary.specs.Checkpoint.{IsMovedUnlessClosed}
use Rattle.dns_primary.specs.Update.{Asked, Admission, Rejects, Admits, admission, newest_serial, waits, stages, with_staged, replies, accepted_in, judged_in, admitted, is_full, made_place, answer, room_lacked}
use Rattle.dns_primary.specs.Step.{Event, Datagram, Connect, Arrives, Flush, Checkpoint, Pump, Closed, IsCheckpointed, IsUpdateBegun, IsUpdated, Effects, IsRequestHandled, IsArrived, Goes, Lacks, Step, is_asking, failure, failure_on, failures}
use Rattle.dns_primary.specs.Runs.{IsReleasedFrom}
use Rattle.dns_primary.proofs.Quiet.{transferred_quiet, pumped_quiet, replies_all}
use Rattle.dns_primary.proofs.Zonewise.{tested}
use Rattle.dns_primary.proofs.Sound.{all_with}
use Rattle.dns_primary.proofs.Preserved.{StandsIn, admission_stands}

abbrev Releases : Machine → Machine → List Sent → Type 0
Releases old new sent = AllByRecursion (IsReleasedFrom old new) sent

-- the zones of the two are closed alike
abbrev AreClosedAlike : List ZoneState → List ZoneState → Type 0
AreClosedAlike xs ys = (n : ℕ) → is_closed_in (slice_get xs n) ≡ is_closed_in (slice_get ys n)

behind_first : (x : Waits) (ws : List Waits) (w : Waits) → Contains ws w → Contains (x ∷ ws) w
behind_first x ws w h = (suc h.0, omega (arith, h.1), h.2)

-- what is closed of the first is closed of the second
abbrev Closes : List ZoneState → List ZoneState → Type 0
Closes xs ys = (n : ℕ) → is_closed_in (slice_get xs n) ≡ true → is_closed_in (slice_get ys n) ≡ true

alike_closes : (xs ys : List ZoneState) → AreClosedAlike xs ys → Closes xs ys
alike_closes xs ys alike n e = sym (alike n) ∙ e

one_flushed : (fails closed none : Bool) (z : ZoneState) → closed ≡ true → (if closed || none then z else if fails then record z { closed = true } else record z { shown = z.shown ++ z.staged; staged = [] }).closed ≡ z.closed
one_flushed fails true none z e = refl
one_flushed fails false none z e = absurd (cc e)

flush_closes : (fails : List Bool) (zones : List ZoneState) → Closes zones (flushed_zones fails zones)
flush_closes [] zones n e = e
flush_closes (f ∷ fails) [] n e = e
flush_closes (f ∷ fails) (z ∷ zones) zero e = one_flushed f z.closed (is_none_made z.staged) z e ∙ e
flush_closes (f ∷ fails) (z ∷ zones) (suc n) e = flush_closes fails zones n e

abbrev IsCodeOf : Bool → Bool → Waits → ℕ → Type 0
IsCodeOf after before w rcode = ((rcode ≡ w.rcode) ⊎ ((rcode ≡ rcode_servfail) × (after ≡ true))) × (before ≡ true → rcode ≡ rcode_servfail)

one_released : (closed after before : Bool) (w : Waits) → (closed ≡ true → after ≡ true) → (before ≡ true → closed ≡ true) → IsCodeOf after before w (if closed then rcode_servfail else w.rcode)
one_released true after before w goes came = (inr (refl, goes refl), λ e. refl)
one_released false after before w goes came = (inl refl, λ e. let clash : false ≡ true = came e in absurd (cc clash))

all_released : (old new : Machine) (zones : List ZoneState) → Closes zones new.zones → Closes old.zones zones → (ws : List Waits)
    → ((w : Waits) → Contains ws w → Contains old.waiting w) → Releases old new (map (released zones) ws)
all_released old new zones goes came [] there = tt
all_released old new zones goes came (w ∷ ws) there = (
  (let code = one_released (is_closed_in (slice_get zones w.zone)) (is_closed_in (slice_get new.zones w.zone)) (is_closed_in (slice_get old.zones w.zone)) w (goes w.zone) (came w.zone) in
      (there w (0, omega arith, refl), code.0, code.1)),
  all_released old new zones goes came ws (λ x h. there x (behind_first w ws x h)),
)

flush_releases : (fails : List Bool) (old new : Machine) → Closes (flushed_zones fails old.zones) new.zones → Releases old new (flush_sends fails old)
flush_releases fails old new goes = all_released old new (flushed_zones fails old.zones) goes (flush_closes fails old.zones) old.waiting (λ w h. h)

set_closes : (zones : List ZoneState) (index : ℕ) (z w : ZoneState) → slice_get zones index ≡ Some z → (z.closed ≡ true → w.closed ≡ true) → Closes zones (slice_set zones index w)
set_closes [] index z w e goes n c = c
set_closes (a ∷ zones) zero z w e goes zero c = (let is : a ≡ z = cc in goes (sym (ap (λ (x : ZoneState). x.closed) is) ∙ c))
set_closes (a ∷ zones) zero z w e goes (suc n) c = c
set_closes (a ∷ zones) (suc index) z w e goes zero c = c
set_closes (a ∷ zones) (suc index) z w e goes (suc n) c = set_closes zones index z w e goes n c

moved_closes : (fails : Bool) (room : ℕ) (z new : ZoneState) → IsMovedUnlessClosed fails room z new → z.closed ≡ true → new.closed ≡ true
moved_closes fails room z new (inl h) e = ap (λ (x : ZoneState). x.closed) h.2 ∙ e
moved_closes fails room z new (inr h) e = let clash : true ≡ false = sym e ∙ h.0 in absurd (cc clash)

checkpointed_releases : (fails : List Bool) (old : Machine) (index : ℕ) (o : Option ZoneState) (effects : Effects) (new : Machine) → IsCheckpointed fails old index o effects new → Releases old new effects.sent
checkpointed_releases fails old index None effects new g = subst (λ (xs : List Sent). Releases old new xs) (sym (g.1).sent) tt
checkpointed_releases fails old index (Some z) effects new g =
    let flushing = g.0 in
    let made = g.3 in
    let zones = (flushed flushing old).zones in
    let closes : Closes zones new.zones = subst (λ (m : Machine). Closes zones m.zones) (sym made.is)
    (set_closes zones index made.zone made.next made.stands (moved_closes g.1 0 made.zone made.next made.moved)) in
    subst (λ (xs : List Sent). Releases old new xs) (sym (g.4).sent) (flush_releases flushing old new closes)

-- an update that is staged closes no zone
set_alike : (zones : List ZoneState) (index : ℕ) (made : Made) (z : ZoneState) → slice_get zones index ≡ Some z → AreClosedAlike zones (slice_set zones index (with_staged made z))
set_alike [] index made z e n = refl
set_alike (a ∷ zones) zero made z e zero = (let is : a ≡ z = cc in ap (λ (x : ZoneState). x.closed) is)
set_alike (a ∷ zones) zero made z e (suc n) = refl
set_alike (a ∷ zones) (suc index) made z e zero = refl
set_alike (a ∷ zones) (suc index) made z e (suc n) = set_alike zones index made z e n

record IsAnsweredIn (m : Machine) (ended : Machine × List Sent) : Type 0 where
  alike : AreClosedAlike m.zones (ended.0).zones
  sent : (old : Machine) → Releases old ended.0 ended.1

waits_so : (m : Machine) (a : Asked) (index rcode serial : ℕ) (updates : List Made) → IsAnsweredIn m (waits m a index rcode serial updates, [])
waits_so m a index rcode serial updates = record { alike = λ n. refl; sent = λ old. tt }

replied_so : (m : Machine) (a : Asked) (rcode : ℕ) → IsAnsweredIn m (m, replies a rcode ∷ [])
replied_so m a rcode = record { alike = λ n. refl; sent = λ old. (tt, tt) }

accepted_so : (m : Machine) (a : Asked) (index : ℕ) (z : ZoneState) (records : List Record) → slice_get m.zones index ≡ Some z → IsAnsweredIn m (accepted_in m a index z records)
accepted_so m a index z records e =
    tested (IsAnsweredIn m) (has_room (kept_of z) records) (stages m a index z records, []) (waits m a index rcode_servfail (newest_serial z) (updates_of z), [])
    (λ _. record { alike = set_alike m.zones index (record { update = a.message; records = records }) z e; sent = λ old. tt })
    (λ _. waits_so m a index rcode_servfail (newest_serial z) (updates_of z))

judged_so : (m : Machine) (a : Asked) (index : ℕ) (z : ZoneState) (v : Verdict) → slice_get m.zones index ≡ Some z → IsAnsweredIn m (judged_in m a index z v)
judged_so m a index z (Refuses rcode) e = waits_so m a index (number_of_rcode rcode) (newest_serial z) (updates_of z)
judged_so m a index z Keeps e = waits_so m a index 0 (newest_serial z) (updates_of z)
judged_so m a index z (Leaves records) e = accepted_so m a index z records e

admitted_so : (m : Machine) (a : Asked) (d : Admission) → StandsIn m.zones d → IsAnsweredIn m (admitted m a d)
admitted_so m a (Rejects rcode) e = replied_so m a rcode
admitted_so m a (Admits index z) e = judged_so m a index z (verdict (newest_zone (kept_of z)) a.message.answers a.message.authorities) e

reaches : (old new next : Machine) (sent out : List Sent) → new ≡ next → sent ≡ out → Releases old next out → Releases old new sent
reaches old new next sent out e f p = subst (λ m. Releases old m sent) (sym e) (subst (λ xs. Releases old next xs) (sym f) p)

placed_so : (fails : List Bool) (m : Machine) (new : Machine) → AreClosedAlike (made_place fails m).0.zones new.zones → Releases m new (made_place fails m).1
placed_so fails m new alike =
    tested (λ (p : Machine × List Sent). AreClosedAlike p.0.zones new.zones → Releases m new p.1) (is_full m) (flushed fails m, flush_sends fails m) (m, [])
    (λ _. λ same. flush_releases fails m new (alike_closes (flushed fails m).zones new.zones same))
    (λ _. λ same. tt)
    alike

begun_so : (fails : List Bool) (m : Machine) (lacked : Option (ℕ × ℕ)) (first : Effects) (mid new : Machine) → IsUpdateBegun fails m lacked first mid → AreClosedAlike mid.zones new.zones → Releases m new first.sent
begun_so fails m None first mid new g alike =
    subst (λ (xs : List Sent). Releases m new xs) (sym (g.1).sent) (placed_so fails m new (subst (λ (x : Machine). AreClosedAlike x.zones new.zones) (g.1).state alike))
begun_so fails m (Some lacked) first mid new g alike =
    let flushing = g.0 in
    let made = g.3 in
    let zones = (flushed flushing m).zones in
    let closes : Closes zones mid.zones = subst (λ (x : Machine). Closes zones x.zones) (sym made.is)
    (set_closes zones lacked.0 made.zone made.next made.stands (moved_closes g.1 lacked.1 made.zone made.next made.moved)) in
    subst (λ (xs : List Sent). Releases m new xs) (sym (g.4).sent) (flush_releases flushing m new (λ n e. alike_closes mid.zones new.zones alike n (closes n e)))

update_releases : (fails : List Bool) (m : Machine) (a : Asked) (effects : Effects) (new : Machine) → IsUpdated fails m a effects new → Releases m new effects.sent
update_releases fails m a effects new u =
    let ended = answer u.mid a in
    let so = admitted_so u.mid a (admission (u.mid).zones a) (admission_stands (u.mid).zones a) in
    reaches m new ended.0 effects.sent ((u.first).sent ++ ended.1) u.state u.sent
    (all_with (IsReleasedFrom m ended.0) (u.first).sent ended.1 (begun_so fails m (room_lacked m a) u.first u.mid ended.0 u.begun so.alike) (so.sent m))

served_releases : (fails : List Bool) (old : Machine) (to : To) (peer : Peer) (h : Handled) (effects : Effects) (new : Machine) → IsRequestHandled fails old to peer h effects new → Releases old new effects.sent
served_releases fails old to peer NoReply effects new g = reaches old new old effects.sent [] (g.1).state (g.1).sent tt
served_releases fails old to peer (Replies reply) effects new g = reaches old new old effects.sent _ (g.1).state (g.1).sent (tt, tt)
served_releases fails old to peer (Update message question) effects new g =
    update_releases fails old (record { to = to; address = peer.address; message = message; zone = question }) effects new g
served_releases fails old to peer (Transfer octets message question) effects new g =
    replies_all (IsReleasedFrom old new) (λ to octets. tt) effects.sent (transferred_quiet old to peer octets message question effects.sent new g.1).replies

arrived_releases : (fails : List Bool) (old : Machine) (number : ℕ) (peer : Option Peer) (octets : List ℕ) (effects : Effects) (new : Machine) → IsArrived fails old number peer octets effects new → Releases old new effects.sent
arrived_releases fails old number None octets effects new g = reaches old new old effects.sent [] (g.1).state (g.1).sent tt
arrived_releases fails old number (Some peer) octets effects new g = served_releases fails old (to.Connection number) peer _ effects new g

event_releases : (fails : List Bool) (old : Machine) (event : Event) (effects : Effects) (new : Machine) → Goes fails old event effects new → Releases old new effects.sent
event_releases fails old (Datagram peer octets) effects new g = served_releases fails old (to.Address peer) peer _ effects new g
event_releases fails old (Connect peer) effects new g = elim (g.1) [
  | inl c ↦ subst (λ (xs : List Sent). Releases old new xs) (sym (ap (λ (x : Effects). x.sent) c.reported)) tt
  | inr c ↦ subst (λ (xs : List Sent). Releases old new xs) (sym (c.1).sent) tt
]
event_releases fails old (Arrives number octets) effects new g = arrived_releases fails old number (peer_at number old.connections) octets effects new g
event_releases fails old Flush effects new g = reaches old new (flushed fails old) effects.sent (flush_sends fails old) (g.1).state (g.1).sent (flush_releases fails old (flushed fails old) (λ n e. e))
event_releases fails old (Checkpoint index) effects new g = checkpointed_releases fails old index (slice_get old.zones index) effects new g
event_releases fails old (Pump number) effects new g = replies_all (IsReleasedFrom old new) (λ to octets. tt) effects.sent (pumped_quiet old number (sending_at number old.connections) effects.sent new g.1).replies
event_releases fails old (Closed number) effects new g = subst (λ (xs : List Sent). Releases old new xs) (sym (g.1).sent) tt

failure_released : (old new : Machine) (to : To) (octets : List ℕ) → Releases old new (failure to octets)
failure_released old new to octets =
    tested (Releases old new) (is_asking octets) (Replied to (text (bare_reply (header_of octets) rcode_servfail)) ∷ []) [] (λ _. (tt, tt)) (λ _. tt)

failure_on_released : (old new : Machine) (number : ℕ) (peer : Option Peer) (octets : List ℕ) → Releases old new (failure_on number peer octets)
failure_on_released old new number None octets = tt
failure_on_released old new number (Some peer) octets = failure_released old new (to.Connection number) octets

failures_released : (old new m : Machine) (event : Event) → Releases old new (failures m event)
failures_released old new m (Datagram peer octets) = failure_released old new (to.Address peer) octets
failures_released old new m (Arrives number octets) = failure_on_released old new number (peer_at number m.connections) octets
failures_released old new m (Connect peer) = tt
failures_released old new m Flush = tt
failures_released old new m (Checkpoint index) = tt
failures_released old new m (Pump number) = tt
failures_released old new m (Closed number) = tt

lacks_releases : (fails : List Bool) (old : Machine) (event : Event) (effects : Effects) (new : Machine) → Lacks fails old event effects new → Releases old new effects.sent
lacks_releases fails old event effects new l = elim (l.stays) [
  | inl c ↦ subst (λ (xs : List Sent). Releases old new xs) (sym c.2) (failures_released old new old event)
  | inr r ↦ elim r [
    | inl c ↦ reaches old new (flushed fails old) effects.sent (flush_sends fails old ++ failures old event) c.2 c.3
        (all_with (IsReleasedFrom old (flushed fails old)) (flush_sends fails old) (failures old event)
        (flush_releases fails old (flushed fails old) (λ n e. e)) (failures_released old (flushed fails old) old event))
    | inr c ↦ reaches old new new effects.sent ((c.1).sent ++ failures old event) refl c.4
        (all_with (IsReleasedFrom old new) (c.1).sent (failures old event)
        (begun_so fails old (Some c.0) c.1 new new c.3 (λ n. refl)) (failures_released old new old event))
  ]
]

pub step_releases : (fails : List Bool) (old : Machine) (event : Event) (effects : Effects) (new : Machine) → Step fails old event effects new → Releases old new effects.sent
step_releases fails old event effects new (inl g) = event_releases fails old event effects new g
step_releases fails old event effects new (inr l) = lacks_releases fails old event effects new l
