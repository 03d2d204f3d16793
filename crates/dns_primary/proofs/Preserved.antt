-- Each event keeps what every step keeps.
use Rattle.std.proofs.Common.{◌≡◌, ℕ, Bool, true, false, inl, inr, List, [], ◌∷◌, ◌++◌, map, Option, Some, None, refl, sym, ap, subst, ◌∙◌, append-nil}
use Rattle.std.specs.Prelude.{slice_get, slice_set, not, ◌==◌, if◌then◌else◌}
use Rattle.std.specs.List.{AllByRecursion}
use Rattle.dns_records.specs.Record.{Record}
use Rattle.dns_wire.specs.Message.{header_of}
use Rattle.dns_wire.specs.Text.{text}
use Rattle.dns_wire.specs.Codes.{number_of_rcode}
use Rattle.dns_records.specs.Types.{type_soa, class_in}
use Rattle.dns_request.specs.Codes.{rcode_formerr, rcode_notauth, rcode_refused, rcode_servfail}
use Rattle.dns_answer.specs.Answer.{Handled, NoReply, Replies, Update, Transfer, bare_reply}
use Rattle.dns_update.specs.Verdict.{Verdict, Refuses, Keeps, Leaves, verdict}
use Rattle.dns_versions.specs.Held.{newest_zone}
use Rattle.dns_versions.specs.Staging.{has_room}
use Rattle.dns_primary.specs.declared.event.Peer.{Peer}
use Rattle.dns_primary.specs.declared.event.To.{To}
use Rattle.dns_primary.specs.declared.event.To.TheVariants as to
use Rattle.dns_primary.specs.Machine.{Setting, ZoneState, Waits, Machine, kept_of, updates_of, peer_at, sending_at}
use Rattle.dns_primary.specs.Flush.{Sent, Replied, flushed, flush_sends}
use Rattle.dns_primary.specs.Connections.{connected, closed, without_connection}
use Rattle.dns_primary.specs.Update.{Asked, Admission, Rejects, Admits, zone_position, admission_in, admission_at, admission, newest_serial, waits, stages, accepted_in, judged_in, admitted, is_full, made_place, answer, room_lacked}
use Rattle.dns_primary.specs.Step.{Event, Datagram, Connect, Arrives, Flush, Checkpoint, Pump, Closed, IsCheckpointed, IsUpdateBegun, IsUpdated, Effects, AreFailures, GivesEffects, IsRequestHandled, IsArrived, Goes, Lacks, Step, is_asking, failure, failure_on, failures}
use Rattle.dns_primary.specs.Checkpoint.{rebased, IsMovedUnlessClosed}
use Rattle.dns_primary.specs.Runs.{Lasts, AllLast, IsTrueIn, HasHistory}
use Rattle.dns_primary.proofs.Quiet.{IsQuiet, transferred_quiet, pumped_quiet, replies_all}
use Rattle.dns_primary.proofs.Zonewise.{tested, all_last_same, lasts_same, pair_set, all_set, all_found, Same, same_history}
use Rattle.dns_primary.proofs.Sound.{IsPlaced, IsSound, Preserves, all_with, stays, and_then, with_reply, flush_preserves, wait_preserves, stage_preserves}

abbrev Carries : Machine → Machine × List Sent → Type 0
Carries old p = Preserves old p.0 p.1

pub has : (b : Bool) → not b ≡ false → b ≡ true
has true e = refl
has false e = absurd cc

-- an update
accepted_preserves : (m : Machine) (a : Asked) (index : ℕ) (z : ZoneState) (records : List Record) → IsSound m → slice_get m.zones index ≡ Some z
    → verdict (newest_zone (kept_of z)) a.message.answers a.message.authorities ≡ Leaves records
    → Carries m (accepted_in m a index z records)
accepted_preserves m a index z records s e j =
    tested (Carries m) (has_room (kept_of z) records) (stages m a index z records, []) (waits m a index rcode_servfail (newest_serial z) (updates_of z), [])
    (λ has_it. stage_preserves m a index z records s e j has_it)
    (λ _. wait_preserves m a index rcode_servfail z s e)

judged_preserves : (m : Machine) (a : Asked) (index : ℕ) (z : ZoneState) (v : Verdict) → IsSound m → slice_get m.zones index ≡ Some z
    → verdict (newest_zone (kept_of z)) a.message.answers a.message.authorities ≡ v → Carries m (judged_in m a index z v)
judged_preserves m a index z (Refuses rcode) s e j = wait_preserves m a index (number_of_rcode rcode) z s e
judged_preserves m a index z Keeps s e j = wait_preserves m a index 0 z s e
judged_preserves m a index z (Leaves records) s e j = accepted_preserves m a index z records s e j

-- a zone that is admitted is there
abbrev pub StandsIn : List ZoneState → Admission → Type 0
StandsIn zones (Rejects rcode) = Unit {0}
StandsIn zones (Admits index z) = slice_get zones index ≡ Some z

in_stands : (zones : List ZoneState) (a : Asked) (index : ℕ) (found : Option ZoneState) → slice_get zones index ≡ found → StandsIn zones (admission_in a.address index found)
in_stands zones a index None e = tt
in_stands zones a index (Some z) e =
    tested (StandsIn zones) (not (z.setting.may_update a.address)) (Rejects rcode_refused) (if z.closed then Rejects rcode_servfail else Admits index z)
    (λ _. tt)
    (λ _. tested (StandsIn zones) z.closed (Rejects rcode_servfail) (Admits index z) (λ _. tt) (λ _. e))

at_stands : (zones : List ZoneState) (a : Asked) (index : Option ℕ) → StandsIn zones (admission_at zones a.address index)
at_stands zones a None = tt
at_stands zones a (Some index) = in_stands zones a index (slice_get zones index) refl

pub admission_stands : (zones : List ZoneState) (a : Asked) → StandsIn zones (admission zones a)
admission_stands zones a =
    tested (StandsIn zones) (not (a.zone.qtype == type_soa)) (Rejects rcode_formerr)
    (if not (a.zone.qclass == class_in) then Rejects rcode_notauth else admission_at zones a.address (zone_position a.zone.name zones))
    (λ _. tt)
    (λ _. tested (StandsIn zones) (not (a.zone.qclass == class_in)) (Rejects rcode_notauth) (admission_at zones a.address (zone_position a.zone.name zones))
    (λ _. tt)
    (λ _. at_stands zones a (zone_position a.zone.name zones)))

admitted_preserves : (m : Machine) (a : Asked) (d : Admission) → IsSound m → StandsIn m.zones d → Carries m (admitted m a d)
admitted_preserves m a (Rejects rcode) s e = with_reply m m [] a.to (text (bare_reply a.message.header rcode)) (stays m s)
admitted_preserves m a (Admits index z) s e =
    judged_preserves m a index z (verdict (newest_zone (kept_of z)) a.message.answers a.message.authorities) s e refl

place_preserves : (fails : List Bool) (m : Machine) → AreFailures (is_full m) m fails → IsSound m → Carries m (made_place fails m)
place_preserves fails m f s =
    tested (Carries m) (is_full m) (flushed fails m, flush_sends fails m) (m, [])
    (λ e. flush_preserves fails m (subst (λ (b : Bool). AreFailures b m fails) e f) s)
    (λ e. stays m s)

-- what an event gives
reaches : (old new next : Machine) (sent out : List Sent) → new ≡ next → sent ≡ out → Preserves old next out → Preserves old new sent
reaches old new next sent out e f p = subst (λ m. Preserves old m sent) (sym e) (subst (λ xs. Preserves old next xs) (sym f) p)

given : (old : Machine) (effects : Effects) (new next : Machine) (out : List Sent) (fails : List Bool) → GivesEffects effects new next out fails → Preserves old next out → Preserves old new effects.sent
given old effects new next out fails g p = reaches old new next effects.sent out g.state g.sent p

-- a zone whose base is moved
pub record IsSameBut (z w : ZoneState) : Type 0 where
  pub setting : w.setting ≡ z.setting
  pub loaded : w.loaded ≡ z.loaded
  pub shown : w.shown ≡ z.shown
  pub staged : w.staged ≡ z.staged
  pub openings : w.openings ≡ z.openings
  pub altered : w.altered ≡ z.altered

same_rebased : (fails : Bool) (base : ℕ) (z : ZoneState) → IsSameBut z (rebased fails base z)
same_rebased true base z = record { setting = refl; loaded = refl; shown = refl; staged = refl; openings = refl; altered = refl }
same_rebased false base z = record { setting = refl; loaded = refl; shown = refl; staged = refl; openings = refl; altered = refl }

same_zone : (z w : ZoneState) → w ≡ z → IsSameBut z w
same_zone z w e = subst (λ (x : ZoneState). IsSameBut z x) (sym e) (record { setting = refl; loaded = refl; shown = refl; staged = refl; openings = refl; altered = refl })

pub same_moved : (fails : Bool) (room : ℕ) (z w : ZoneState) → IsMovedUnlessClosed fails room z w → IsSameBut z w
same_moved fails room z w (inl h) = same_zone z w h.2
same_moved fails room z w (inr h) = subst (λ (x : ZoneState). IsSameBut z x) (sym (h.1).2) (same_rebased fails (h.1).0 z)

pub same_lasts : (z w : ZoneState) → IsSameBut z w → Lasts z w
same_lasts z w s = record { shape = ap (λ (x : Setting). x.shape) s.setting; loaded = s.loaded; more = []; shown = s.shown ∙ sym (append-nil z.shown) }

pub same_updates : (z w : ZoneState) → IsSameBut z w → Same z w
same_updates z w s = record { setting = s.setting; loaded = s.loaded; updates = λ i. s.shown i ++ s.staged i; openings = s.openings; altered = s.altered }

moved_preserves : (fails : List Bool) (old : Machine) (index : ℕ) (z w : ZoneState) → IsSound (flushed fails old) → slice_get (flushed fails old).zones index ≡ Some z → IsSameBut z w
    → Preserves (flushed fails old) (record (flushed fails old) { zones = slice_set (flushed fails old).zones index w }) []
moved_preserves fails old index z w s e same = record {
  lasts = pair_set Lasts lasts_same (flushed fails old).zones index z w e (same_lasts z w same);
  sound = record {
    zones = all_set HasHistory (flushed fails old).zones index w s.zones (same_history z w (same_updates z w same) (all_found HasHistory (flushed fails old).zones index z s.zones e));
    waiting = tt;
  };
  good = tt;
}

-- what comes before an update is answered
begun_preserves : (fails : List Bool) (old : Machine) (lacked : Option (ℕ × ℕ)) (first : Effects) (mid : Machine) → IsSound old → IsUpdateBegun fails old lacked first mid → Preserves old mid first.sent
begun_preserves fails old None first mid s g = given old first mid (made_place fails old).0 (made_place fails old).1 fails g.1 (place_preserves fails old g.0 s)
begun_preserves fails old (Some lacked) first mid s g =
    let flushing = g.0 in
    let made = g.3 in
    let here = flushed flushing old in
    let after : Machine = record here { zones = slice_set here.zones lacked.0 made.next } in
    let one = flush_preserves flushing old made.all s in
    let two = moved_preserves flushing old lacked.0 made.zone made.next one.sound made.stands (same_moved g.1 lacked.1 made.zone made.next made.moved) in
    reaches old mid after first.sent (flush_sends flushing old ++ []) made.is ((g.4).sent ∙ sym (append-nil (flush_sends flushing old)))
    (and_then old here after (flush_sends flushing old) [] one two)

update_goes : (fails : List Bool) (old : Machine) (a : Asked) (effects : Effects) (new : Machine) → IsSound old → IsUpdated fails old a effects new → Preserves old new effects.sent
update_goes fails old a effects new s u =
    let ended = answer u.mid a in
    let p = begun_preserves fails old (room_lacked old a) u.first u.mid s u.begun in
    reaches old new ended.0 effects.sent ((u.first).sent ++ ended.1) u.state u.sent
    (and_then old u.mid ended.0 (u.first).sent ended.1 p (admitted_preserves u.mid a (admission (u.mid).zones a) p.sound (admission_stands (u.mid).zones a)))

-- a connection that closes: the replies that wait keep their positions
redirected : (number : ℕ) (zones : List ZoneState) (ws : List Waits) → AllByRecursion (IsPlaced zones) ws
    → AllByRecursion (IsPlaced zones) (map (λ (w : Waits). record w { to = without_connection number w.to }) ws)
redirected number zones [] h = tt
redirected number zones (w ∷ ws) h =
    (record { zone = (h.0).zone; stands = (h.0).stands; more = (h.0).more; updates = (h.0).updates }, redirected number zones ws h.1)

close_preserves : (number : ℕ) (m : Machine) → IsSound m → Preserves m (closed number m) []
close_preserves number m s = record {
  lasts = all_last_same m.zones;
  sound = record { zones = s.zones; waiting = redirected number m.zones m.waiting s.waiting };
  good = tt;
}

connect_preserves : (m : Machine) (number : ℕ) (peer : Peer) → IsSound m → Preserves m (connected number peer m) []
connect_preserves m number peer s = record {
  lasts = all_last_same m.zones;
  sound = record { zones = s.zones; waiting = s.waiting };
  good = tt;
}

-- a transfer
quiet_preserves : (old new : Machine) (sent : List Sent) → IsSound old → IsQuiet old sent new → Preserves old new sent
quiet_preserves old new sent s q = record {
  lasts = subst (λ (zs : List ZoneState). AllLast old.zones zs) (sym q.zones) (all_last_same old.zones);
  sound = record {
    zones = subst (λ (zs : List ZoneState). AllByRecursion HasHistory zs) (sym q.zones) s.zones;
    waiting = subst (λ (zs : List ZoneState). AllByRecursion (IsPlaced zs) new.waiting) (sym q.zones) (subst (λ (ws : List Waits). AllByRecursion (IsPlaced old.zones) ws) (sym q.waiting) s.waiting);
  };
  good = replies_all (IsTrueIn new.zones) (λ to octets. tt) sent q.replies;
}

served_goes : (fails : List Bool) (old : Machine) (to : To) (peer : Peer) (h : Handled) (effects : Effects) (new : Machine) → IsSound old → IsRequestHandled fails old to peer h effects new → Preserves old new effects.sent
served_goes fails old to peer NoReply effects new s g = given old effects new old [] [] g.1 (stays old s)
served_goes fails old to peer (Replies reply) effects new s g = given old effects new old _ [] g.1 (with_reply old old [] to reply (stays old s))
served_goes fails old to peer (Update message question) effects new s g =
    update_goes fails old (record { to = to; address = peer.address; message = message; zone = question }) effects new s g
served_goes fails old to peer (Transfer octets message question) effects new s g =
    quiet_preserves old new effects.sent s (transferred_quiet old to peer octets message question effects.sent new g.1)

arrived_goes : (fails : List Bool) (old : Machine) (number : ℕ) (peer : Option Peer) (octets : List ℕ) (effects : Effects) (new : Machine) → IsSound old → IsArrived fails old number peer octets effects new → Preserves old new effects.sent
arrived_goes fails old number None octets effects new s g = given old effects new old [] [] g.1 (stays old s)
arrived_goes fails old number (Some peer) octets effects new s g = served_goes fails old (to.Connection number) peer _ effects new s g

checkpointed_goes : (fails : List Bool) (old : Machine) (index : ℕ) (o : Option ZoneState) (effects : Effects) (new : Machine) → IsSound old → IsCheckpointed fails old index o effects new → Preserves old new effects.sent
checkpointed_goes fails old index None effects new s g = given old effects new old [] [] g.1 (stays old s)
checkpointed_goes fails old index (Some z) effects new s g = begun_preserves fails old (Some (index, 0)) effects new s g

event_goes : (fails : List Bool) (old : Machine) (event : Event) (effects : Effects) (new : Machine) → IsSound old → Goes fails old event effects new → Preserves old new effects.sent
event_goes fails old (Datagram peer octets) effects new s g = served_goes fails old (to.Address peer) peer _ effects new s g
event_goes fails old (Connect peer) effects new s g = elim (g.1) [
  | inl c ↦ reaches old new (connected c.number peer old) effects.sent [] c.state (ap (λ (x : Effects). x.sent) c.reported) (connect_preserves old c.number peer s)
  | inr c ↦ given old effects new old [] [] c.1 (stays old s)
]
event_goes fails old (Arrives number octets) effects new s g = arrived_goes fails old number (peer_at number old.connections) octets effects new s g
event_goes fails old Flush effects new s g = given old effects new (flushed fails old) (flush_sends fails old) fails g.1 (flush_preserves fails old g.0 s)
event_goes fails old (Checkpoint index) effects new s g = checkpointed_goes fails old index (slice_get old.zones index) effects new s g
event_goes fails old (Pump number) effects new s g = quiet_preserves old new effects.sent s (pumped_quiet old number (sending_at number old.connections) effects.sent new g.1)
event_goes fails old (Closed number) effects new s g = given old effects new (closed number old) [] [] g.1 (close_preserves number old s)

-- memory that is refused
failure_true : (zones : List ZoneState) (to : To) (octets : List ℕ) → AllByRecursion (IsTrueIn zones) (failure to octets)
failure_true zones to octets =
    tested (AllByRecursion (IsTrueIn zones)) (is_asking octets) (Replied to (text (bare_reply (header_of octets) rcode_servfail)) ∷ []) [] (λ _. (tt, tt)) (λ _. tt)

failure_on_true : (zones : List ZoneState) (number : ℕ) (peer : Option Peer) (octets : List ℕ) → AllByRecursion (IsTrueIn zones) (failure_on number peer octets)
failure_on_true zones number None octets = tt
failure_on_true zones number (Some peer) octets = failure_true zones (to.Connection number) octets

failures_true : (zones : List ZoneState) (m : Machine) (event : Event) → AllByRecursion (IsTrueIn zones) (failures m event)
failures_true zones m (Datagram peer octets) = failure_true zones (to.Address peer) octets
failures_true zones m (Arrives number octets) = failure_on_true zones number (peer_at number m.connections) octets
failures_true zones m (Connect peer) = tt
failures_true zones m Flush = tt
failures_true zones m (Checkpoint index) = tt
failures_true zones m (Pump number) = tt
failures_true zones m (Closed number) = tt

with_failures : (old new : Machine) (sent : List Sent) (event : Event) → Preserves old new sent → Preserves old new (sent ++ failures old event)
with_failures old new sent event p = record {
  lasts = p.lasts;
  sound = p.sound;
  good = all_with (IsTrueIn new.zones) sent (failures old event) p.good (failures_true new.zones old event);
}

lacks_goes : (fails : List Bool) (old : Machine) (event : Event) (effects : Effects) (new : Machine) → IsSound old → Lacks fails old event effects new → Preserves old new effects.sent
lacks_goes fails old event effects new s l = elim (l.stays) [
  | inl c ↦ reaches old new old effects.sent (failures old event) c.1 c.2 (with_failures old old [] event (stays old s))
  | inr r ↦ elim r [
    | inl c ↦ reaches old new (flushed fails old) effects.sent (flush_sends fails old ++ failures old event) c.2 c.3
        (with_failures old (flushed fails old) (flush_sends fails old) event (flush_preserves fails old c.1 s))
    | inr c ↦ reaches old new new effects.sent ((c.1).sent ++ failures old event) refl c.4
        (with_failures old new (c.1).sent event (begun_preserves fails old (Some c.0) c.1 new s c.3))
  ]
]

pub step_preserves : (fails : List Bool) (old : Machine) (event : Event) (effects : Effects) (new : Machine) → IsSound old → Step fails old event effects new → Preserves old new effects.sent
step_preserves fails old event effects new s (inl g) = event_goes fails old event effects new s g
step_preserves fails old event effects new s (inr l) = lacks_goes fails old event effects new s l
