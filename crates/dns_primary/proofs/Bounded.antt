-- No more waits for a flush than may.
use Rattle.std.proofs.Common.{◌≡◌, ◌⊎◌, ◌<◌, ◌≤◌, ℕ, zero, suc, Bool, true, false, inl, inr, ⊎_elim, List, [], ◌∷◌, ◌++◌, length, map, Option, Some, None, refl, sym, ap, subst, ◌∙◌, arith}
use Rattle.std.specs.Prelude.{slice_get, slice_set, not, ◌==◌, ◌||◌, nat_lt, if◌then◌else◌}
use Rattle.std.specs.List.{AllByRecursion}
use Rattle.std.proofs.lemmas.List.{length-append, length-map}
use Rattle.dns_records.specs.Record.{Record}
use Rattle.dns_wire.specs.Codes.{number_of_rcode}
use Rattle.dns_wire.proofs.Binds.{true_lt}
use Rattle.dns_records.specs.Types.{type_soa, class_in}
use Rattle.dns_request.specs.Codes.{rcode_formerr, rcode_notauth, rcode_refused, rcode_servfail}
use Rattle.dns_zone.specs.Zone.{Zone}
use Rattle.dns_answer.specs.Answer.{Handled, NoReply, Replies, Update, Transfer}
use Rattle.dns_update.specs.Verdict.{Verdict, Refuses, Keeps, Leaves, verdict}
use Rattle.dns_store.specs.Versions.{Opened}
use Rattle.dns_versions.specs.Each.{Each2, Each3}
use Rattle.dns_versions.specs.Held.{newest_zone}
use Rattle.dns_versions.specs.Staging.{has_room}
use Rattle.dns_primary.specs.declared.primary.ZoneSpec.{ZoneSpec}
use Rattle.dns_primary.specs.declared.event.Peer.{Peer}
use Rattle.dns_primary.specs.declared.event.To.{To}
use Rattle.dns_primary.specs.declared.event.To.TheVariants as to
use Rattle.dns_primary.specs.Machine.{Made, ZoneState, Waits, Machine, kept_of, updates_of, peer_at, sending_at}
use Rattle.dns_primary.specs.Flush.{Sent, is_closed_in, is_none_made, flushed, flushed_zone, flushed_zones, flush_sends}
use Rattle.dns_primary.specs.Connections.{closed, without_connection}
use Rattle.dns_primary.specs.Update.{Asked, Admission, Rejects, Admits, zone_position, admission_in, admission_at, admission, newest_serial, waits, stages, with_staged, accepted_in, judged_in, admitted, is_full, made_place, answer, room_lacked}
use Rattle.dns_primary.specs.Checkpoint.{rebased, IsMovedUnlessClosed, IsCheckpoint}
use Rattle.dns_primary.specs.Step.{Event, Datagram, Connect, Arrives, Flush, Checkpoint, Pump, Closed, IsCheckpointed, IsUpdateBegun, IsUpdated, Effects, AreFailures, IsRequestHandled, IsArrived, Goes, Lacks, Step}
use Rattle.dns_primary.specs.Stop.{AreRecovered, IsSetAnew, IsConfigured}
use Rattle.dns_primary.specs.Fresh.{IsLoaded, IsFresh, IsReopened, IsResumed, IsStart}
use Rattle.dns_primary.specs.Runs.{Moment, Took, Stopped, Configured, machine_after, Happens, Run, machine_at_end}
use Rattle.dns_primary.specs.Bounds.{HasFewStaged, IsBounded, IsForOpen}
use Rattle.dns_primary.proofs.Quiet.{IsQuiet, transferred_quiet, pumped_quiet}
use Rattle.dns_primary.proofs.Sound.{all_with}
use Rattle.dns_primary.proofs.Zonewise.{tested, all_found, all_set, pair_over}
use Rattle.dns_primary.proofs.Preserved.{StandsIn, admission_stands}

-- few updates are staged of a zone, and where it isn't closed no more than so many replies wait
pub record Fits (n : ℕ) (z : ZoneState) : Type 0 where
  pub few : length z.staged ≤ 32
  pub wait : (z.closed ≡ true) ⊎ (length z.staged ≤ n)

pub record AllFit (m : Machine) : Type 0 where
  pub few : length m.waiting ≤ 32
  pub each : AllByRecursion (Fits (length m.waiting)) m.zones
  pub opened : AllByRecursion (IsForOpen m.zones) m.waiting

fits_more : (n k : ℕ) (z : ZoneState) → n ≤ k → Fits n z → Fits k z
fits_more n k z le h = record { few = h.few; wait = ⊎_elim (λ shut. inl shut) (λ at_most. inr (omega (arith, at_most, le))) h.wait }

all_more : (n k : ℕ) (zones : List ZoneState) → n ≤ k → AllByRecursion (Fits n) zones → AllByRecursion (Fits k) zones
all_more n k [] le h = tt
all_more n k (z ∷ zones) le h = (fits_more n k z le h.0, all_more n k zones le h.1)

pub none_fit : (n : ℕ) (z : ZoneState) → z.staged ≡ [] → Fits n z
none_fit n z none = (let len : length z.staged ≡ 0 = ap (λ (ms : List Made). length ms) none in record { few = omega (arith, len); wait = inr (omega (arith, len)) })

-- a flush
none_staged : (ms : List Made) → is_none_made ms ≡ true → ms ≡ []
none_staged [] e = refl
none_staged (m ∷ ms) e = absurd cc

rests : (shut none : Bool) → (shut || none) ≡ true → (shut ≡ true) ⊎ (none ≡ true)
rests true none e = inl refl
rests false none e = inr e

flushed_fits : (n : ℕ) (fails : Bool) (z : ZoneState) → Fits n z → Fits 0 (flushed_zone fails z)
flushed_fits n fails z h =
    tested (Fits 0) (z.closed || is_none_made z.staged) z (if fails then record z { closed = true } else record z { shown = z.shown ++ z.staged; staged = [] })
    (λ e. ⊎_elim (λ shut. record { few = h.few; wait = inl shut }) (λ none. none_fit 0 z (none_staged z.staged none)) (rests z.closed (is_none_made z.staged) e))
    (λ _. tested (Fits 0) fails (record z { closed = true }) (record z { shown = z.shown ++ z.staged; staged = [] })
    (λ _. record { few = h.few; wait = inl refl })
    (λ _. record { few = omega arith; wait = inr (omega arith) }))

all_flushed : (n : ℕ) (fails : List Bool) (zones : List ZoneState) → length fails ≡ length zones → AllByRecursion (Fits n) zones → AllByRecursion (Fits 0) (flushed_zones fails zones)
all_flushed n [] [] e h = tt
all_flushed n [] (z ∷ zones) e h = absurd (omega (arith, e))
all_flushed n (f ∷ fails) [] e h = absurd (omega (arith, e))
all_flushed n (f ∷ fails) (z ∷ zones) e h = (flushed_fits n f z h.0, all_flushed n fails zones (omega (arith, e)) h.1)

flush_fits : (fails : List Bool) (m : Machine) → length fails ≡ length m.zones → AllFit m → AllFit (flushed fails m)
flush_fits fails m long h = record { few = omega arith; each = all_flushed (length m.waiting) fails m.zones long h.each; opened = tt }

-- a checkpoint
rebased_fits : (n : ℕ) (fails : Bool) (base : ℕ) (z : ZoneState) → Fits n z → Fits n (rebased fails base z)
rebased_fits n true base z h = record { few = h.few; wait = inl refl }
rebased_fits n false base z h = record { few = h.few; wait = h.wait }

moved_fits : (n : ℕ) (fails : Bool) (room : ℕ) (z new : ZoneState) → IsMovedUnlessClosed fails room z new → Fits n z → Fits n new
moved_fits n fails room z new (inl same) h = subst (Fits n) (sym same.2) h
moved_fits n fails room z new (inr (opened, (base, next, is))) h = subst (Fits n) (sym is) (rebased_fits n fails base z h)

-- what comes before an update leaves room for its reply
record HasRoom (m : Machine) : Type 0 where
  fit : AllFit m
  room : length m.waiting < 32

checkpoint_fits : (index room : ℕ) (old : Machine) (fails : List Bool) (moving : Bool) (new : Machine) → IsCheckpoint index room old fails moving new → AllFit old → HasRoom new
checkpoint_fits index room old fails moving new made h =
    let here = flushed fails old in
    let fit = flush_fits fails old made.all h in
    let one = moved_fits 0 moving room made.zone made.next made.moved (all_found (Fits 0) here.zones index made.zone fit.each made.stands) in
    subst HasRoom (sym made.is) (record { fit = record { few = omega arith; each = all_set (Fits 0) here.zones index made.next fit.each one; opened = tt }; room = omega arith })

not_full : (b : Bool) → not b ≡ false → b ≡ true
not_full true e = refl
not_full false e = absurd cc

place_fits : (fails : List Bool) (m : Machine) → AreFailures (is_full m) m fails → AllFit m → HasRoom (made_place fails m).0
place_fits fails m f h =
    tested (λ (p : Machine × List Sent). HasRoom p.0) (is_full m) (flushed fails m, flush_sends fails m) (m, [])
    (λ e. record { fit = flush_fits fails m (subst (λ (b : Bool). AreFailures b m fails) e f) h; room = omega arith })
    (λ e. record { fit = h; room = true_lt (length m.waiting) 32 (not_full (nat_lt (length m.waiting) 32) e) })

begun_fits : (fails : List Bool) (old : Machine) (lacked : Option (ℕ × ℕ)) (first : Effects) (mid : Machine) → IsUpdateBegun fails old lacked first mid → AllFit old → HasRoom mid
begun_fits fails old None first mid b h = subst HasRoom (sym (b.1).state) (place_fits fails old b.0 h)
begun_fits fails old (Some lacked) first mid b h = checkpoint_fits lacked.0 lacked.1 old b.0 b.1 mid b.3 h

-- an update
one_more : {X : Type 0} (xs : List X) (x : X) → length (xs ++ x ∷ []) ≡ suc (length xs)
one_more xs x = length-append xs (x ∷ []) ∙ omega arith

wait_fits : (m : Machine) (a : Asked) (index rcode serial : ℕ) (updates : List Made) → is_closed_in (slice_get m.zones index) ≡ false → HasRoom m → AllFit (waits m a index rcode serial updates)
wait_fits m a index rcode serial updates opened h =
    let one : Waits = record { to = a.to; address = a.address; header = a.message.header; rcode = rcode; zone = index; serial = serial; updates = updates } in
    let len = one_more m.waiting one in
    let room = h.room in
    record {
      few = omega (arith, len, room);
      each = all_more (length m.waiting) _ m.zones (omega (arith, len)) (h.fit).each;
      opened = all_with (IsForOpen m.zones) m.waiting (one ∷ []) (h.fit).opened (opened, tt);
    }

-- a zone that is changed, and not closed, is as open as before
set_open : (zones : List ZoneState) (index number : ℕ) (z w : ZoneState) → slice_get zones index ≡ Some z → w.closed ≡ z.closed
    → is_closed_in (slice_get (slice_set zones index w) number) ≡ is_closed_in (slice_get zones number)
set_open [] index number z w stands same = absurd (cc stands)
set_open (x ∷ zones) zero zero z w stands same = same ∙ ap is_closed_in (sym stands)
set_open (x ∷ zones) zero (suc number) z w stands same = refl
set_open (x ∷ zones) (suc index) zero z w stands same = refl
set_open (x ∷ zones) (suc index) (suc number) z w stands same = set_open zones index number z w stands same

still_open : (old new : List ZoneState) → ((number : ℕ) → is_closed_in (slice_get new number) ≡ is_closed_in (slice_get old number)) → (ws : List Waits)
    → AllByRecursion (IsForOpen old) ws → AllByRecursion (IsForOpen new) ws
still_open old new same [] h = tt
still_open old new same (w ∷ ws) h = (same w.zone ∙ h.0, still_open old new same ws h.1)

staged_fits : (n : ℕ) (made : Made) (z : ZoneState) → n < 32 → z.closed ≡ false → Fits n z → Fits (suc n) (with_staged made z)
staged_fits n made z room opened h =
    let len = one_more z.staged made in
    ⊎_elim (λ shut. (let clash : true ≡ false = sym shut ∙ opened in absurd (cc clash)))
    (λ at_most. record { few = omega (arith, len, at_most, room); wait = inr (omega (arith, len, at_most)) }) h.wait

stage_fits : (m : Machine) (a : Asked) (index : ℕ) (z : ZoneState) (records : List Record) → slice_get m.zones index ≡ Some z → z.closed ≡ false → HasRoom m → AllFit (stages m a index z records)
stage_fits m a index z records stands opened h =
    let made : Made = record { update = a.message; records = records } in
    let n = length m.waiting in
    let zones_after = slice_set m.zones index (with_staged made z) in
    let staged = staged_fits n made z h.room opened (all_found (Fits n) m.zones index z (h.fit).each stands) in
    let each = all_set (Fits (suc n)) m.zones index (with_staged made z) (all_more n (suc n) m.zones (omega arith) (h.fit).each) staged in
    let one : Waits = record { to = a.to; address = a.address; header = a.message.header; rcode = 0; zone = index; serial = newest_serial (with_staged made z); updates = updates_of (with_staged made z) } in
    let len = one_more m.waiting one in
    let room = h.room in
    let same : (number : ℕ) → is_closed_in (slice_get zones_after number) ≡ is_closed_in (slice_get m.zones number) = λ number. set_open m.zones index number z (with_staged made z) stands refl in
    record {
      few = omega (arith, len, room);
      each = all_more (suc n) _ zones_after (omega (arith, len)) each;
      opened = all_with (IsForOpen zones_after) m.waiting (one ∷ []) (still_open m.zones zones_after same m.waiting (h.fit).opened) (same index ∙ ap is_closed_in stands ∙ opened, tt);
    }

abbrev AnswerFits : Machine × List Sent → Type 0
AnswerFits p = AllFit p.0

accepted_fits : (m : Machine) (a : Asked) (index : ℕ) (z : ZoneState) (records : List Record) → slice_get m.zones index ≡ Some z → z.closed ≡ false → HasRoom m → AnswerFits (accepted_in m a index z records)
accepted_fits m a index z records stands opened h =
    tested AnswerFits (has_room (kept_of z) records) (stages m a index z records, []) (waits m a index rcode_servfail (newest_serial z) (updates_of z), [])
    (λ _. stage_fits m a index z records stands opened h)
    (λ _. wait_fits m a index rcode_servfail (newest_serial z) (updates_of z) (ap is_closed_in stands ∙ opened) h)

judged_fits : (m : Machine) (a : Asked) (index : ℕ) (z : ZoneState) (v : Verdict) → slice_get m.zones index ≡ Some z → z.closed ≡ false → HasRoom m → AnswerFits (judged_in m a index z v)
judged_fits m a index z (Refuses rcode) stands opened h = wait_fits m a index (number_of_rcode rcode) (newest_serial z) (updates_of z) (ap is_closed_in stands ∙ opened) h
judged_fits m a index z Keeps stands opened h = wait_fits m a index 0 (newest_serial z) (updates_of z) (ap is_closed_in stands ∙ opened) h
judged_fits m a index z (Leaves records) stands opened h = accepted_fits m a index z records stands opened h

-- a zone that is admitted is open
abbrev IsOpenIn : Admission → Type 0
IsOpenIn (Rejects rcode) = Unit {0}
IsOpenIn (Admits index z) = z.closed ≡ false

in_open : (a : Asked) (index : ℕ) (found : Option ZoneState) → IsOpenIn (admission_in a.address index found)
in_open a index None = tt
in_open a index (Some z) =
    tested IsOpenIn (not (z.setting.may_update a.address)) (Rejects rcode_refused) (if z.closed then Rejects rcode_servfail else Admits index z)
    (λ _. tt)
    (λ _. tested IsOpenIn z.closed (Rejects rcode_servfail) (Admits index z) (λ _. tt) (λ e. e))

at_open : (zones : List ZoneState) (a : Asked) (index : Option ℕ) → IsOpenIn (admission_at zones a.address index)
at_open zones a None = tt
at_open zones a (Some index) = in_open a index (slice_get zones index)

admission_open : (zones : List ZoneState) (a : Asked) → IsOpenIn (admission zones a)
admission_open zones a =
    tested IsOpenIn (not (a.zone.qtype == type_soa)) (Rejects rcode_formerr)
    (if not (a.zone.qclass == class_in) then Rejects rcode_notauth else admission_at zones a.address (zone_position a.zone.name zones))
    (λ _. tt)
    (λ _. tested IsOpenIn (not (a.zone.qclass == class_in)) (Rejects rcode_notauth) (admission_at zones a.address (zone_position a.zone.name zones))
    (λ _. tt)
    (λ _. at_open zones a (zone_position a.zone.name zones)))

admitted_fits : (m : Machine) (a : Asked) (d : Admission) → StandsIn m.zones d → IsOpenIn d → HasRoom m → AnswerFits (admitted m a d)
admitted_fits m a (Rejects rcode) stands opened h = h.fit
admitted_fits m a (Admits index z) stands opened h =
    judged_fits m a index z (verdict (newest_zone (kept_of z)) a.message.answers a.message.authorities) stands opened h

answer_fits : (m : Machine) (a : Asked) → HasRoom m → AllFit (answer m a).0
answer_fits m a h = admitted_fits m a (admission m.zones a) (admission_stands m.zones a) (admission_open m.zones a) h

update_fits : (fails : List Bool) (old : Machine) (a : Asked) (effects : Effects) (new : Machine) → IsUpdated fails old a effects new → AllFit old → AllFit new
update_fits fails old a effects new u h =
    subst AllFit (sym u.state) (answer_fits u.mid a (begun_fits fails old (room_lacked old a) u.first u.mid u.begun h))

-- the other events
quiet_fits : (old new : Machine) (sent : List Sent) → IsQuiet old sent new → AllFit old → AllFit new
quiet_fits old new sent q h = record {
  few = subst (λ (ws : List Waits). length ws ≤ 32) (sym q.waiting) h.few;
  each = subst (λ (zs : List ZoneState). AllByRecursion (Fits (length new.waiting)) zs) (sym q.zones)
      (subst (λ (ws : List Waits). AllByRecursion (Fits (length ws)) old.zones) (sym q.waiting) h.each);
  opened = subst (λ (zs : List ZoneState). AllByRecursion (IsForOpen zs) new.waiting) (sym q.zones)
      (subst (λ (ws : List Waits). AllByRecursion (IsForOpen old.zones) ws) (sym q.waiting) h.opened);
}

redirected_open : (zones : List ZoneState) (number : ℕ) (ws : List Waits) → AllByRecursion (IsForOpen zones) ws
    → AllByRecursion (IsForOpen zones) (map (λ (w : Waits). record w { to = without_connection number w.to }) ws)
redirected_open zones number [] h = tt
redirected_open zones number (w ∷ ws) h = (h.0, redirected_open zones number ws h.1)

close_fits : (number : ℕ) (m : Machine) → AllFit m → AllFit (closed number m)
close_fits number m h =
    let len = length-map m.waiting (λ (w : Waits). record w { to = without_connection number w.to }) in
    let few = h.few in
    record { few = omega (arith, len, few); each = all_more (length m.waiting) _ m.zones (omega (arith, len)) h.each; opened = redirected_open m.zones number m.waiting h.opened }

served_fits : (fails : List Bool) (old : Machine) (to : To) (peer : Peer) (k : Handled) (effects : Effects) (new : Machine) → IsRequestHandled fails old to peer k effects new → AllFit old → AllFit new
served_fits fails old to peer NoReply effects new g h = subst AllFit (sym (g.1).state) h
served_fits fails old to peer (Replies reply) effects new g h = subst AllFit (sym (g.1).state) h
served_fits fails old to peer (Update message question) effects new g h =
    update_fits fails old (record { to = to; address = peer.address; message = message; zone = question }) effects new g h
served_fits fails old to peer (Transfer octets message question) effects new g h =
    quiet_fits old new effects.sent (transferred_quiet old to peer octets message question effects.sent new g.1) h

arrived_fits : (fails : List Bool) (old : Machine) (number : ℕ) (peer : Option Peer) (octets : List ℕ) (effects : Effects) (new : Machine) → IsArrived fails old number peer octets effects new → AllFit old → AllFit new
arrived_fits fails old number None octets effects new g h = subst AllFit (sym (g.1).state) h
arrived_fits fails old number (Some peer) octets effects new g h = served_fits fails old (to.Connection number) peer _ effects new g h

checkpointed_fits : (fails : List Bool) (old : Machine) (index : ℕ) (o : Option ZoneState) (effects : Effects) (new : Machine) → IsCheckpointed fails old index o effects new → AllFit old → AllFit new
checkpointed_fits fails old index None effects new g h = subst AllFit (sym (g.1).state) h
checkpointed_fits fails old index (Some z) effects new g h = (checkpoint_fits index 0 old g.0 g.1 new g.3 h).fit

event_fits : (fails : List Bool) (old : Machine) (event : Event) (effects : Effects) (new : Machine) → Goes fails old event effects new → AllFit old → AllFit new
event_fits fails old (Datagram peer octets) effects new g h = served_fits fails old (to.Address peer) peer _ effects new g h
event_fits fails old (Connect peer) effects new g h = elim (g.1) [
  | inl c ↦ subst AllFit (sym c.state) (record { few = h.few; each = h.each; opened = h.opened })
  | inr c ↦ subst AllFit (sym (c.1).state) h
]
event_fits fails old (Arrives number octets) effects new g h = arrived_fits fails old number (peer_at number old.connections) octets effects new g h
event_fits fails old Flush effects new g h = subst AllFit (sym (g.1).state) (flush_fits fails old g.0 h)
event_fits fails old (Checkpoint index) effects new g h = checkpointed_fits fails old index (slice_get old.zones index) effects new g h
event_fits fails old (Pump number) effects new g h = quiet_fits old new effects.sent (pumped_quiet old number (sending_at number old.connections) effects.sent new g.1) h
event_fits fails old (Closed number) effects new g h = subst AllFit (sym (g.1).state) (close_fits number old h)

lacks_fits : (fails : List Bool) (old : Machine) (event : Event) (effects : Effects) (new : Machine) → Lacks fails old event effects new → AllFit old → AllFit new
lacks_fits fails old event effects new l h = elim (l.stays) [
  | inl c ↦ subst AllFit (sym c.1) h
  | inr r ↦ elim r [
    | inl c ↦ subst AllFit (sym c.2) (flush_fits fails old c.1 h)
    | inr c ↦ (begun_fits fails old (Some c.0) c.1 new c.3 h).fit
  ]
]

step_fits : (fails : List Bool) (old : Machine) (event : Event) (effects : Effects) (new : Machine) → Step fails old event effects new → AllFit old → AllFit new
step_fits fails old event effects new (inl g) h = event_fits fails old event effects new g h
step_fits fails old event effects new (inr l) h = lacks_fits fails old event effects new l h

-- a stop
all_recovered : (least most : ℕ) (m : Machine) (event : Event) (index : ℕ) (old new : List ZoneState) → AreRecovered least most m event index old new → AllByRecursion (Fits 0) new
all_recovered least most m event index [] [] r = tt
all_recovered least most m event index [] (w ∷ new) r = absurd r
all_recovered least most m event index (z ∷ old) [] r = absurd r
all_recovered least most m event index (z ∷ old) (w ∷ new) r = (none_fit 0 w (r.0).staged, all_recovered least most m event (suc index) old new r.1)

pub nothing_fits : (m : Machine) → m.waiting ≡ [] → AllByRecursion (Fits 0) m.zones → AllFit m
nothing_fits m none each = record {
  few = subst (λ (ws : List Waits). length ws ≤ 32) (sym none) (omega arith);
  each = subst (λ (ws : List Waits). AllByRecursion (Fits (length ws)) m.zones) (sym none) each;
  opened = subst (λ (ws : List Waits). AllByRecursion (IsForOpen m.zones) ws) (sym none) tt;
}

anew_fits : (n : ℕ) (z w : ZoneState) → IsSetAnew z w → Fits n z → Fits n w
anew_fits n z w s h =
    subst (Fits n) (sym s.rest) (record { few = h.few; wait = h.wait })

configured_fits : (old new : Machine) → IsConfigured old new → AllFit old → AllFit new
configured_fits old new c h =
    let same : new.waiting ≡ old.waiting = ap (λ (m : Machine). m.waiting) c.rest in
    record {
      few = subst (λ (ws : List Waits). length ws ≤ 32) (sym same) h.few;
      each = subst (λ (ws : List Waits). AllByRecursion (Fits (length ws)) new.zones) (sym same)
          (pair_over IsSetAnew (Fits (length old.waiting)) (anew_fits (length old.waiting)) old.zones new.zones c.zones h.each);
      opened = subst (λ (ws : List Waits). AllByRecursion (IsForOpen new.zones) ws) (sym (same ∙ c.waiting)) tt;
    }

pub moment_fits : (old : Machine) (t : Moment) → Happens old t → AllFit old → AllFit (machine_after t)
moment_fits old (Took event fails effects new) g h = step_fits fails old event effects new g h
moment_fits old (Configured new) g h = configured_fits old new g h
moment_fits old (Stopped event tries new) g h = nothing_fits new g.waiting (all_recovered 1 (suc tries) old event 0 old.zones new.zones g.zones)

run_fits : (start : Machine) (run : List Moment) → Run start run → AllFit start → AllFit (machine_at_end start run)
run_fits start [] r h = h
run_fits start (t ∷ rest) r h = run_fits (machine_after t) rest r.1 (moment_fits start t r.0 h)

few_of : (n : ℕ) (zones : List ZoneState) → AllByRecursion (Fits n) zones → AllByRecursion HasFewStaged zones
few_of n [] h = tt
few_of n (z ∷ zones) h = ((h.0).few, few_of n zones h.1)

pub bounded : (m : Machine) → AllFit m → IsBounded m
bounded m h = record { waiting = h.few; staged = few_of (length m.waiting) m.zones h.each; opened = h.opened }

-- where a run begins
loaded_fit : (zones : List Zone) (settings : List ZoneSpec) (states : List ZoneState) → Each3 IsLoaded zones settings states → AllByRecursion (Fits 0) states
loaded_fit [] [] [] h = tt
loaded_fit (z ∷ zones) (s ∷ settings) (m ∷ states) h = (none_fit 0 m (h.0).staged, loaded_fit zones settings states h.1)
loaded_fit _ _ _ h = absurd h

no_versions : (ms : List Made) → map (λ (m : Made). m.records) ms ≡ [] → ms ≡ []
no_versions [] e = refl
no_versions (m ∷ ms) e = absurd cc

reopened_fit : (held : List Opened) (states : List ZoneState) → Each2 IsReopened held states → AllByRecursion (Fits 0) states
reopened_fit [] [] h = tt
reopened_fit [] (z ∷ states) h = absurd h
reopened_fit (o ∷ held) [] h = absurd h
reopened_fit (o ∷ held) (z ∷ states) h = (none_fit 0 z (no_versions z.staged (ap (λ k. k.staged) (h.0).versions)), reopened_fit held states h.1)

fresh_fit : (zones : List Zone) (settings : List ZoneSpec) (m : Machine) → IsFresh zones settings m → AllFit m
fresh_fit zones settings m f = nothing_fits m f.waiting (loaded_fit zones settings m.zones f.zones_are)

resumed_fit : (held : List Opened) (m : Machine) → IsResumed held m → AllFit m
resumed_fit held m f = nothing_fits m f.waiting (reopened_fit held m.zones f.zones_are)

start_fits : (m : Machine) → IsStart m → AllFit m
start_fits m (inl (zones, settings, f)) = fresh_fit zones settings m f
start_fits m (inr (held, f)) = resumed_fit held m f

pub run_bounded : (start : Machine) (run : List Moment) → IsStart start → Run start run → IsBounded (machine_at_end start run)
run_bounded start run begins r = bounded (machine_at_end start run) (run_fits start run r (start_fits start begins))
