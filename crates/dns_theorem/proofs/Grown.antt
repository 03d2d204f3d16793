-- What an event makes of each zone, of whichever versions: they stay, or one more is accepted, which the event brought.
use Rattle.std.proofs.Common.{◌≡◌, ◌+◌, ◌<◌, ◌≤◌, ◌^◌, ◌⊎◌, ℕ, Bool, true, inl, inr, List, [], ◌∷◌, ◌++◌, length, map, Option, Some, None, refl, sym, ap, subst, ◌∙◌, append_assoc, append-nil}
use Rattle.std.specs.Prelude.{◌-◌, ◌&&◌, nat_le, nat_lt, slice_get, slice_set}
use Rattle.std.specs.List.{AllByRecursion}
use Rattle.dns_records.specs.Record.{Record}
use Rattle.dns_layout.specs.Sector.{snapshot_sectors}
use Rattle.dns_wire.specs.Message.{header_of}
use Rattle.dns_wire.specs.Text.{text}
use Rattle.dns_wire.specs.Codes.{number_of_rcode}
use Rattle.dns_wire.proofs.Binds.{true_le, true_lt}
use Rattle.dns_request.specs.Codes.{rcode_servfail}
use Rattle.dns_request.specs.declared.request.Transport.{Transport}
use Rattle.dns_request.specs.declared.request.Transport.TheVariants.{Udp, Tcp}
use Rattle.dns_zone.specs.Order.{both_true}
use Rattle.dns_names.specs.Name.{names_eq}
use Rattle.dns_answer.specs.Answer.{Handled, NoReply, Replies, Update, Transfer, bare_reply, handled}
use Rattle.dns_update.specs.Verdict.{Verdict, Refuses, Keeps, Leaves, verdict}
use Rattle.dns_store.specs.Versions.{Shape, newest_after, newest_of}
use Rattle.dns_store.specs.Plain.{octets_of}
use Rattle.dns_store.specs.Room.{entry_between}
use Rattle.dns_versions.specs.Each.{Each2}
use Rattle.dns_versions.specs.Held.{newest_zone}
use Rattle.dns_versions.specs.Staging.{has_room}
use Rattle.dns_primary.specs.declared.event.Peer.{Peer}
use Rattle.dns_primary.specs.declared.event.To.{To}
use Rattle.dns_primary.specs.declared.event.To.TheVariants as to
use Rattle.dns_primary.specs.Machine.{Setting, ZoneState, Made, Waits, Machine, kept_of, updates_of, versions_of, shown_zones, peer_at, sending_at}
use Rattle.dns_primary.specs.Flush.{Sent, Replied, flushed_zones, flushed, flush_sends}
use Rattle.dns_primary.specs.Connections.{connected, closed, without_connection}
use Rattle.dns_primary.specs.Update.{Asked, Admission, Rejects, Admits, admission, newest_serial, waits, stages, with_staged, accepted_in, judged_in, admitted, is_full, made_place, answer, room_lacked}
use Rattle.dns_primary.specs.Step.{Event, Datagram, Connect, Arrives, Flush, Checkpoint, Pump, Closed, IsCheckpointed, IsUpdateBegun, IsUpdated, Effects, AreFailures, GivesEffects, IsRequestHandled, IsArrived, Goes, Lacks, Step, is_asking, failure, failure_on, failures}
use Rattle.dns_primary.specs.Runs.{Lasts, AllLast, IsTrueIn, IsAccepted, Carries, Brings}
use Rattle.dns_primary.proofs.Quiet.{IsQuiet, transferred_quiet, pumped_quiet, replies_all}
use Rattle.dns_primary.proofs.Zonewise.{tested, pair_found_before, pair_map, pair_same, pair_on, pair_set, lasts_same, lasts_on, Same, same_itself, IsFlushed, newest_is, number_is}
use Rattle.dns_primary.proofs.Sound.{IsPlaced, Grows, grows_itself, waiting_over, all_more, all_with, all_true_over, all_flushed, all_released, set_stands}
use Rattle.dns_primary.proofs.Brought.{AllowedIn, IsAllowed, admission_allowed}
use Rattle.dns_primary.proofs.Preserved.{same_lasts, same_moved, same_updates}

-- the same updates, and what was shown stays
record IsStill (z w : ZoneState) : Type 0 where
  lasts : Lasts z w
  same : Same z w

still_itself : (z : ZoneState) → IsStill z z
still_itself z = record { lasts = lasts_same z; same = same_itself z }

abbrev pub Placed : Machine → Type 0
Placed m = AllByRecursion (IsPlaced m.zones) m.waiting

-- A machine that comes of another: so its zones go over, the updates of what waits are the first of their zones', and what goes out is true.
pub record IsHeld (R : ZoneState → ZoneState → Type 0) (old new : Machine) (sent : List Sent) : Type 0 where
  pub zones : Each2 R old.zones new.zones
  pub placed : Placed new
  pub good : AllByRecursion (IsTrueIn new.zones) sent

reaches : (R : ZoneState → ZoneState → Type 0) (old new next : Machine) (sent out : List Sent) → new ≡ next → sent ≡ out → IsHeld R old next out → IsHeld R old new sent
reaches R old new next sent out e f p = subst (λ m. IsHeld R old m sent) (sym e) (subst (λ xs. IsHeld R old next xs) (sym f) p)

given : (R : ZoneState → ZoneState → Type 0) (old : Machine) (effects : Effects) (new next : Machine) (out : List Sent) (fails : List Bool) → GivesEffects effects new next out fails → IsHeld R old next out
    → IsHeld R old new effects.sent
given R old effects new next out fails g p = reaches R old new next effects.sent out g.state g.sent p

pub pair_then : (R Q T : ZoneState → ZoneState → Type 0) → ((a b c : ZoneState) → R a b → Q b c → T a c) → (old mid new : List ZoneState) → Each2 R old mid → Each2 Q mid new → Each2 T old new
pair_then R Q T on [] [] [] p q = tt
pair_then R Q T on [] [] (c ∷ new) p q = absurd q
pair_then R Q T on [] (b ∷ mid) new p q = absurd p
pair_then R Q T on (a ∷ old) [] new p q = absurd p
pair_then R Q T on (a ∷ old) (b ∷ mid) [] p q = absurd q
pair_then R Q T on (a ∷ old) (b ∷ mid) (c ∷ new) p q = (on a b c p.0 q.0, pair_then R Q T on old mid new p.1 q.1)

-- ---- a flush
flush_held : (fails : List Bool) (m : Machine) → length fails ≡ length m.zones → Placed m → IsHeld IsStill m (flushed fails m) (flush_sends fails m)
flush_held fails m long p =
    let each = all_flushed fails m.zones long in
    record {
      zones = pair_map IsFlushed IsStill (λ a b f. record { lasts = f.lasts; same = f.same }) m.zones (flushed_zones fails m.zones) each;
      placed = tt;
      good = all_released m.zones (flushed_zones fails m.zones) m.waiting each p;
    }

still_stays : (m : Machine) → Placed m → IsHeld IsStill m m []
still_stays m p = record { zones = pair_same IsStill still_itself m.zones; placed = p; good = tt }

place_held : (fails : List Bool) (m : Machine) → AreFailures (is_full m) m fails → Placed m → IsHeld IsStill m (made_place fails m).0 (made_place fails m).1
place_held fails m f s =
    tested (λ (p : Machine × List Sent). IsHeld IsStill m p.0 p.1) (is_full m) (flushed fails m, flush_sends fails m) (m, [])
    (λ e. flush_held fails m (subst (λ (b : Bool). AreFailures b m fails) e f) s)
    (λ e. still_stays m s)

-- ---- a base that is moved
same_on : (a b c : ZoneState) → Same a b → Same b c → Same a c
same_on a b c p q = record { setting = q.setting ∙ p.setting; loaded = q.loaded ∙ p.loaded; updates = q.updates ∙ p.updates; openings = q.openings ∙ p.openings; altered = q.altered ∙ p.altered }

still_on : (a b c : ZoneState) → IsStill a b → IsStill b c → IsStill a c
still_on a b c p q = record { lasts = lasts_on a b c p.lasts q.lasts; same = same_on a b c p.same q.same }

begun_held : (fails : List Bool) (old : Machine) (lacked : Option (ℕ × ℕ)) (first : Effects) (mid : Machine) → Placed old → IsUpdateBegun fails old lacked first mid → IsHeld IsStill old mid first.sent
begun_held fails old None first mid s g = given IsStill old first mid (made_place fails old).0 (made_place fails old).1 fails g.1 (place_held fails old g.0 s)
begun_held fails old (Some lacked) first mid s g =
    let flushing = g.0 in
    let made = g.3 in
    let here = flushed flushing old in
    let after : Machine = record here { zones = slice_set here.zones lacked.0 made.next } in
    let one = flush_held flushing old made.all s in
    let same = same_moved g.1 lacked.1 made.zone made.next made.moved in
    let two : Each2 IsStill here.zones after.zones = pair_set IsStill still_itself here.zones lacked.0 made.zone made.next made.stands
    (record { lasts = same_lasts made.zone made.next same; same = same_updates made.zone made.next same }) in
    let last : AllLast here.zones after.zones = pair_map IsStill Lasts (λ a b x. x.lasts) here.zones after.zones two in
    reaches IsStill old mid after first.sent (flush_sends flushing old) made.is (g.4).sent
    (record { zones = pair_on IsStill still_on old.zones here.zones after.zones one.zones two; placed = tt; good = all_true_over here.zones after.zones last (flush_sends flushing old) one.good })

-- ---- an update
-- an update with room is accepted on the newest version
accepted_on : (z : ZoneState) (made : Made) → verdict (newest_zone (kept_of z)) made.update.answers made.update.authorities ≡ Leaves made.records → has_room (kept_of z) made.records ≡ true
    → IsAccepted z.setting.shape (length (updates_of z)) (newest_after z.loaded (versions_of (updates_of z))) made
accepted_on z made j room =
    let k = kept_of z in
    let few = nat_le (length made.records) 65536 in
    let snapshot = nat_le (snapshot_sectors (octets_of made.records)) k.shape.snapshot in
    let entry = nat_le (entry_between (newest_of k) made.records) k.shape.journal in
    let last = both_true (few && snapshot && entry) (nat_lt (length k.shown + length k.staged) (2 ^ 64 - 1)) room in
    let third = both_true (few && snapshot) entry last.0 in
    let first = both_true few snapshot third.0 in
    record {
      judged = subst (λ (rs : List Record). verdict (record { apex = z.setting.shape.apex; records = rs }) made.update.answers made.update.authorities ≡ Leaves made.records) (newest_is z) j;
      few = true_le (length made.records) 65536 first.0;
      snapshot = true_le (snapshot_sectors (octets_of made.records)) k.shape.snapshot first.1;
      entry = subst (λ (rs : List Record). entry_between rs made.records ≤ k.shape.journal) (newest_is z) (true_le (entry_between (newest_of k) made.records) k.shape.journal third.1);
      numbered = subst (λ (n : ℕ). n < 2 ^ 64 - 1) (number_is z) (true_lt (length k.shown + length k.staged) (2 ^ 64 - 1) last.1);
    }

-- One version more, of which C holds.
abbrev pub HasOneMore : (Shape → ℕ → List Record → Made → Type 0) → ZoneState → ZoneState → Type 0
HasOneMore C z w =
    (made : Made) × (updates_of w ≡ updates_of z ++ made ∷ [])
    × C w.setting.shape (length (updates_of z)) (newest_after z.loaded (versions_of (updates_of z))) made

-- Some of those that were staged are lost, and none is staged.
abbrev pub HasFewer : ZoneState → ZoneState → Type 0
HasFewer z w = (lost : List Made) × (updates_of z ≡ updates_of w ++ lost) × (updates_of w ≡ w.shown)

-- What was shown stays; and the versions stay, or there is one more, or fewer.
pub record IsMoved (C : Shape → ℕ → List Record → Made → Type 0) (z w : ZoneState) : Type 0 where
  pub lasts : Lasts z w
  pub updates : (updates_of w ≡ updates_of z) ⊎ (HasOneMore C z w ⊎ HasFewer z w)

module _ (C : Shape → ℕ → List Record → Made → Type 0) where
  pub moved_itself : (z : ZoneState) → IsMoved C z z
  moved_itself z = record { lasts = lasts_same z; updates = inl refl }

  moved_still : (z w : ZoneState) → IsStill z w → IsMoved C z w
  moved_still z w s = record { lasts = s.lasts; updates = inl s.same.updates }

  moved_after : (a b c : ZoneState) → IsStill a b → IsMoved C b c → IsMoved C a c
  moved_after a b c s m = record { lasts = lasts_on a b c s.lasts m.lasts; updates = at m.updates }
    where
      one : HasOneMore C b c → HasOneMore C a c
      one (made, is, holds) = (
        made,
        is ∙ ap (λ (us : List Made). us ++ made ∷ []) s.same.updates,
        subst (λ (us : List Made). C c.setting.shape (length us) (newest_after a.loaded (versions_of us)) made) s.same.updates
            (subst (λ (rs : List Record). C c.setting.shape (length (updates_of b)) (newest_after rs (versions_of (updates_of b))) made) s.same.loaded holds),
      )

      at : (updates_of c ≡ updates_of b) ⊎ (HasOneMore C b c ⊎ HasFewer b c) → (updates_of c ≡ updates_of a) ⊎ (HasOneMore C a c ⊎ HasFewer a c)
      at (inl e) = inl (e ∙ s.same.updates)
      at (inr (inl m)) = inr (inl (one m))
      at (inr (inr (lost, is, shown))) = inr (inr (lost, sym s.same.updates ∙ is, shown))

  still_held : (old new : Machine) (sent : List Sent) → IsHeld IsStill old new sent → IsHeld (IsMoved C) old new sent
  still_held old new sent h = record { zones = pair_map IsStill (IsMoved C) moved_still old.zones new.zones h.zones; placed = h.placed; good = h.good }

  stays : (m : Machine) → Placed m → IsHeld (IsMoved C) m m []
  stays m p = still_held m m [] (still_stays m p)

  and_then : (old mid new : Machine) (first second : List Sent) → IsHeld IsStill old mid first → IsHeld (IsMoved C) mid new second → IsHeld (IsMoved C) old new (first ++ second)
  and_then old mid new first second p q = record {
    zones = pair_then IsStill (IsMoved C) (IsMoved C) moved_after old.zones mid.zones new.zones p.zones q.zones;
    placed = q.placed;
    good = all_with (IsTrueIn new.zones) first second
        (all_true_over mid.zones new.zones (pair_map (IsMoved C) Lasts (λ a b x. x.lasts) mid.zones new.zones q.zones) first p.good) q.good;
  }

  with_reply : (old new : Machine) (sent : List Sent) (target : To) (octets : List ℕ) → IsHeld (IsMoved C) old new sent → IsHeld (IsMoved C) old new (sent ++ Replied target octets ∷ [])
  with_reply old new sent target octets p = record { zones = p.zones; placed = p.placed; good = all_with (IsTrueIn new.zones) sent (Replied target octets ∷ []) p.good (tt, tt) }

  -- a reply that waits
  wait_held : (m : Machine) (a : Asked) (index rcode : ℕ) (z : ZoneState) → Placed m → slice_get m.zones index ≡ Some z
      → IsHeld (IsMoved C) m (waits m a index rcode (newest_serial z) (updates_of z)) []
  wait_held m a index rcode z s e = record {
    zones = pair_same (IsMoved C) moved_itself m.zones;
    placed = all_more (IsPlaced m.zones) m.waiting _ s (record { zone = z; stands = e; more = []; updates = sym (append-nil (updates_of z)) });
    good = tt;
  }

  -- an update that is staged
  stage_held : (m : Machine) (a : Asked) (index : ℕ) (z : ZoneState) (records : List Record) → Placed m → slice_get m.zones index ≡ Some z
      → C z.setting.shape (length (updates_of z)) (newest_after z.loaded (versions_of (updates_of z))) (record { update = a.message; records = records })
      → IsHeld (IsMoved C) m (stages m a index z records) []
  stage_held m a index z records s e holds =
      let made : Made = record { update = a.message; records = records } in
      let after : ZoneState = with_staged made z in
      let longer : updates_of after ≡ updates_of z ++ made ∷ [] = sym (append_assoc z.shown z.staged (made ∷ [])) in
      let grown : Each2 Grows m.zones (slice_set m.zones index after) = pair_set Grows grows_itself m.zones index z after e (record { more = made ∷ []; updates = longer }) in
      let last : Lasts z after = record { shape = refl; loaded = refl; more = []; shown = sym (append-nil z.shown) } in
      let moved : IsMoved C z after = record { lasts = last; updates = inr (inl (made, longer, holds)) } in
      record {
        zones = pair_set (IsMoved C) moved_itself m.zones index z after e moved;
        placed = all_more (IsPlaced (slice_set m.zones index after)) m.waiting _ (waiting_over m.zones (slice_set m.zones index after) grown m.waiting s)
            (record { zone = after; stands = set_stands m.zones index z after e; more = []; updates = sym (append-nil (updates_of after)) });
        good = tt;
      }

  -- a connection that closes: the replies that wait keep their positions
  redirected : (number : ℕ) (zones : List ZoneState) (ws : List Waits) → AllByRecursion (IsPlaced zones) ws
      → AllByRecursion (IsPlaced zones) (map (λ (w : Waits). record w { to = without_connection number w.to }) ws)
  redirected number zones [] h = tt
  redirected number zones (w ∷ ws) h =
      (record { zone = (h.0).zone; stands = (h.0).stands; more = (h.0).more; updates = (h.0).updates }, redirected number zones ws h.1)

  close_held : (number : ℕ) (m : Machine) → Placed m → IsHeld (IsMoved C) m (closed number m) []
  close_held number m s = record { zones = pair_same (IsMoved C) moved_itself m.zones; placed = redirected number m.zones m.waiting s; good = tt }

  connect_held : (m : Machine) (number : ℕ) (peer : Peer) → Placed m → IsHeld (IsMoved C) m (connected number peer m) []
  connect_held m number peer s = record { zones = pair_same (IsMoved C) moved_itself m.zones; placed = s; good = tt }

  -- a transfer
  quiet_held : (old new : Machine) (sent : List Sent) → Placed old → IsQuiet old sent new → IsHeld (IsMoved C) old new sent
  quiet_held old new sent s q = record {
    zones = subst (λ (zs : List ZoneState). Each2 (IsMoved C) old.zones zs) (sym q.zones) (pair_same (IsMoved C) moved_itself old.zones);
    placed = subst (λ (zs : List ZoneState). AllByRecursion (IsPlaced zs) new.waiting) (sym q.zones) (subst (λ (ws : List Waits). AllByRecursion (IsPlaced old.zones) ws) (sym q.waiting) s);
    good = replies_all (IsTrueIn new.zones) (λ target octets. tt) sent q.replies;
  }

  -- memory that is refused
  failure_true : (zones : List ZoneState) (target : To) (octets : List ℕ) → AllByRecursion (IsTrueIn zones) (failure target octets)
  failure_true zones target octets =
      tested (AllByRecursion (IsTrueIn zones)) (is_asking octets) (Replied target (text (bare_reply (header_of octets) rcode_servfail)) ∷ []) [] (λ _. (tt, tt)) (λ _. tt)

  failure_on_true : (zones : List ZoneState) (number : ℕ) (peer : Option Peer) (octets : List ℕ) → AllByRecursion (IsTrueIn zones) (failure_on number peer octets)
  failure_on_true zones number None octets = tt
  failure_on_true zones number (Some peer) octets = failure_true zones (to.Connection number) octets

  failures_true : (zones : List ZoneState) (m : Machine) (event : Event) → AllByRecursion (IsTrueIn zones) (failures m event)
  failures_true zones m (Datagram peer octets) = failure_true zones (to.Address peer) octets
  failures_true zones m (Arrives number octets) = failure_on_true zones number (peer_at number m.connections) octets
  failures_true zones m (Connect peer) = tt
  failures_true zones m Flush = tt
  failures_true zones m (Checkpoint index) = tt
  failures_true zones m (Pump number) = tt
  failures_true zones m (Closed number) = tt

  with_failures : (old new : Machine) (sent : List Sent) (event : Event) → IsHeld (IsMoved C) old new sent → IsHeld (IsMoved C) old new (sent ++ failures old event)
  with_failures old new sent event p = record {
    zones = p.zones;
    placed = p.placed;
    good = all_with (IsTrueIn new.zones) sent (failures old event) p.good (failures_true new.zones old event);
  }

  -- ---- an event, whose accepted updates C holds of
  module _ (old : Machine) (event : Event)
      (fits : (w : ZoneState) (number : ℕ) (before : List Record) (made : Made) → IsAccepted w.setting.shape number before made → Brings old event w made.update → C w.setting.shape number before made) where
    -- the update of the event
    record IsBrought (a : Asked) : Type 0 where
      peer : Peer
      transport : Transport
      octets : List ℕ
      came : Carries old event peer transport octets
      asks : handled (shown_zones old) octets transport ≡ Update a.message a.zone
      from : a.address ≡ peer.address

    brings : (a : Asked) → IsBrought a → (m : Machine) → Each2 IsStill old.zones m.zones → (index : ℕ) (z : ZoneState) → IsAllowed m.zones a index z → Brings old event z a.message
    brings a b m still index z h =
        let before = pair_found_before IsStill old.zones m.zones index z still h.stands in
        let same : z.setting ≡ (before.zone).setting = before.holds.same.setting in
        record {
          peer = b.peer;
          transport = b.transport;
          octets = b.octets;
          came = b.came;
          question = a.zone;
          asks = b.asks;
          index = index;
          zone = before.zone;
          there = before.there;
          shape = ap (λ (s : Setting). s.shape) (sym same);
          named = subst (λ (s : Setting). names_eq s.shape.apex a.zone.name ≡ true) same h.named;
          allowed = subst (λ (s : Setting). s.may_update (b.peer).address ≡ true) same (subst (λ x. z.setting.may_update x ≡ true) b.from h.allowed);
        }

    abbrev Held : Machine → Machine × List Sent → Type 0
    Held m p = IsHeld (IsMoved C) m p.0 p.1

    module _ (a : Asked) (b : IsBrought a) (m : Machine) (still : Each2 IsStill old.zones m.zones) (s : Placed m) where
      accepted_held : (index : ℕ) (z : ZoneState) (records : List Record) → IsAllowed m.zones a index z
          → verdict (newest_zone (kept_of z)) a.message.answers a.message.authorities ≡ Leaves records → Held m (accepted_in m a index z records)
      accepted_held index z records h j =
          let made : Made = record { update = a.message; records = records } in
          tested (Held m) (has_room (kept_of z) records) (stages m a index z records, []) (waits m a index rcode_servfail (newest_serial z) (updates_of z), [])
          (λ room. stage_held m a index z records s h.stands (fits z (length (updates_of z)) (newest_after z.loaded (versions_of (updates_of z))) made (accepted_on z made j room) (brings a b m still index z h)))
          (λ _. wait_held m a index rcode_servfail z s h.stands)

      judged_held : (index : ℕ) (z : ZoneState) (v : Verdict) → IsAllowed m.zones a index z → verdict (newest_zone (kept_of z)) a.message.answers a.message.authorities ≡ v
          → Held m (judged_in m a index z v)
      judged_held index z (Refuses rcode) h j = wait_held m a index (number_of_rcode rcode) z s h.stands
      judged_held index z Keeps h j = wait_held m a index 0 z s h.stands
      judged_held index z (Leaves records) h j = accepted_held index z records h j

      admitted_held : (d : Admission) → AllowedIn m.zones a d → Held m (admitted m a d)
      admitted_held (Rejects rcode) h = with_reply m m [] a.to (text (bare_reply a.message.header rcode)) (stays m s)
      admitted_held (Admits index z) h = judged_held index z (verdict (newest_zone (kept_of z)) a.message.answers a.message.authorities) h refl

    update_held : (fails : List Bool) (a : Asked) (effects : Effects) (new : Machine) → IsBrought a → Placed old → IsUpdated fails old a effects new → IsHeld (IsMoved C) old new effects.sent
    update_held fails a effects new b s u =
        let ended = answer u.mid a in
        let p = begun_held fails old (room_lacked old a) u.first u.mid s u.begun in
        reaches (IsMoved C) old new ended.0 effects.sent ((u.first).sent ++ ended.1) u.state u.sent
        (and_then old u.mid ended.0 (u.first).sent ended.1 p (admitted_held a b u.mid p.zones p.placed (admission (u.mid).zones a) (admission_allowed (u.mid).zones a)))

    served_held : (fails : List Bool) (target : To) (peer : Peer) (transport : Transport) (octets : List ℕ) (h : Handled) (effects : Effects) (new : Machine)
        → Carries old event peer transport octets → handled (shown_zones old) octets transport ≡ h → Placed old → IsRequestHandled fails old target peer h effects new
        → IsHeld (IsMoved C) old new effects.sent
    served_held fails target peer transport octets NoReply effects new c e s g = given (IsMoved C) old effects new old [] [] g.1 (stays old s)
    served_held fails target peer transport octets (Replies reply) effects new c e s g = given (IsMoved C) old effects new old _ [] g.1 (with_reply old old [] target reply (stays old s))
    served_held fails target peer transport octets (Update message question) effects new c e s g =
        update_held fails (record { to = target; address = peer.address; message = message; zone = question }) effects new
        (record { peer = peer; transport = transport; octets = octets; came = c; asks = e; from = refl }) s g
    served_held fails target peer transport octets (Transfer asked message question) effects new c e s g =
        quiet_held old new effects.sent s (transferred_quiet old target peer asked message question effects.sent new g.1)

  arrived_held : (old : Machine) (number : ℕ) (octets : List ℕ)
      (fits : (w : ZoneState) (n : ℕ) (before : List Record) (made : Made) → IsAccepted w.setting.shape n before made → Brings old (Arrives number octets) w made.update → C w.setting.shape n before made)
      (fails : List Bool) (o : Option Peer) (effects : Effects) (new : Machine) → peer_at number old.connections ≡ o → Placed old → IsArrived fails old number o octets effects new
      → IsHeld (IsMoved C) old new effects.sent
  arrived_held old number octets fits fails None effects new e s g = given (IsMoved C) old effects new old [] [] g.1 (stays old s)
  arrived_held old number octets fits fails (Some peer) effects new e s g =
      served_held old (Arrives number octets) fits fails (to.Connection number) peer Tcp octets _ effects new (e, refl, refl) refl s g

  checkpointed_held : (fails : List Bool) (old : Machine) (index : ℕ) (o : Option ZoneState) (effects : Effects) (new : Machine) → Placed old → IsCheckpointed fails old index o effects new
      → IsHeld (IsMoved C) old new effects.sent
  checkpointed_held fails old index None effects new s g = given (IsMoved C) old effects new old [] [] g.1 (stays old s)
  checkpointed_held fails old index (Some z) effects new s g = still_held old new effects.sent (begun_held fails old (Some (index, 0)) effects new s g)

  event_held : (fails : List Bool) (old : Machine) (event : Event) (effects : Effects) (new : Machine)
      → ((w : ZoneState) (n : ℕ) (before : List Record) (made : Made) → IsAccepted w.setting.shape n before made → Brings old event w made.update → C w.setting.shape n before made)
      → Placed old → Goes fails old event effects new → IsHeld (IsMoved C) old new effects.sent
  event_held fails old (Datagram peer octets) effects new fits s g = served_held old (Datagram peer octets) fits fails (to.Address peer) peer Udp octets _ effects new (refl, refl, refl) refl s g
  event_held fails old (Connect peer) effects new fits s g = elim (g.1) [
    | inl c ↦ reaches (IsMoved C) old new (connected c.number peer old) effects.sent [] c.state (ap (λ (x : Effects). x.sent) c.reported) (connect_held old c.number peer s)
    | inr c ↦ given (IsMoved C) old effects new old [] [] c.1 (stays old s)
  ]
  event_held fails old (Arrives number octets) effects new fits s g = arrived_held old number octets fits fails (peer_at number old.connections) effects new refl s g
  event_held fails old Flush effects new fits s g =
      still_held old new effects.sent (given IsStill old effects new (flushed fails old) (flush_sends fails old) fails g.1 (flush_held fails old g.0 s))
  event_held fails old (Checkpoint index) effects new fits s g = checkpointed_held fails old index (slice_get old.zones index) effects new s g
  event_held fails old (Pump number) effects new fits s g = quiet_held old new effects.sent s (pumped_quiet old number (sending_at number old.connections) effects.sent new g.1)
  event_held fails old (Closed number) effects new fits s g = given (IsMoved C) old effects new (closed number old) [] [] g.1 (close_held number old s)

  lacks_held : (fails : List Bool) (old : Machine) (event : Event) (effects : Effects) (new : Machine) → Placed old → Lacks fails old event effects new → IsHeld (IsMoved C) old new effects.sent
  lacks_held fails old event effects new s l = elim (l.stays) [
    | inl c ↦ reaches (IsMoved C) old new old effects.sent (failures old event) c.1 c.2 (with_failures old old [] event (stays old s))
    | inr r ↦ elim r [
      | inl c ↦ reaches (IsMoved C) old new (flushed fails old) effects.sent (flush_sends fails old ++ failures old event) c.2 c.3
          (with_failures old (flushed fails old) (flush_sends fails old) event (still_held old (flushed fails old) (flush_sends fails old) (flush_held fails old c.1 s)))
      | inr c ↦ reaches (IsMoved C) old new new effects.sent ((c.1).sent ++ failures old event) refl c.4
          (with_failures old new (c.1).sent event (still_held old new (c.1).sent (begun_held fails old (Some c.0) c.1 new s c.3)))
    ]
  ]

  pub step_held : (fails : List Bool) (old : Machine) (event : Event) (effects : Effects) (new : Machine)
      → ((w : ZoneState) (n : ℕ) (before : List Record) (made : Made) → IsAccepted w.setting.shape n before made → Brings old event w made.update → C w.setting.shape n before made)
      → Placed old → Step fails old event effects new → IsHeld (IsMoved C) old new effects.sent
  step_held fails old event effects new fits s (inl g) = event_held fails old event effects new fits s g
  step_held fails old event effects new fits s (inr l) = lacks_held fails old event effects new s l
