-- What every step of the machine keeps.
use Rattle.std.proofs.Common.{◌≡◌, ◌+◌, ◌<◌, ◌≤◌, ◌^◌, ℕ, zero, suc, Bool, true, inl, inr, List, [], ◌∷◌, ◌++◌, length, map, Some, refl, sym, ap, subst, ◌∙◌, arith, append_assoc, append-nil}
use Rattle.std.specs.Prelude.{◌-◌, ◌&&◌, nat_le, nat_lt, slice_get, slice_set, if◌then◌else◌}
use Rattle.std.specs.List.{AllByRecursion}
use Rattle.dns_records.specs.Record.{Record}
use Rattle.dns_layout.specs.Sector.{snapshot_sectors}
use Rattle.dns_wire.proofs.Binds.{true_le, true_lt}
use Rattle.dns_request.specs.Codes.{rcode_servfail}
use Rattle.dns_zone.specs.Order.{both_true}
use Rattle.dns_update.specs.Verdict.{Leaves, verdict}
use Rattle.dns_store.specs.Versions.{newest_after, newest_of}
use Rattle.dns_store.specs.Plain.{octets_of}
use Rattle.dns_store.specs.Room.{entry_between}
use Rattle.dns_versions.specs.Each.{Each2}
use Rattle.dns_versions.specs.Held.{newest_zone}
use Rattle.dns_versions.specs.Staging.{has_room}
use Rattle.dns_primary.specs.declared.event.To.{To}
use Rattle.dns_primary.specs.Machine.{ZoneState, Made, Waits, Machine, kept_of, updates_of, versions_of}
use Rattle.dns_primary.specs.Flush.{Sent, Answered, Replied, flushed_zones, flushed, flush_sends, released, is_closed_in}
use Rattle.dns_primary.specs.Update.{Asked, newest_serial, waits, stages, with_staged}
use Rattle.dns_primary.specs.Runs.{Lasts, AllLast, IsDurable, IsTrueIn, IsAccepted, HasHistory, IsHistory}
use Rattle.dns_primary.proofs.Zonewise.{pair_found, pair_set, pair_over, all_found, all_set, lasts_same, all_last_same, all_last_on, same_history, IsFlushed, zone_flushed, history_more, newest_is, number_is, pair_map}

-- the updates of a waiting reply are the first of its zone's
pub record IsPlaced (zones : List ZoneState) (w : Waits) : Type 0 where
  pub zone : ZoneState
  pub stands : slice_get zones w.zone ≡ Some zone
  pub more : List Made
  pub updates : updates_of zone ≡ w.updates ++ more

pub record IsSound (m : Machine) : Type 0 where
  pub zones : AllByRecursion HasHistory m.zones
  pub waiting : AllByRecursion (IsPlaced m.zones) m.waiting

-- what a step keeps: what was shown, the invariant, and the truth of what goes out
pub record Preserves (old new : Machine) (sent : List Sent) : Type 0 where
  pub lasts : AllLast old.zones new.zones
  pub sound : IsSound new
  pub good : AllByRecursion (IsTrueIn new.zones) sent

-- more updates after those of before
pub record Grows (z w : ZoneState) : Type 0 where
  pub more : List Made
  pub updates : updates_of w ≡ updates_of z ++ more

pub grows_itself : (z : ZoneState) → Grows z z
grows_itself z = record { more = []; updates = sym (append-nil (updates_of z)) }

pub placed_over : (old new : List ZoneState) → Each2 Grows old new → (w : Waits) → IsPlaced old w → IsPlaced new w
placed_over old new h w p =
    let found = pair_found Grows old new w.zone p.zone h p.stands in
    record {
      zone = found.zone;
      stands = found.stands;
      more = p.more ++ found.holds.more;
      updates = found.holds.updates ∙ ap (λ (xs : List Made). xs ++ found.holds.more) p.updates ∙ append_assoc w.updates p.more found.holds.more;
    }

pub waiting_over : (old new : List ZoneState) → Each2 Grows old new → (ws : List Waits) → AllByRecursion (IsPlaced old) ws → AllByRecursion (IsPlaced new) ws
waiting_over old new h [] p = tt
waiting_over old new h (w ∷ ws) p = (placed_over old new h w p.0, waiting_over old new h ws p.1)

pub all_more : {X : Type 0} (P : X → Type 0) (xs : List X) (x : X) → AllByRecursion P xs → P x → AllByRecursion P (xs ++ x ∷ [])
all_more P [] x h p = (p, tt)
all_more P (y ∷ xs) x h p = (h.0, all_more P xs x h.1 p)

-- what was durable stays durable
durable_over : (old new : List ZoneState) → AllLast old new → (w : Waits) → IsDurable old w → IsDurable new w
durable_over old new h w k =
    let found = pair_found Lasts old new w.zone k.zone h k.stands in
    record {
      zone = found.zone;
      stands = found.stands;
      more = k.more ++ found.holds.more;
      shown = found.holds.shown ∙ ap (λ (xs : List Made). xs ++ found.holds.more) k.shown ∙ append_assoc w.updates k.more found.holds.more;
    }

true_over : (old new : List ZoneState) → AllLast old new → (one : Sent) → IsTrueIn old one → IsTrueIn new one
true_over old new h (Answered w rcode) g = λ e. durable_over old new h w (g e)
true_over old new h (Replied to octets) g = g

pub all_true_over : (old new : List ZoneState) → AllLast old new → (sent : List Sent) → AllByRecursion (IsTrueIn old) sent → AllByRecursion (IsTrueIn new) sent
all_true_over old new h [] g = tt
all_true_over old new h (one ∷ sent) g = (true_over old new h one g.0, all_true_over old new h sent g.1)

pub all_with : {X : Type 0} (P : X → Type 0) (xs ys : List X) → AllByRecursion P xs → AllByRecursion P ys → AllByRecursion P (xs ++ ys)
all_with P [] ys g h = h
all_with P (x ∷ xs) ys g h = (g.0, all_with P xs ys g.1 h)

pub stays : (m : Machine) → IsSound m → Preserves m m []
stays m s = record { lasts = all_last_same m.zones; sound = s; good = tt }

pub and_then : (old mid new : Machine) (first second : List Sent) → Preserves old mid first → Preserves mid new second → Preserves old new (first ++ second)
and_then old mid new first second p q = record {
  lasts = all_last_on old.zones mid.zones new.zones p.lasts q.lasts;
  sound = q.sound;
  good = all_with (IsTrueIn new.zones) first second (all_true_over mid.zones new.zones q.lasts first p.good) q.good;
}

pub with_reply : (old new : Machine) (sent : List Sent) (to : To) (octets : List ℕ) → Preserves old new sent → Preserves old new (sent ++ Replied to octets ∷ [])
with_reply old new sent to octets p = record { lasts = p.lasts; sound = p.sound; good = all_with (IsTrueIn new.zones) sent (Replied to octets ∷ []) p.good (tt, tt) }

-- a flush
kept_by : (zones : List ZoneState) (w : Waits) (z v : ZoneState) (more : List Made) → slice_get zones w.zone ≡ Some v → IsFlushed z v → updates_of z ≡ w.updates ++ more
    → (if is_closed_in (slice_get zones w.zone) then rcode_servfail else w.rcode) ≡ 0 → IsDurable zones w
kept_by zones w z v more e f u r = elim (f.whole) [
  | inl c ↦ (let shut : is_closed_in (slice_get zones w.zone) ≡ true = ap is_closed_in e ∙ c in
      let is : rcode_servfail ≡ 0 = subst (λ (b : Bool). (if b then rcode_servfail else w.rcode) ≡ 0) shut r in
      absurd (omega (arith, is)))
  | inr s ↦ record { zone = v; stands = e; more = more; shown = s ∙ u }
]

pub all_flushed : (fails : List Bool) (zones : List ZoneState) → length fails ≡ length zones → Each2 IsFlushed zones (flushed_zones fails zones)
all_flushed [] [] e = tt
all_flushed [] (z ∷ zones) e = absurd (omega (arith, e))
all_flushed (f ∷ fails) [] e = absurd (omega (arith, e))
all_flushed (f ∷ fails) (z ∷ zones) e = (zone_flushed f z, all_flushed fails zones (omega (arith, e)))

pub all_released : (zones after : List ZoneState) (ws : List Waits) → Each2 IsFlushed zones after → AllByRecursion (IsPlaced zones) ws → AllByRecursion (IsTrueIn after) (map (released after) ws)
all_released zones after [] each p = tt
all_released zones after (w ∷ ws) each p =
    let found = pair_found IsFlushed zones after w.zone (p.0).zone each (p.0).stands in
    (λ r. kept_by after w (p.0).zone found.zone (p.0).more found.stands found.holds (p.0).updates r, all_released zones after ws each p.1)

pub flush_preserves : (fails : List Bool) (m : Machine) → length fails ≡ length m.zones → IsSound m → Preserves m (flushed fails m) (flush_sends fails m)
flush_preserves fails m long s =
    let each = all_flushed fails m.zones long in
    record {
      lasts = pair_map IsFlushed Lasts (λ a b f. f.lasts) m.zones (flushed_zones fails m.zones) each;
      sound = record {
        zones = pair_over IsFlushed HasHistory (λ z w f h. same_history z w f.same h) m.zones (flushed_zones fails m.zones) each s.zones;
        waiting = tt;
      };
      good = all_released m.zones (flushed_zones fails m.zones) m.waiting each s.waiting;
    }

-- a reply that waits
pub wait_preserves : (m : Machine) (a : Asked) (index rcode : ℕ) (z : ZoneState) → IsSound m → slice_get m.zones index ≡ Some z → Preserves m (waits m a index rcode (newest_serial z) (updates_of z)) []
wait_preserves m a index rcode z s e = record {
  lasts = all_last_same m.zones;
  sound = record {
    zones = s.zones;
    waiting = all_more (IsPlaced m.zones) m.waiting _ s.waiting (record { zone = z; stands = e; more = []; updates = sym (append-nil (updates_of z)) });
  };
  good = tt;
}

pub set_stands : (zones : List ZoneState) (index : ℕ) (z w : ZoneState) → slice_get zones index ≡ Some z → slice_get (slice_set zones index w) index ≡ Some w
set_stands [] index z w e = absurd cc
set_stands (a ∷ zones) zero z w e = refl
set_stands (a ∷ zones) (suc index) z w e = set_stands zones index z w e

-- an update with room is accepted on the newest version
accepted_on : (z : ZoneState) (made : Made) → verdict (newest_zone (kept_of z)) made.update.answers made.update.authorities ≡ Leaves made.records → has_room (kept_of z) made.records ≡ true
    → IsAccepted z.setting.shape (0 + length (updates_of z)) (newest_after z.loaded (versions_of (updates_of z))) made
accepted_on z made j room =
    let k = kept_of z in
    let few = nat_le (length made.records) 65536 in
    let snapshot = nat_le (snapshot_sectors (octets_of made.records)) k.shape.snapshot in
    let entry = nat_le (entry_between (newest_of k) made.records) k.shape.journal in
    let last = both_true (few && snapshot && entry) (nat_lt (length k.shown + length k.staged) (2 ^ 64 - 1)) room in
    let third = both_true (few && snapshot) entry last.0 in
    let first = both_true few snapshot third.0 in
    let counted : length (updates_of z) ≡ 0 + length (updates_of z) = omega arith in
    record {
      judged = subst (λ (rs : List Record). verdict (record { apex = z.setting.shape.apex; records = rs }) made.update.answers made.update.authorities ≡ Leaves made.records) (newest_is z) j;
      few = true_le (length made.records) 65536 first.0;
      snapshot = true_le (snapshot_sectors (octets_of made.records)) k.shape.snapshot first.1;
      entry = subst (λ (rs : List Record). entry_between rs made.records ≤ k.shape.journal) (newest_is z) (true_le (entry_between (newest_of k) made.records) k.shape.journal third.1);
      numbered = subst (λ (n : ℕ). n < 2 ^ 64 - 1) (number_is z ∙ counted) (true_lt (length k.shown + length k.staged) (2 ^ 64 - 1) last.1);
    }

-- an update that is staged
pub stage_preserves : (m : Machine) (a : Asked) (index : ℕ) (z : ZoneState) (records : List Record) → IsSound m → slice_get m.zones index ≡ Some z
    → verdict (newest_zone (kept_of z)) a.message.answers a.message.authorities ≡ Leaves records → has_room (kept_of z) records ≡ true
    → Preserves m (stages m a index z records) []
stage_preserves m a index z records s e j room =
    let made : Made = record { update = a.message; records = records } in
    let after : ZoneState = with_staged made z in
    let longer : updates_of after ≡ updates_of z ++ made ∷ [] = sym (append_assoc z.shown z.staged (made ∷ [])) in
    let grown : Each2 Grows m.zones (slice_set m.zones index after) = pair_set Grows grows_itself m.zones index z after e (record { more = made ∷ []; updates = longer }) in
    let history = history_more z.setting.shape 0 z.loaded (updates_of z) made (all_found HasHistory m.zones index z s.zones e) (accepted_on z made j room) in
    record {
      lasts = pair_set Lasts lasts_same m.zones index z after e (record { shape = refl; loaded = refl; more = []; shown = sym (append-nil z.shown) });
      sound = record {
        zones = all_set HasHistory m.zones index after s.zones (subst (λ (us : List Made). IsHistory z.setting.shape 0 z.loaded us) (sym longer) history);
        waiting = all_more (IsPlaced (slice_set m.zones index after)) m.waiting _ (waiting_over m.zones (slice_set m.zones index after) grown m.waiting s.waiting)
            (record { zone = after; stands = set_stands m.zones index z after e; more = []; updates = sym (append-nil (updates_of after)) });
      };
      good = tt;
    }
