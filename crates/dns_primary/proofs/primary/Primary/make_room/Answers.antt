use Rattle.std.proofs.Common.{◌≡◌, ℕ, ◌<◌, List, length, map, sym, ap, subst, ◌∙◌, arith}
use Rattle.std.specs.Prelude.{slice_set, slice_index_or, IsTrue, ◌↔◌}
use Rattle.std.proofs.lemmas.List.{length-map}
use Rattle.dns_zone.specs.Zone.{Zone}
use Rattle.dns_policy.specs.Prefix.{IsAllowed}
use Rattle.dns_sectors.specs.Device.{LeavesOnly}
use Rattle.dns_store.specs.Versions.{Kept, OpensAsLeft}
use Rattle.dns_store.specs.Checkpoint.{IsKeptNumber}
use Rattle.dns_versions.specs.declared.zone_versions.ZoneVersions.{ZoneVersions}
use Rattle.dns_versions.specs.Each.{Each2, Each3}
use Rattle.dns_versions.proofs.Lists.{newest_kept, set2}
use Rattle.dns_versions.specs.Flush.{IsCounted, first_true}
use Rattle.dns_versions.specs.Held.{HasVersions, shown_zone}
use Rattle.dns_primary.specs.declared.event.Noted.{Noted}
use Rattle.dns_primary.specs.declared.primary.ZoneSpec.{ZoneSpec}
use Rattle.dns_primary.specs.Machine.{Setting, Machine, kept_of}
use Rattle.dns_primary.specs.Flush.{Sent, all_out, answered_of, flushed, flushed_zone}
use Rattle.dns_primary.specs.Step.{noted_of}
use Rattle.dns_primary.specs.Checkpoint.{either_fails}
use Rattle.dns_primary.specs.Keeps.{IsKept, IsSet, IsWaiting}
use Rattle.dns_primary.specs.Steps.{noted_moved}
use Rattle.dns_primary.proofs.Admitted.{get2}
use Rattle.dns_primary.proofs.Flushed.{setting_stays}
use Rattle.dns_primary.proofs.Places.{at3, some_at, map_get, map_set, mid_set, right_set, long3_first}
use Rattle.dns_primary.proofs.Moved.{zone_at, zone_settled, moved_by, moved_result, still_result, device_of, setting_of, moved_moments, failed_either, move_at, got, stepped, next, stated}
use Rattle.dns_primary.proofs.primary.Primary.make_room.Goals as goal

pub index-requires : goal.index-requires
index-requires g c =
    let q = c.flush-effects.new.self in
    omega (arith, c.requires.inside, c.flush-effects.ensures.as_many, q.settled, q.as_many, q.settings.ok)

pub index_mut-versions-requires : goal.index_mut-versions-requires
index_mut-versions-requires g c =
    let q = c.flush-effects.new.self in
    omega (arith, c.requires.inside, c.flush-effects.ensures.as_many, q.pending.ok)

pub returns-clause-step : goal.returns-clause-step
returns-clause-step g c old kept =
    let keeps = g.S.ZoneStore.keeps in
    let R = λ (z : Zone) (b : ZoneVersions g.row.I.Denot g.row.S.Denot) (k : Kept). HasVersions keeps z b k in
    let p = c.args.self.now in
    let q = c.flush-effects.new.self in
    let index = c.args.index in
    let long = long3_first R p.zones.items p.pending.items (map kept_of old.zones) kept.zones_are in
    let many = length-map old.zones kept_of in
    let s = c.flush-effects.ensures.step old kept in
    let fails = s.fails in
    let zones = (flushed fails old).zones in
    let z = some_at old.zones index (omega (arith, long, many, c.requires.inside, p.as_many)) in
    let at = zone_at fails old.zones index z.0 (s.is).0 z.1 in
    let zf = flushed_zone at.0 z.0 in
    let mid : IsKept q (flushed fails old) = subst (λ (x : Machine). IsKept q x) ((s.is).1).state s.kept in
    let inside : index < length q.pending.items = omega (arith, c.requires.inside, c.flush-effects.ensures.as_many) in
    let d = shown_zone (kept_of zf) in
    let b = c.index_mut-versions.result.now in
    let new : ZoneVersions g.row.I.Denot g.row.S.Denot = record b { store = c.checkpoint-moved.new.self } in
    let e = c.checkpoint-moved.ensures in
    let held : HasVersions keeps (slice_index_or q.zones.items index d) b (kept_of zf) =
    subst (λ (x : ZoneVersions g.row.I.Denot g.row.S.Denot). HasVersions keeps (slice_index_or q.zones.items index d) x (kept_of zf)) (sym c.index_mut-versions.ensures.value)
    (at3 R q.zones.items q.pending.items (map kept_of zones) index d b (kept_of zf) mid.zones_are (map_get kept_of zones index zf at.1)) in
    let set : IsSet c.index.result.now zf = subst (λ (x : ZoneSpec). IsSet x zf) (sym c.index.ensures) (get2 IsSet q.settings.items zones index c.index.result.now zf mid.settings_are at.1) in
    let r = c.checkpoint-moved.result in
    let moved = moved_result keeps (slice_index_or q.zones.items index d) b c.checkpoint-moved.new.self zf c.index.result.now.keep c.args.room set.keep (zone_settled at.0 z.0) held r (e.closed (kept_of zf) held.kept) (λ n none is. e.moved (kept_of zf) n held.kept none is) (λ n none is. e.device (kept_of zf) n held.kept none is) (e.stays (kept_of zf) held.kept) in
    let setting : (moved.0).setting ≡ zf.setting = setting_of c.args.room zf moved.0 r moved.1 in
    let sound = subst (λ (x : ZoneVersions g.row.I.Denot g.row.S.Denot). g.S.ZoneStore.is_honest x.store) (sym c.index_mut-versions.ensures.value) in
    let back = subst (λ (x : ZoneVersions g.row.I.Denot g.row.S.Denot). g.S.ZoneStore.is_honest x.store) c.index_mut-versions.ensures.value in
    record {
      fails = either_fails (moved_by r) index fails;
      failed = failed_either (λ (x : ZoneVersions g.row.I.Denot g.row.S.Denot). g.S.ZoneStore.failed x.store) (moved_by r) index fails p.pending.items q.pending.items new s.failed (λ a here.
          let first : b ≡ a = c.index_mut-versions.ensures.value ∙ got q.pending.items index a b here in
          subst (λ (x : ZoneVersions g.row.I.Denot g.row.S.Denot). IsCounted (moved_by r) (g.S.ZoneStore.failed x.store) (g.S.ZoneStore.failed new.store)) first
          (record { grows = e.grows; rises = λ is. e.failed (device_of r is) }));
      any_moment = moved_moments (λ (x : ZoneVersions g.row.I.Denot g.row.S.Denot). x.store) g.S.ZoneStore.is_honest g.S.ZoneStore.moment g.S.ZoneStore.left_since g.S.ZoneStore.opens p.pending.items q.pending.items old.zones index c.args.room z.0 b new s.any_moment s.honest z.1
          (λ a true_mid first. move_at g.S.ZoneStore.moment g.S.ZoneStore.left_since g.S.ZoneStore.opens c.args.room z.0 at.0 a.store b.store new.store
          (subst (λ (x : ZoneVersions g.row.I.Denot g.row.S.Denot). LeavesOnly g.S.ZoneStore.moment g.S.ZoneStore.left_since a.store x.store (OpensAsLeft g.S.ZoneStore.opens (kept_of z.0))) (sym c.index_mut-versions.ensures.value) first)
          (λ k n is none number. e.any_moment k n (subst (λ (j : Kept). keeps b.store j) (sym is) held.kept) (sound true_mid) none
          (subst (λ (keep : ℕ). IsKeptNumber k keep c.args.room n) (sym (set.keep ∙ ap (λ (t : Setting). t.keep) (setting_stays at.0 z.0))) number))
          (λ shut. still_result _ _ r ((e.closed (kept_of zf) held.kept).1 shut) e.still)
          (λ k is x left. g.met.S.ZoneStore.at_rest b.store k (subst (λ (j : Kept). keeps b.store j) (sym is) held.kept) (sound true_mid) x left));
      honest = set2 (λ (x y : ZoneVersions g.row.I.Denot g.row.S.Denot). g.S.ZoneStore.is_honest y.store ↔ g.S.ZoneStore.is_honest x.store) p.pending.items q.pending.items index b new inside s.honest
          (λ a so_far. (λ h. so_far.0 (back (e.honest.0 h)), λ h. e.honest.1 (sound (so_far.1 h))));
      next = next old index fails z.0 zf moved.0 (s.is).0 z.1 at.1;
      stated = stated old index fails z.0 zf moved.0 (s.is).0 z.1 at.1 (noted_moved (noted_of (first_true fails)) index r);
      is = stepped old index fails z.0 zf moved.0 (s.is).0 z.1 at.1 c.args.room r moved.1;
      effects_are = record {
        sent = ap all_out (sym ((s.is).1).sent) ∙ (s.effects_are).sent;
        told = subst (λ (sent : List Sent). Each2 (λ h w. IsWaiting h.waited w) c.flush-effects.result.headers.items (answered_of sent)) ((s.is).1).sent (s.effects_are).told;
        accepted = sym ((s.is).1).accepted ∙ (s.effects_are).accepted;
        noted = ap (λ (n : Noted). noted_moved n index r) (sym ((s.is).1).noted ∙ (s.effects_are).noted) ∙ sym c.noted_pending-effects.ensures;
      };
      kept = record {
        zones_are = subst (λ (ks : List Kept). Each3 R q.zones.items (slice_set q.pending.items index new) ks) (sym (map_set kept_of zones index moved.0))
            (mid_set R q.zones.items q.pending.items (map kept_of zones) index d new (kept_of moved.0) mid.zones_are moved.2);
        settings_are = right_set IsSet q.settings.items zones index zf moved.0 mid.settings_are at.1
            (λ x is. record { keep = is.keep ∙ ap (λ (t : Setting). t.keep) (sym setting); update = λ y. subst (λ (t : Setting). IsTrue (t.may_update y) ↔ IsAllowed x.update.items y) (sym setting) (is.update y); transfer = λ y. subst (λ (t : Setting). IsTrue (t.may_transfer y) ↔ IsAllowed x.transfer.items y) (sym setting) (is.transfer y) });
        waiting_are = mid.waiting_are;
        connections_are = mid.connections_are;
        transfers_are = mid.transfers_are;
        as_many = mid.as_many;
      };
    }

pub returns-clause-newest : goal.returns-clause-newest
returns-clause-newest g c =
    let q = c.flush-effects.new.self in
    let b = c.index_mut-versions.result.now in
    newest_kept q.zones.items q.pending.items c.args.index b (record b { store = c.checkpoint-moved.new.self }) (ap (λ (x : ZoneVersions g.row.I.Denot g.row.S.Denot). x.tip) c.index_mut-versions.ensures.value)
    ∙ c.flush-effects.ensures.newest
