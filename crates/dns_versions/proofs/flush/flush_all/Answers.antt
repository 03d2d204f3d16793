use Rattle.std.proofs.Common.{rules, ◌≡◌, ◌<◌, List, [], ◌∷◌, ◌++◌, length, refl, sym, subst, ap, ◌∙◌, arith, length-append}
use Rattle.std.specs.Prelude.{◌↔◌, Some, slice_get, slice_set, slice_index_or}
use Rattle.dns_sectors.specs.Device.{LeavesOnly}
use Rattle.dns_sectors.proofs.Moments.{started, joined}
use Rattle.dns_store.specs.Versions.{Kept, OpensAsLeft}
use Rattle.dns_versions.specs.Each.{Each3}
use Rattle.dns_versions.specs.Held.{HasVersions}
use Rattle.dns_versions.specs.Flush.{kept_after_flush, flushed_to, IsCounted}
use Rattle.dns_versions.proofs.Lists.{get3, set3, mid3, map3, diag, diag2, set2, long3, stands, more, fails_more, untouched, same_at, newest_set}
use Rattle.dns_versions.proofs.flush.flush_all.Goals as goal

pub loop-i-init : goal.loop-i-init
loop-i-init g c = record {
  as_many = c.requires;
  count = refl;
  rest = refl;
  newest = refl;
  held = λ ks each. ([], refl, each, refl, tt);
  moments = λ ks each. diag (λ z b k. HasVersions g.S.ZoneStore.keeps z b k) (λ a b k. g.S.ZoneStore.is_honest a.store → g.S.ZoneStore.is_honest b.store × LeavesOnly g.S.ZoneStore.moment g.S.ZoneStore.left_since a.store b.store (OpensAsLeft g.S.ZoneStore.opens k)) c.args.zones.now c.args.pending.now ks each
      (λ z b k h honest. (honest, started g.S.ZoneStore.moment g.S.ZoneStore.left_since b.store (OpensAsLeft g.S.ZoneStore.opens k) (λ x left. g.met.S.ZoneStore.at_rest b.store k h.kept honest x left)));
  honest = diag2 (λ a b. g.S.ZoneStore.is_honest b.store ↔ g.S.ZoneStore.is_honest a.store) c.args.pending.now (λ a. (λ h. h, λ h. h));
}

pub loop-i-preserved : goal.loop-i-preserved
loop-i-preserved g c =
    let i = c.loop-i.i in
    let zones = c.loop-i.zones in
    let pending = c.loop-i.pending in
    let inside : i < length pending = omega arith in
    record {
      as_many = search rules;
      count = search rules;
      rest = untouched pending c.args.pending.now i c.flush-failed.new.self c.loop-i.invariant.rest;
      newest = newest_set zones pending i c.index-zones-i.result c.index-pending-i.result c.flush-failed.new.zone c.flush-failed.new.self c.flush-failed.ensures.newest ∙ c.loop-i.invariant.newest;
      held = λ ks each.
          let was = c.loop-i.invariant.held ks each in
          let fails = was.0 in
          let failed = c.flush-failed.result in
          let there = get3 (λ z b k. HasVersions g.S.ZoneStore.keeps z b k) zones pending (flushed_to fails ks) i c.index-zones-i.result c.index-pending-i.result was.2 inside in
          let k = there.0 in
          let before : slice_get ks (length fails) ≡ Some k = sym (stands fails ks) ∙ subst (λ n. slice_get (flushed_to fails ks) n ≡ Some k) (sym was.1) there.1 in
          let grown : flushed_to (fails ++ failed ∷ []) ks ≡ slice_set (flushed_to fails ks) i (kept_after_flush failed k) = more fails ks failed k before ∙ ap (λ n. slice_set (flushed_to fails ks) n (kept_after_flush failed k)) was.1 in (
            fails ++ failed ∷ [],
            omega (arith, length-append fails (failed ∷ []), was.1),
            subst (λ (l : List Kept). Each3 (λ z b k. HasVersions g.S.ZoneStore.keeps z b k) (slice_set zones i c.flush-failed.new.zone) (slice_set pending i c.flush-failed.new.self) l) (sym grown)
                (set3 (λ z b k. HasVersions g.S.ZoneStore.keeps z b k) zones pending (flushed_to fails ks) i c.flush-failed.new.zone c.flush-failed.new.self (kept_after_flush failed k) was.2 (c.flush-failed.ensures.held k there.2)),
            c.first_failure-first.ensures fails was.3 (sym was.1),
            fails_more (λ b. g.S.ZoneStore.failed b.store) fails c.args.pending.now pending i failed c.flush-failed.new.self c.index-pending-i.result was.1 was.4 (omega (arith, c.loop-i.invariant.count)) inside
                (subst (λ b. IsCounted failed (g.S.ZoneStore.failed b.store) (g.S.ZoneStore.failed c.flush-failed.new.self.store)) (same_at pending c.args.pending.now i c.index-pending-i.result c.loop-i.invariant.rest) c.flush-failed.ensures.failed),
          );
      moments = λ ks each.
          let was = c.loop-i.invariant.held ks each in
          let fails = was.0 in
          let there = get3 (λ z b k. HasVersions g.S.ZoneStore.keeps z b k) zones pending (flushed_to fails ks) i c.index-zones-i.result c.index-pending-i.result was.2 inside in
          let k = there.0 in
          let before : slice_get ks i ≡ Some k = subst (λ n. slice_get ks n ≡ Some k) was.1 (sym (stands fails ks) ∙ subst (λ n. slice_get (flushed_to fails ks) n ≡ Some k) (sym was.1) there.1) in
          mid3 (λ a b k. g.S.ZoneStore.is_honest a.store → g.S.ZoneStore.is_honest b.store × LeavesOnly g.S.ZoneStore.moment g.S.ZoneStore.left_since a.store b.store (OpensAsLeft g.S.ZoneStore.opens k)) c.args.pending.now pending ks i c.index-pending-i.result c.flush-failed.new.self inside
          (c.loop-i.invariant.moments ks each)
          (λ a x is so_far honest.
          let same : x ≡ k = cc (sym is ∙ before) in
          let sound = (so_far honest).0 in (
            c.flush-failed.ensures.honest.1 sound,
            joined g.S.ZoneStore.moment g.S.ZoneStore.left_since a.store (slice_index_or pending i c.index-pending-i.result).store c.flush-failed.new.self.store (OpensAsLeft g.S.ZoneStore.opens x) (OpensAsLeft g.S.ZoneStore.opens k)
                (so_far honest).1 (c.flush-failed.ensures.any_moment k there.2.kept sound) (λ content o. subst (λ (y : Kept). OpensAsLeft g.S.ZoneStore.opens y content) (sym same) o),
          ));
      honest = set2 (λ a b. g.S.ZoneStore.is_honest b.store ↔ g.S.ZoneStore.is_honest a.store) c.args.pending.now pending i c.index-pending-i.result c.flush-failed.new.self inside c.loop-i.invariant.honest
          (λ a so_far. (λ h. so_far.0 (c.flush-failed.ensures.honest.0 h), λ h. c.flush-failed.ensures.honest.1 (so_far.1 h)));
    }

pub returns-clause-any_moment : goal.returns-clause-any_moment
returns-clause-any_moment g c ks each =
    map3 (λ a b k. g.S.ZoneStore.is_honest a.store → g.S.ZoneStore.is_honest b.store × LeavesOnly g.S.ZoneStore.moment g.S.ZoneStore.left_since a.store b.store (OpensAsLeft g.S.ZoneStore.opens k)) (λ a b k. g.S.ZoneStore.is_honest a.store → LeavesOnly g.S.ZoneStore.moment g.S.ZoneStore.left_since a.store b.store (OpensAsLeft g.S.ZoneStore.opens k)) c.args.pending.now c.loop-i.pending ks
    (λ a b k go honest. (go honest).1) (c.loop-i.invariant.moments ks each)

pub returns-clause-held : goal.returns-clause-held
returns-clause-held g c ks each =
    let was = c.loop-i.invariant.held ks each in
    let ended : length was.0 ≡ length ks = omega (arith, was.1, long3 (λ z b k. HasVersions g.S.ZoneStore.keeps z b k) c.args.zones.now c.args.pending.now ks each) in
    (was.0, ended, was.2, was.3, was.4)
