use Rattle.std.proofs.Common.{◌≡◌, map, sym, subst, ◌∙◌, arith}
use Rattle.std.specs.Prelude.{Some, Result, Ok, Err, IfOk, slice_index_or}
use Rattle.dns_zone.specs.Zone.{Zone}
use Rattle.dns_store.specs.Versions.{Kept}
use Rattle.dns_versions.specs.declared.zone_versions.ZoneVersions.{ZoneVersions}
use Rattle.dns_versions.specs.Held.{HasVersions, newer}
use Rattle.dns_versions.proofs.Lists.{newest_at}
use Rattle.dns_primary.specs.Machine.{kept_of}
use Rattle.dns_primary.specs.Outcome.{IsStageable}
use Rattle.dns_primary.proofs.Places.{at3, map_get}
use Rattle.dns_primary.proofs.primary.Primary.plan.Goals as goal

-- what holds of each success holds of this one
if_ok : {A E : Type 0} (P Q : A → Type 0) (r : Result A E) → ((x : A) → P x → Q x) → IfOk r P → IfOk r Q
if_ok P Q (Ok x) each h = each x h
if_ok P Q (Err e) each h = tt

pub returns-clause-planned : goal.returns-clause-planned
returns-clause-planned g c m z kept there =
    let keeps = g.S.ZoneStore.keeps in
    let self = c.args.self.now in
    let R = λ (z : Zone) (b : ZoneVersions g.row.I.Denot g.row.S.Denot) (k : Kept). HasVersions keeps z b k in
    let was = at3 R self.zones.items self.pending.items (map kept_of m.zones) c.args.index c.index.result.now c.index-2.result.now (kept_of z) kept.zones_are (map_get kept_of m.zones c.args.index z there) in
    let first = subst (λ (y : Zone). HasVersions keeps y (slice_index_or self.pending.items c.args.index c.index-2.result.now) (kept_of z)) (sym c.index.ensures) was in
    let here = subst (λ (y : ZoneVersions g.row.I.Denot g.row.S.Denot). HasVersions keeps c.index.result.now y (kept_of z)) (sym c.index-2.ensures) first in
    c.plan_update.ensures.planned (kept_of z) here

pub returns-clause-lacks : goal.returns-clause-lacks
returns-clause-lacks g c m z kept there =
    let keeps = g.S.ZoneStore.keeps in
    let self = c.args.self.now in
    let R = λ (z : Zone) (b : ZoneVersions g.row.I.Denot g.row.S.Denot) (k : Kept). HasVersions keeps z b k in
    let was = at3 R self.zones.items self.pending.items (map kept_of m.zones) c.args.index c.index.result.now c.index-2.result.now (kept_of z) kept.zones_are (map_get kept_of m.zones c.args.index z there) in
    let first = subst (λ (y : Zone). HasVersions keeps y (slice_index_or self.pending.items c.args.index c.index-2.result.now) (kept_of z)) (sym c.index.ensures) was in
    let here = subst (λ (y : ZoneVersions g.row.I.Denot g.row.S.Denot). HasVersions keeps c.index.result.now y (kept_of z)) (sym c.index-2.ensures) first in
    c.plan_update.ensures.lacks (kept_of z) here

pub returns-clause-stageable : goal.returns-clause-stageable
returns-clause-stageable g c =
    let self = c.args.self.now in
    let zones = self.zones.items in
    let pending = self.pending.items in
    let index = c.args.index in
    let z = c.index.result.now in
    let b = c.index-2.result.now in
    if_ok (λ p. IsStageable (newer z b.tip) p) _ c.plan_update.result
    (λ p may v there.
    (let at = newest_at zones pending index z b c.requires.inside (omega (arith, c.requires.inside, self.as_many)) in
    let some : Some (newer (slice_index_or zones index z) (slice_index_or pending index b).tip) ≡ Some v = sym at ∙ there in
    let one : newer (slice_index_or zones index z) (slice_index_or pending index b).tip ≡ v = cc some in
    let same : newer z b.tip ≡ newer (slice_index_or zones index z) (slice_index_or pending index b).tip = λ i. newer (c.index.ensures i) (c.index-2.ensures i).tip in
    subst (λ (y : Zone). IsStageable y p) (same ∙ one) may))
    c.plan_update.ensures.stageable
