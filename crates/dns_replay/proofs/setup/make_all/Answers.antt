use Rattle.std.proofs.Common.{add-one, subst, arith, take, take_all}
use Rattle.std.specs.Prelude.{slice_index_or}
use Rattle.dns_zone.specs.Zone.{Zone}
use Rattle.dns_versions.specs.Each.{Each3}
use Rattle.dns_primary.specs.declared.primary.ZoneSpec.{ZoneSpec}
use Rattle.dns_replay.specs.Made.{IsMadeOf}
use Rattle.dns_replay.proofs.Loaded.{each3_more}
use Rattle.dns_replay.proofs.setup.make_all.Goals as goal

pub loop-index-preserved : goal.loop-index-preserved
loop-index-preserved g c =
    let made = c.in-Ok.ensures in
    let z = c.index-zones-index.result in
    let s = c.index-settings-index.result in
    let i = c.loop-index.index in
    let is = subst (λ (y : ZoneSpec). IsMadeOf g.D.Sectors (slice_index_or c.args.zones.now i z) y made.0) c.index-settings-index.is (subst (λ (y : Zone). IsMadeOf g.D.Sectors y s made.0) c.index-zones-index.is made.2) in
    rw (add-one, made.1) (each3_more (IsMadeOf g.D.Sectors) c.args.zones.now c.args.settings.now i z s c.loop-index.devices.items made.0 (omega arith) (omega arith) c.loop-index.invariant is)

pub returns : goal.returns
returns g c =
    let i = c.loop-index.index in
    let ds = c.loop-index.devices.items in
    subst (λ zs. Each3 (IsMadeOf g.D.Sectors) zs c.args.settings.now ds) (take_all i c.args.zones.now (omega arith))
    (subst (λ ss. Each3 (IsMadeOf g.D.Sectors) (take i c.args.zones.now) ss ds) (take_all i c.args.settings.now (omega arith)) c.loop-index.invariant)
