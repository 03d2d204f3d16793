use Rattle.std.proofs.Common.{[], get_or, add-one, refl, ap, subst, ◌∙◌, arith}
use Rattle.std.specs.String.{string_bytes}
use Rattle.dns_zone.specs.Zone.{Zone}
use Rattle.dns_configuration.specs.declared.configuration.ZoneSettings.{ZoneSettings}
use Rattle.dns_configuration.proofs.Called.{called_on, nothing_called}
use Rattle.dns_commands.specs.Init.{IsDeviceMade, IsNotMade}
use Rattle.dns_commands.proofs.Made.{made_all, made_more, stops_at}
use Rattle.dns_commands.proofs.commands.init.make_devices.Goals as goal

pub loop-position-init : goal.loop-position-init
loop-position-init g c = ([], nothing_called _, refl)

pub loop-position-preserved : goal.loop-position-preserved
loop-position-preserved g c =
    let own = c.index-settings-position.result in
    let zone = c.index-zones-position.result in
    let n = c.loop-position.position in
    let zones = c.args.zones.now in
    let before = c.loop-position.invariant in
    let next = c.in_default.ensures.0 in
    let has = subst (λ (z : ZoneSettings). IsDeviceMade g.D.Sectors next z (get_or zones n zone)) c.index-settings-position.is (subst (λ (z : Zone). IsDeviceMade g.D.Sectors next own z) c.index-zones-position.is c.in_default.ensures.2) in
    rw add-one (_, called_on _ _ _ _ _ before.1 c.in_default.ensures.1, made_more g.D.Sectors before.0 next c.args.settings.now zones n own zone (omega arith) (omega (arith, c.requires)) before.2 has)

pub returns-in-Err : goal.returns-in-Err
returns-in-Err g c =
    let own = c.index-settings-position.result in
    let zone = c.index-zones-position.result in
    let n = c.loop-position.position in
    let settings = c.args.settings.now in
    let zones = c.args.zones.now in
    let before = c.loop-position.invariant in
    let next = c.in-Err.ensures.0 in
    let fault = c.in-Err.fault in
    let path = c.deref.result.now in
    let named = c.deref.ensures ∙ ap (λ (z : ZoneSettings). string_bytes z.device) c.index-settings-position.is in
    let why = subst (λ (z : ZoneSettings). IsNotMade g.D.Sectors next z (get_or zones n zone) fault) c.index-settings-position.is (subst (λ (z : Zone). IsNotMade g.D.Sectors next own z fault) c.index-zones-position.is c.in-Err.ensures.2) in
    (_, called_on _ _ _ _ _ (called_on _ _ _ _ _ before.1 c.in-Err.ensures.1) c.remove_all.ensures, (n, _, refl, stops_at g.D.Sectors before.0 next settings zones n own zone path fault (omega arith) (omega (arith, c.requires)) before.2 named why))

pub returns : goal.returns
returns g c = (_, c.loop-position.invariant.1, made_all g.D.Sectors _ c.args.settings.now c.args.zones.now c.loop-position.position (omega arith) (omega (arith, c.requires)) c.loop-position.invariant.2)
