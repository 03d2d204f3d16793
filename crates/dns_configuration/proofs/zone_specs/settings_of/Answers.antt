use Rattle.std.proofs.Common.{add-one, subst, arith}
use Rattle.dns_configuration.specs.declared.configuration.ZoneSettings.{ZoneSettings}
use Rattle.dns_configuration.specs.Known.{IsSettingOf}
use Rattle.dns_configuration.proofs.Loaded.{zip_more}
use Rattle.dns_configuration.proofs.zone_specs.settings_of.Goals as goal

pub loop-own-preserved : goal.loop-own-preserved
loop-own-preserved c =
    let known = c.in_ok-setting_of.field-0 in
    let one = subst (λ (z : ZoneSettings). IsSettingOf z known) c.own-item.is c.in_ok-setting_of.ensures in
    rw (add-one, c.in_ok-push.ensures.items) (zip_more IsSettingOf c.args.zones.now c.loop-own.own-index c.own-item.result c.loop-own.known.items known (omega arith) c.loop-own.invariant one)
