use Rattle.std.proofs.Common.{rules, ◌<◌, get_or, add-one, ap, subst, ◌∙◌, arith}
use Rattle.std.specs.String.{string_bytes}
use Rattle.dns_zone.specs.Zone.{Zone}
use Rattle.dns_configuration.specs.declared.configuration.ZoneSettings.{ZoneSettings}
use Rattle.dns_commands.specs.CheckConfiguration.{HasSectors, sectors_taken}
use Rattle.dns_commands.proofs.Checked.{too_large_at}
use Rattle.dns_commands.proofs.Made.{pairs_all, pairs_more}
use Rattle.dns_commands.proofs.commands.check_configuration.first_too_large.Goals as goal

pub loop-index-init : goal.loop-index-init
loop-index-init g c = tt

pub loop-index-preserved : goal.loop-index-preserved
loop-index-preserved g c =
    let own = c.index-settings-index.result in
    let zone = c.index-zones-index.result in
    let n = c.loop-index.index in
    let zones = c.args.zones.now in
    let fits : HasSectors own zone = search rules in
    let there = subst (λ (z : ZoneSettings). HasSectors z (get_or zones n zone)) c.index-settings-index.is (subst (λ (z : Zone). HasSectors own z) c.index-zones-index.is fits) in
    rw add-one (pairs_more HasSectors c.args.settings.now zones n own zone (omega arith) (omega (arith, c.requires)) c.loop-index.invariant there)

pub returns-then-not-has_sectors : goal.returns-then-not-has_sectors
returns-then-not-has_sectors g c =
    let own = c.index-settings-index.result in
    let zone = c.index-zones-index.result in
    let n = c.loop-index.index in
    let zones = c.args.zones.now in
    let path = c.deref.ensures ∙ ap (λ (z : ZoneSettings). string_bytes z.device) c.index-settings-index.is in
    let more : own.snapshot_sectors < sectors_taken zone = search rules in
    let there = subst (λ (z : ZoneSettings). z.snapshot_sectors < sectors_taken (get_or zones n zone)) c.index-settings-index.is (subst (λ (z : Zone). own.snapshot_sectors < sectors_taken z) c.index-zones-index.is more) in
    too_large_at c.args.settings.now zones n own zone c.deref.result.now (omega arith) (omega (arith, c.requires)) c.loop-index.invariant path there

pub returns : goal.returns
returns g c = pairs_all HasSectors c.args.settings.now c.args.zones.now c.loop-index.index (omega arith) (omega (arith, c.requires)) c.loop-index.invariant
