use Rattle.std.proofs.Common.{◌≡◌, true, Err, add-one, subst, ap, ◌∙◌, arith}
use Rattle.std.specs.Prelude.{◌⊎◌}
use Rattle.std.specs.String.{string_bytes}
use Rattle.dns_configuration.specs.declared.configuration.ZoneSettings.{ZoneSettings}
use Rattle.dns_configuration.specs.Faults.{is_memory}
use Rattle.dns_configuration.specs.Files.{IsLoadedFrom, loaded_by}
use Rattle.dns_configuration.proofs.Loaded.{fault_or_memory, zip_more}
use Rattle.dns_configuration.proofs.loading.load_all.Goals as goal

pub returns-in-Err : goal.returns-in-Err
returns-in-Err g c =
    let files = c.args.files.now in
    let fault = c.in-Err.fault in
    let why = subst (λ (z : ZoneSettings). (is_memory fault ≡ true) ⊎ (loaded_by files z ≡ Err fault)) c.own-item.is c.in-Err.ensures in
    fault_or_memory files c.args.settings.now c.loop-own.own-index c.own-item.result c.loop-own.zones.items c.deref-in-Err.result.now fault (omega arith) c.loop-own.invariant
    (c.deref-in-Err.ensures ∙ ap (λ (z : ZoneSettings). string_bytes z.file) c.own-item.is) why

pub loop-own-preserved : goal.loop-own-preserved
loop-own-preserved g c =
    let one = subst (λ (z : ZoneSettings). IsLoadedFrom c.args.files.now z c.in-Ok.zone) c.own-item.is c.in-Ok.ensures in
    rw (add-one, c.in-Ok-push.ensures.items) (zip_more (IsLoadedFrom c.args.files.now) c.args.settings.now c.loop-own.own-index c.own-item.result c.loop-own.zones.items c.in-Ok.zone (omega arith) c.loop-own.invariant one)
