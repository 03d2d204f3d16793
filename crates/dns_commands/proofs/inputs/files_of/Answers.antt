use Rattle.std.proofs.Common.{ap, arith, ◌∙◌}
use Rattle.std.specs.String.{string_bytes}
use Rattle.std.proofs.lemmas.Result.{MatchResult-from_err}
use Rattle.dns_configuration.specs.declared.configuration.ZoneSettings.{ZoneSettings}
use Rattle.dns_configuration.proofs.Called.{called_on}
use Rattle.dns_commands.specs.Inputs.{octets_read}
use Rattle.dns_commands.proofs.Files.{one_more_read}
use Rattle.dns_commands.proofs.inputs.files_of.Goals as goal

pub returns-in_err-octets : goal.returns-in_err-octets
returns-in_err-octets g c =
    let named = c.deref.ensures ∙ ap (λ (z : ZoneSettings). string_bytes z.file) c.zone-item.is in
    let read = one_more_read c.args.zones.now c.loop-zone.zone-index c.zone-item.result c.loop-zone.files.items c.deref.result.now (octets_read c.octets.result) (omega arith) c.loop-zone.invariant.paths named in
    (_, called_on _ _ _ _ _ c.loop-zone.invariant.called c.octets.ensures, MatchResult-from_err c.from_residual.result _ _ c.from_residual.ensures.0 (λ _. read))

pub returns-in_err-clone : goal.returns-in_err-clone
returns-in_err-clone g c =
    let named = c.deref.ensures ∙ ap (λ (z : ZoneSettings). string_bytes z.file) c.zone-item.is in
    let read = one_more_read c.args.zones.now c.loop-zone.zone-index c.zone-item.result c.loop-zone.files.items c.deref.result.now (octets_read c.octets.result) (omega arith) c.loop-zone.invariant.paths named in
    (_, called_on _ _ _ _ _ c.loop-zone.invariant.called c.octets.ensures, MatchResult-from_err c.from_residual-in_err-clone.result _ _ c.from_residual-in_err-clone.ensures.0 (λ _. read))

pub returns-in_err-push : goal.returns-in_err-push
returns-in_err-push g c =
    let named = c.deref.ensures ∙ ap (λ (z : ZoneSettings). string_bytes z.file) c.zone-item.is in
    let read = one_more_read c.args.zones.now c.loop-zone.zone-index c.zone-item.result c.loop-zone.files.items c.deref.result.now (octets_read c.octets.result) (omega arith) c.loop-zone.invariant.paths named in
    (_, called_on _ _ _ _ _ c.loop-zone.invariant.called c.octets.ensures, MatchResult-from_err c.from_residual-in_err-push.result _ _ c.from_residual-in_err-push.ensures.0 (λ _. read))
