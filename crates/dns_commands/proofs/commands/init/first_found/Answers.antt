use Rattle.std.proofs.Common.{add-one, refl, sym, ap, subst, ◌∙◌, arith, take_all}
use Rattle.std.specs.Prelude.{map}
use Rattle.std.specs.String.{string_bytes}
use Rattle.dns_configuration.specs.declared.configuration.ZoneSettings.{ZoneSettings}
use Rattle.dns_configuration.proofs.Called.{called_on, nothing_called}
use Rattle.dns_commands.specs.Init.{IsFound, absent}
use Rattle.dns_commands.proofs.Made.{found_at, map_more}
use Rattle.dns_commands.proofs.commands.init.first_found.Goals as goal

pub loop-own-init : goal.loop-own-init
loop-own-init g c = nothing_called _

pub loop-own-preserved : goal.loop-own-preserved
loop-own-preserved g c =
    let zones = c.args.zones.now in
    let n = c.loop-own.own-index in
    let own = c.own-item.result in
    let here = rw (c.in_default.ensures.2, ap absent c.own-item.is) at c.in_default.ensures.1 in
    rw (add-one, sym (map_more (absent {D = g.row.D.Denot}) zones n own (omega arith))) (called_on _ _ _ _ _ c.loop-own.invariant here)

pub returns-in-Some : goal.returns-in-Some
returns-in-Some g c =
    let path = c.deref.ensures ∙ ap (λ (z : ZoneSettings). string_bytes z.device) c.own-item.is in
    let why = subst (λ (z : ZoneSettings). IsFound c.in-Some.ensures.0 z c.in-Some.fault) c.own-item.is c.in-Some.ensures.2 in
    (_, called_on _ _ _ _ _ c.loop-own.invariant c.in-Some.ensures.1, found_at _ c.in-Some.ensures.0 c.args.zones.now c.loop-own.own-index c.own-item.result c.deref.result.now c.in-Some.fault (omega arith) refl path why)

pub returns : goal.returns
returns g c = (_, c.loop-own.invariant, ap (map absent) (take_all c.loop-own.own-index c.args.zones.now (omega arith)))
