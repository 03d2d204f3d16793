use Rattle.std.proofs.Common.{◌≡◌, false, sym, subst, ◌∙◌}
use Rattle.std.specs.Prelude.{IfNone}
use Rattle.dns_lookup.proofs.Upward.{among, closest_here, closest_step, closest_end}
use Rattle.dns_lookup.proofs.zones.closest_zone.Goals as goal

pub returns-in-Some-clause-found : goal.returns-in-Some-clause-found
returns-in-Some-clause-found g c = c.in-Some.ensures.found ∙ sym (closest_here c.args.zones.now c.ancestors.here c.in-Some.ensures.some) ∙ c.ancestors.invariant

pub ancestors-preserved : goal.ancestors-preserved
ancestors-preserved g c =
    let zones = c.args.zones.now in
    let none : among zones c.ancestors.here ≡ false = subst (λ o. IfNone o (among zones c.ancestors.here ≡ false)) c.in_default.is c.place_of.ensures.none in
    sym (closest_step zones c.ancestors.here c.in-Some-parent.above c.in-Some-parent.ensures none) ∙ c.ancestors.invariant

pub returns-in-None-clause-none : goal.returns-in-None-clause-none
returns-in-None-clause-none g c =
    let zones = c.args.zones.now in
    let none : among zones c.ancestors.here ≡ false = subst (λ o. IfNone o (among zones c.ancestors.here ≡ false)) c.in_default.is c.place_of.ensures.none in
    sym c.ancestors.invariant ∙ closest_end zones c.ancestors.here c.in-None.ensures none
