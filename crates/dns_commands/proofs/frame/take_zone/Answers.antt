use Rattle.std.proofs.Common.{◌<◌, Bool, List, Some, length, true, false, add-one, sym, ap, ◌∙◌, arith}
use Rattle.dns_names.specs.Name.{names_eq}
use Rattle.dns_configuration.specs.declared.configuration.ZoneSettings.{ZoneSettings}
use Rattle.dns_configuration.specs.Named.{zone_configured}
use Rattle.dns_commands.proofs.Framed.{found_next, none_more, same_at}
use Rattle.dns_commands.proofs.frame.take_zone.Goals as goal

pub returns-then-eq : goal.returns-then-eq
returns-then-eq c =
    let name = c.args.name.now in
    let zones = c.loop-position.zones.items in
    let n = c.loop-position.position in
    let one = c.index.result.now in
    let test : ZoneSettings → Bool = λ z. names_eq z.origin name in
    let inside : n < length zones = omega (arith, c.loop-position-test.true, c.len-position-end.ensures, ap length c.loop-position.invariant.same) in
    let is = sym (ap test c.index.ensures) ∙ sym c.eq.ensures.value ∙ c.if-eq.true in
    let found = found_next test zones n one inside c.loop-position.invariant.none is in
    let taken = c.swap_remove.ensures.value ∙ same_at zones n c.swap_remove.result one inside in
    ap Some taken ∙ sym found ∙ ap (λ (zs : List ZoneSettings). zone_configured name zs) c.loop-position.invariant.same

pub loop-position-preserved : goal.loop-position-preserved
loop-position-preserved c =
    let name = c.args.name.now in
    let zones = c.loop-position.zones.items in
    let n = c.loop-position.position in
    let one = c.index.result.now in
    let test : ZoneSettings → Bool = λ z. names_eq z.origin name in
    let inside : n < length zones = omega (arith, c.loop-position-test.true, c.len-position-end.ensures, ap length c.loop-position.invariant.same) in
    let not = sym (ap test c.index.ensures) ∙ sym c.eq.ensures.value ∙ c.if-eq.false in
    record { same = c.loop-position.invariant.same; none = rw add-one (none_more test zones n one inside c.loop-position.invariant.none not) }
