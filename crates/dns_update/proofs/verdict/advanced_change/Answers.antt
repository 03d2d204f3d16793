use Rattle.std.proofs.Common.{length, refl, sym, ap, ◌∙◌, arith}
use Rattle.dns_zone.specs.Zone.{soas}
use Rattle.dns_zone.proofs.OneSoa.{has_soa_at}
use Rattle.dns_changes.specs.Touched.{records_aside}
use Rattle.dns_update.proofs.Aside.{next_aside}
use Rattle.dns_update.proofs.OneSoa.{next_soa}
use Rattle.dns_update.proofs.Sizes.{next_more}
use Rattle.dns_update.proofs.verdict.advanced_change.Goals as goal

pub change_to-requires-clause-one : goal.change_to-requires-clause-one
change_to-requires-clause-one g c =
    let apex = c.args.zone.now.apex in
    has_soa_at apex apex _ _ refl (sym c.in_ok-advance.ensures) (next_soa apex (g.I.ZoneIndex.records c.args.after) c.requires.one)

pub change_to-requires-clause-few : goal.change_to-requires-clause-few
change_to-requires-clause-few g c =
    let xs = g.I.ZoneIndex.records c.args.after in
    omega (arith, ap length c.in_ok-advance.ensures, next_more (soas xs) xs, c.requires.few)

pub change_to-requires-clause-touched : goal.change_to-requires-clause-touched
change_to-requires-clause-touched g c =
    let names = c.args.names.now in
    let next = ap (records_aside names) c.in_ok-advance.ensures ∙ next_aside c.args.zone.now.apex names (g.I.ZoneIndex.records c.args.after) c.requires.one c.requires.apex in
    record { rise = c.requires.touched.rise; others = c.requires.touched.others ∙ sym next }
