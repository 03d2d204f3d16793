use Rattle.std.proofs.Common.{List, add-one, ap, subst, arith, take_all}
use Rattle.std.specs.Prelude.{flat_map}
use Rattle.std.specs.Io.KnownBytes.{Appends}
use Rattle.std.proofs.KnownBytes.{Appends-nil}
use Rattle.dns_zone.specs.Zone.{Zone}
use Rattle.dns_commands.specs.Init.{formatted}
use Rattle.dns_commands.proofs.Made.{lines_more}
use Rattle.dns_commands.proofs.commands.init.print_all.Goals as goal

pub loop-zone-init : goal.loop-zone-init
loop-zone-init g c = Appends-nil (g.W.Write.contents c.args.out.now)

pub loop-zone-preserved : goal.loop-zone-preserved
loop-zone-preserved g c =
    let n = c.loop-zone.zone-index in
    let line = rw (ap formatted c.zone-item.is) at c.in_ok-print_formatted.ensures in
    rw add-one (lines_more formatted c.args.zones.now n c.zone-item.result _ _ _ (omega arith) c.loop-zone.invariant line)

pub returns : goal.returns
returns g c =
    let text = g.W.Write.contents in
    subst (λ (zs : List Zone). Appends (text c.args.out.now) (text c.loop-zone.out) (flat_map formatted zs)) (take_all c.loop-zone.zone-index c.args.zones.now (omega arith)) c.loop-zone.invariant
