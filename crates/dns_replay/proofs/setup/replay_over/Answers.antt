use Rattle.std.proofs.Common.{length, ap, ◌∙◌}
use Rattle.dns_zone.specs.Zone.{Zone}
use Rattle.dns_replay.specs.Lines.{lines}
use Rattle.dns_replay.specs.Made.{IsMadeOf}
use Rattle.dns_replay.specs.Runs.{AreSame}
use Rattle.dns_replay.proofs.Crashed.{each_long}
use Rattle.dns_replay.proofs.Loaded.{each3_first, each3_long, runs_from}
use Rattle.dns_replay.proofs.setup.replay_over.Goals as goal

pub open-requires-clause-as_many : goal.open-requires-clause-as_many
open-requires-clause-as_many g c = each3_long (IsMadeOf g.D.Sectors) c.args.zones.now c.args.world.settings.now c.args.devices.items c.requires.made ∙ each_long AreSame c.args.world.settings.now c.args.again.items c.requires.same

pub open-requires-clause-named : goal.open-requires-clause-named
open-requires-clause-named g c =
    ap length c.requires.named ∙ each3_first (λ (z : Zone). z.apex) (IsMadeOf g.D.Sectors) c.args.zones.now c.args.world.settings.now c.args.devices.items c.requires.made ∙ each_long AreSame c.args.world.settings.now c.args.again.items c.requires.same

pub returns-in-Ok : goal.returns-in-Ok
returns-in-Ok g c = λ not.
    runs_from g.D.ScriptDevice.left_by c.args.zones.now c.args.world.settings.now c.args.again.items c.args.world.origins.now c.args.devices.items c.in-Ok.primary (lines c.args.script.now) c.run_script.result (g.W.Write.contents c.args.out.now) (g.W.Write.contents c.run_script.new.out) c.requires.named c.requires.same c.requires.made c.in-Ok.ensures.recovered c.in-Ok.ensures.honest (c.run_script.ensures not)
