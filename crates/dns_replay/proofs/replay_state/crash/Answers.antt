use Rattle.std.proofs.Common.{map}
use Rattle.dns_replay.specs.Commands.{said_zone_keep}
use Rattle.dns_replay.proofs.Led.{opened_err, opened_ok, recovers, refused_in}
use Rattle.dns_replay.proofs.replay_state.crash.Goals as goal

pub returns-in_ok-print_recovered-in-Ok : goal.returns-in_ok-print_recovered-in-Ok
returns-in_ok-print_recovered-in-Ok g c =
    recovers g.D.ScriptDevice.left_by c.args.world.origins.now c.args.world.settings.now g.met.D.Sectors.seen_may_stay (map said_zone_keep c.args.keeps.now) c.args.stop c.args.primary.now c.in-Ok.running c.args.devices.now.items c.in_ok-left.left.items c.in_ok-crashed.crashed.items c.take_devices.new.devices.items (g.W.Write.contents c.args.out.now) (g.W.Write.contents c.print_recovered.new.out) c.in_ok-left.ensures.recoverable c.in_ok-crashed.ensures
    (opened_ok c.args.world.origins.now c.args.world.settings.now c.in_ok-crashed.crashed.items c.in_ok-opened.opened c.in-Ok.running c.in-Ok.is c.in_ok-opened.ensures) c.in_ok-print_recovered-in-Ok.ensures

pub returns-in-Err : goal.returns-in-Err
returns-in-Err g c =
    refused_in g.D.ScriptDevice.left_by c.args.world.origins.now c.args.world.settings.now (map said_zone_keep c.args.keeps.now) c.args.stop c.keep_refused.result c.args.primary.now c.take_devices.new.primary c.args.devices.now.items c.in_ok-left.left.items c.in_ok-crashed.crashed.items c.in-Err.refused.devices.items c.keep_refused.new.devices.items (g.W.Write.contents c.args.out.now) (g.W.Write.contents c.keep_refused.new.out) c.take_devices.ensures.taken c.in_ok-left.ensures.recoverable c.in_ok-crashed.ensures
    (opened_err c.args.world.origins.now c.args.world.settings.now c.in_ok-crashed.crashed.items c.in_ok-opened.opened c.in-Err.refused c.in-Err.is c.in_ok-opened.ensures) c.keep_refused.ensures
