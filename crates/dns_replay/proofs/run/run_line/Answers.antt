use Rattle.dns_replay.specs.Commands.{said_command}
use Rattle.dns_replay.proofs.Led.{line_does}
use Rattle.dns_replay.proofs.run.run_line.Goals as goal

pub returns-in-Some : goal.returns-in-Some
returns-in-Some g c =
    line_does g.D.ScriptDevice.left_by c.args.world.origins.now c.args.world.settings.now c.args.line.now (said_command c.in-Some.command) c.run_command.result c.args.primary.now c.run_command.new.primary c.args.devices.now.items c.run_command.new.devices.items (g.W.Write.contents c.args.out.now) (g.W.Write.contents c.run_command.new.out) (rw c.in-Some.is at c.in_ok-command.ensures) c.run_command.ensures
