use Rattle.std.proofs.Common.{refl}
use Rattle.dns_replay.proofs.Led.{plan_halted, planned}
use Rattle.dns_replay.proofs.run.run_plan.Goals as goal

pub returns-in_ok-print_stop-in-None : goal.returns-in_ok-print_stop-in-None
returns-in_ok-print_stop-in-None g c = λ devices. (refl, plan_halted c.args.world.origins.now c.args.world.settings.now c.args.primary.now devices (g.W.Write.contents c.args.out.now) (g.W.Write.contents c.print_stop.new.out) c.in-None.is c.in_ok-print_stop-in-None.ensures)

pub returns-in-Some : goal.returns-in-Some
returns-in-Some g c = λ devices. (refl, planned c.args.world.origins.now c.args.world.settings.now c.args.primary.now devices (g.W.Write.contents c.args.out.now) c.in-Some.is)
