use Rattle.std.proofs.Common.{refl, sym, ◌∙◌}
use Rattle.dns_primary.specs.Steps.{event_shown}
use Rattle.dns_replay.specs.Scripts.{EventLeads}
use Rattle.dns_replay.proofs.Led.{leads_from, still_halted}
use Rattle.dns_replay.proofs.replay_state.run_event.Goals as goal

pub returns-in_ok-print_stop-in-None : goal.returns-in_ok-print_stop-in-None
returns-in_ok-print_stop-in-None g c =
    (refl, still_halted c.args.world.origins.now c.args.world.settings.now (event_shown c.args.event) c.args.primary.now c.take.new.self c.args.devices.now.items (g.W.Write.contents c.args.out.now) (g.W.Write.contents c.print_stop.new.out) (sym c.take.ensures.value ∙ c.in-None.is) c.take.ensures.after c.in_ok-print_stop-in-None.ensures)

pub returns-in_ok-next-in-Some : goal.returns-in_ok-next-in-Some
returns-in_ok-next-in-Some g c =
    (refl, leads_from c.args.world.origins.now c.args.world.settings.now (λ from led. EventLeads c.args.world.origins.now from (event_shown c.args.event) led) c.args.primary.now c.in-Some.running c.args.devices.now.items c.in_ok-next-in-Some.next c.run_step.new.devices.items (g.W.Write.contents c.args.out.now) (g.W.Write.contents c.run_step.new.out) (sym c.take.ensures.value ∙ c.in-Some.is) c.in_ok-next-in-Some.ensures)
