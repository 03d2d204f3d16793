use Rattle.dns_primary.specs.Steps.{event_shown}
use Rattle.dns_replay.proofs.Honest.{stay_honest}
use Rattle.dns_replay.proofs.Led.{happened, now_halted}
use Rattle.dns_replay.proofs.replay_state.run_step.Goals as goal

pub returns-then-stopped : goal.returns-then-stopped
returns-then-stopped g c =
    now_halted c.args.world.origins.now c.args.world.settings.now (event_shown c.args.event) c.args.running c.happen-effects.new.primary c.happen-effects.result c.args.devices.now.items c.in_ok-left.left.items (g.W.Write.contents c.args.out.now) (g.W.Write.contents c.print_stop.new.out) c.happen-effects.ensures (λ m st. stay_honest g.D.Sectors c.args.running.pending.items c.happen-effects.new.primary.pending.items st.honest)
    c.in_ok-left.ensures.handed_out c.in_ok-left.ensures.within c.in_ok-print_stop.ensures

pub returns : goal.returns
returns g c =
    let shown = event_shown c.args.event in
    let lent = c.give_back.new.primary in
    happened c.args.world.origins.now c.args.world.settings.now shown c.args.running lent c.happen-effects.result c.args.devices.now.items c.args.devices.now.items (g.W.Write.contents c.args.out.now) (g.W.Write.contents c.print_effects.new.out)
    (λ m kept. c.give_back.ensures.led m shown c.args.running c.happen-effects.result (c.happen-effects.ensures m kept)) (λ m st. stay_honest g.D.Sectors c.args.running.pending.items lent.pending.items st.honest)
    c.in_ok-print_effects.ensures
