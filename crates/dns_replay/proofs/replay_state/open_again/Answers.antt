use Rattle.dns_replay.proofs.Crashed.{reset_recoverable}
use Rattle.dns_replay.proofs.Led.{opened_again}
use Rattle.dns_replay.proofs.replay_state.open_again.Goals as goal

pub returns : goal.returns
returns g c = λ m event tries r.
    opened_again c.args.world.origins.now c.args.world.settings.now m event tries c.in_ok-settings.settings.items c.args.devices.items c.open.result c.in_ok-settings.ensures r.1 c.open.ensures.honest
    (c.open.ensures.recovered m event tries (reset_recoverable g.D.Sectors tries m event 0 m.zones c.args.world.origins.now c.args.world.settings.now c.in_ok-settings.settings.items c.args.devices.items c.in_ok-settings.ensures r.0))
