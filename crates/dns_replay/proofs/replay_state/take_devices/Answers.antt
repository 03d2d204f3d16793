use Rattle.std.proofs.Common.{ap, sym, ◌∙◌}
use Rattle.dns_replay.proofs.Led.{taken_left, taken_running}
use Rattle.dns_replay.proofs.replay_state.take_devices.Goals as goal

pub returns-in_ok-left-in-Some-clause-recoverable : goal.returns-in_ok-left-in-Some-clause-recoverable
returns-in_ok-left-in-Some-clause-recoverable g c =
    taken_running c.args.primary.now c.in-Some.running c.args.devices.now.items c.in_ok-left-in-Some.left.items (sym c.take.ensures.value ∙ c.in-Some.is) c.in_ok-left-in-Some.ensures.handed_out c.in_ok-left-in-Some.ensures.at_rest

pub returns-in-None-clause-recoverable : goal.returns-in-None-clause-recoverable
returns-in-None-clause-recoverable g c =
    taken_left c.args.primary.now c.args.devices.now.items c.replace.result.items (sym c.take.ensures.value ∙ c.in-None.is) (ap (λ v. v.items) c.replace.ensures.value)
