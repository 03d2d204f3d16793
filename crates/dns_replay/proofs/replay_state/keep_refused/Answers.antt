use Rattle.std.proofs.Common.{refl}
use Rattle.dns_replay.proofs.replay_state.keep_refused.Goals as goal

pub returns-then-fell : goal.returns-then-fell
returns-then-fell g c = (c.fell.ensures c.if-fell.true, refl, c.in_ok-print_stop.ensures)

pub returns : goal.returns
returns g c = record { index = c.args.refused.index; error = c.args.refused.error; printed = c.in_ok-print_refusal.ensures }
