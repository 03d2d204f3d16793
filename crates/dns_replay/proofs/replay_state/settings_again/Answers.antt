use Rattle.std.proofs.Common.{add-one, subst, arith}
use Rattle.dns_primary.specs.declared.primary.ZoneSpec.{ZoneSpec}
use Rattle.dns_replay.specs.Runs.{AreSame}
use Rattle.dns_replay.proofs.Crashed.{each_more}
use Rattle.dns_replay.proofs.replay_state.settings_again.Goals as goal

pub loop-one-preserved : goal.loop-one-preserved
loop-one-preserved c =
    let again = c.in_ok-setting_again.field-0 in
    let one = subst (λ (z : ZoneSpec). AreSame z again) c.one-item.is c.in_ok-setting_again.ensures in
    rw (add-one, c.in_ok-push.ensures.items) (each_more AreSame c.args.settings.now c.loop-one.one-index c.one-item.result c.loop-one.again.items again (omega arith) c.loop-one.invariant one)
