use Rattle.std.proofs.Common.{◌≡◌, ◌++◌, map, sym, ap, subst, ◌∙◌, append-nil}
use Rattle.dns_primary.specs.Open.{AreRecoverable, device_of_pending}
use Rattle.dns_replay.proofs.replay_state.devices_of.Goals as goal

pub returns-clause-handed_out : goal.returns-clause-handed_out
returns-clause-handed_out g c =
    let left = map (λ b. device_of_pending b) c.args.primary.pending.items in
    c.into_devices.ensures.handed_out ∙ ap (λ l. left ++ l) c.in_ok-devices.ensures.items ∙ append-nil left

pub returns-clause-at_rest : goal.returns-clause-at_rest
returns-clause-at_rest g c m event names settings kept so =
    let left = map (λ b. device_of_pending b) c.args.primary.pending.items in
    let items : c.into_devices.new.devices.items ≡ left =
    c.into_devices.ensures.handed_out ∙ ap (λ l. left ++ l) c.in_ok-devices.ensures.items ∙ append-nil left in
    subst (λ l. AreRecoverable g.D.Sectors 0 m event 0 m.zones names settings l) (sym items)
    (c.into_devices.ensures.at_rest m event names settings kept so)

pub returns-clause-within : goal.returns-clause-within
returns-clause-within g c m event before effects names settings stepped so =
    let left = map (λ b. device_of_pending b) c.args.primary.pending.items in
    let items : c.into_devices.new.devices.items ≡ left =
    c.into_devices.ensures.handed_out ∙ ap (λ l. left ++ l) c.in_ok-devices.ensures.items ∙ append-nil left in
    subst (λ l. AreRecoverable g.D.Sectors 0 m event 0 m.zones names settings l) (sym items)
    (c.into_devices.ensures.within m event before effects names settings stepped so)
