use Rattle.std.proofs.Common.{◌-◌, [], ◌∷◌, ◌∙◌, ap}
use Rattle.std.specs.Prelude.{slice_set}
use Rattle.dns_sectors.specs.Device.{Content}
use Rattle.dns_sectors.specs.Crash.{CrashOf}
use Rattle.dns_sectors.specs.Phase.{zeros_from}
use Rattle.dns_sectors.proofs.Moments.{goes_on, joined, weaker}
use Rattle.dns_journal.specs.Clearing.{StaysUncleared}
use Rattle.dns_journal.proofs.Zeroed.{zeros_left, cleared_left, cleared}
use Rattle.dns_journal.proofs.clear.clear_bank.Goals as goal

pub returns-in_err-write_zeros-clause-any_moment : goal.returns-in_err-write_zeros-clause-any_moment
returns-in_err-write_zeros-clause-any_moment g c honest only =
    let here : (e : Content) → CrashOf (g.D.Sectors.may_leave c.args.device.now) (zeros_from c.args.from (c.args.until - c.args.from)) e → StaysUncleared c.args.from c.args.until c.args.root.now (g.D.Sectors.seen c.args.device.now) e =
    λ e left s k x parts begun. zeros_left s k begun.0 x parts c.args.from c.args.until c.args.root.now begun.2 (g.D.Sectors.seen c.args.device.now) begun.1
    (g.D.Sectors.may_leave c.args.device.now) only e left in
    weaker g.D.Sectors.moment g.D.Sectors.left_since c.args.device.now c.write_zeros.new.device _ (StaysUncleared c.args.from c.args.until c.args.root.now (g.D.Sectors.seen c.args.device.now)) (c.write_zeros.ensures.any_moment honest) here

pub returns-in_err-sync-clause-any_moment : goal.returns-in_err-sync-clause-any_moment
returns-in_err-sync-clause-any_moment g c honest only =
    let one = c.write_zeros.ensures.honest.1 honest in
    let here : (e : Content) → CrashOf (g.D.Sectors.may_leave c.args.device.now) (zeros_from c.args.from (c.args.until - c.args.from)) e → StaysUncleared c.args.from c.args.until c.args.root.now (g.D.Sectors.seen c.args.device.now) e =
    λ e left s k x parts begun. zeros_left s k begun.0 x parts c.args.from c.args.until c.args.root.now begun.2 (g.D.Sectors.seen c.args.device.now) begun.1
    (g.D.Sectors.may_leave c.args.device.now) only e left in
    goes_on g.D.Sectors.moment g.D.Sectors.left_since c.args.device.now c.write_zeros.new.device c.sync.new.self (StaysUncleared c.args.from c.args.until c.args.root.now (g.D.Sectors.seen c.args.device.now)) (g.D.Sectors.may_leave c.sync.new.self)
    (weaker g.D.Sectors.moment g.D.Sectors.left_since c.args.device.now c.write_zeros.new.device _ (StaysUncleared c.args.from c.args.until c.args.root.now (g.D.Sectors.seen c.args.device.now)) (c.write_zeros.ensures.any_moment honest) here)
    (c.sync.ensures.time one) (λ e left. here e (c.write_zeros.ensures.crash honest e (c.sync.ensures.crash one e left)))

pub returns-in_err-write_phase-clause-any_moment : goal.returns-in_err-write_phase-clause-any_moment
returns-in_err-write_phase-clause-any_moment g c honest only =
    let one = c.write_zeros.ensures.honest.1 honest in
    let two = c.sync.ensures.honest.1 one in
    let here : (e : Content) → CrashOf (g.D.Sectors.may_leave c.args.device.now) (zeros_from c.args.from (c.args.until - c.args.from)) e → StaysUncleared c.args.from c.args.until c.args.root.now (g.D.Sectors.seen c.args.device.now) e =
    λ e left s k x parts begun. zeros_left s k begun.0 x parts c.args.from c.args.until c.args.root.now begun.2 (g.D.Sectors.seen c.args.device.now) begun.1
    (g.D.Sectors.may_leave c.args.device.now) only e left in
    joined g.D.Sectors.moment g.D.Sectors.left_since c.args.device.now c.sync.new.self c.write_phase.new.device (StaysUncleared c.args.from c.args.until c.args.root.now (g.D.Sectors.seen c.args.device.now)) (CrashOf (g.D.Sectors.may_leave c.sync.new.self) ((0, c.args.root.now) ∷ []))
    (goes_on g.D.Sectors.moment g.D.Sectors.left_since c.args.device.now c.write_zeros.new.device c.sync.new.self (StaysUncleared c.args.from c.args.until c.args.root.now (g.D.Sectors.seen c.args.device.now)) (g.D.Sectors.may_leave c.sync.new.self)
    (weaker g.D.Sectors.moment g.D.Sectors.left_since c.args.device.now c.write_zeros.new.device _ (StaysUncleared c.args.from c.args.until c.args.root.now (g.D.Sectors.seen c.args.device.now)) (c.write_zeros.ensures.any_moment honest) here)
    (c.sync.ensures.time one) (λ e left. here e (c.write_zeros.ensures.crash honest e (c.sync.ensures.crash one e left))))
    (c.write_phase.ensures.any_moment two)
    (λ e left s k x parts begun. cleared_left s k begun.0 x parts c.args.from c.args.until c.args.root.now begun.2 (g.D.Sectors.seen c.args.device.now) begun.1
    (g.D.Sectors.seen c.write_zeros.new.device) (g.D.Sectors.may_leave c.sync.new.self)
    (c.in_ok-write_zeros.ensures.written honest) (c.in_ok-sync.ensures.durable one) e left)

pub returns-clause-any_moment : goal.returns-clause-any_moment
returns-clause-any_moment g c honest only =
    let one = c.write_zeros.ensures.honest.1 honest in
    let two = c.sync.ensures.honest.1 one in
    let here : (e : Content) → CrashOf (g.D.Sectors.may_leave c.args.device.now) (zeros_from c.args.from (c.args.until - c.args.from)) e → StaysUncleared c.args.from c.args.until c.args.root.now (g.D.Sectors.seen c.args.device.now) e =
    λ e left s k x parts begun. zeros_left s k begun.0 x parts c.args.from c.args.until c.args.root.now begun.2 (g.D.Sectors.seen c.args.device.now) begun.1
    (g.D.Sectors.may_leave c.args.device.now) only e left in
    joined g.D.Sectors.moment g.D.Sectors.left_since c.args.device.now c.sync.new.self c.write_phase.new.device (StaysUncleared c.args.from c.args.until c.args.root.now (g.D.Sectors.seen c.args.device.now)) (CrashOf (g.D.Sectors.may_leave c.sync.new.self) ((0, c.args.root.now) ∷ []))
    (goes_on g.D.Sectors.moment g.D.Sectors.left_since c.args.device.now c.write_zeros.new.device c.sync.new.self (StaysUncleared c.args.from c.args.until c.args.root.now (g.D.Sectors.seen c.args.device.now)) (g.D.Sectors.may_leave c.sync.new.self)
    (weaker g.D.Sectors.moment g.D.Sectors.left_since c.args.device.now c.write_zeros.new.device _ (StaysUncleared c.args.from c.args.until c.args.root.now (g.D.Sectors.seen c.args.device.now)) (c.write_zeros.ensures.any_moment honest) here)
    (c.sync.ensures.time one) (λ e left. here e (c.write_zeros.ensures.crash honest e (c.sync.ensures.crash one e left))))
    (c.write_phase.ensures.any_moment two)
    (λ e left s k x parts begun. cleared_left s k begun.0 x parts c.args.from c.args.until c.args.root.now begun.2 (g.D.Sectors.seen c.args.device.now) begun.1
    (g.D.Sectors.seen c.write_zeros.new.device) (g.D.Sectors.may_leave c.sync.new.self)
    (c.in_ok-write_zeros.ensures.written honest) (c.in_ok-sync.ensures.durable one) e left)

pub returns-clause-cleared : goal.returns-clause-cleared
returns-clause-cleared g c s k x parts honest begun =
    let one = c.write_zeros.ensures.honest.1 honest in
    let two = c.sync.ensures.honest.1 one in
    cleared s k begun.0 x parts c.args.from c.args.until c.args.root.now begun.2 (g.D.Sectors.seen c.args.device.now) begun.1
    (g.D.Sectors.seen c.write_phase.new.device)
    (c.in_ok-write_phase.ensures.written two ∙ ap (λ (e : Content). slice_set e 0 c.args.root.now) (c.sync.ensures.seen one ∙ c.in_ok-write_zeros.ensures.written honest))
