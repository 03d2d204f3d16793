use Rattle.std.proofs.Common.{◌∷◌, []}
use Rattle.dns_sectors.specs.Crash.{CrashOf}
use Rattle.dns_sectors.specs.Phase.{pairs}
use Rattle.dns_sectors.proofs.Moments.{joined, weaker}
use Rattle.dns_layout.specs.Sector.{open_count}
use Rattle.dns_journal.specs.State.{OpensAsOneOf}
use Rattle.dns_journal.proofs.Turning.{first_left, second_left, turned_to}
use Rattle.dns_journal.proofs.turn.turn_to.Goals as goal

pub returns-in_err-write_phase-clause-any_moment : goal.returns-in_err-write_phase-clause-any_moment
returns-in_err-write_phase-clause-any_moment g c s k new x parts d honest only altered opens bank behind turns =
    weaker g.D.Sectors.moment g.D.Sectors.left_since c.args.device.now c.write_phase.new.device
    (CrashOf (g.D.Sectors.may_leave c.args.device.now) (pairs c.args.writes.now)) (OpensAsOneOf s k new (open_count x))
    (c.write_phase.ensures.any_moment honest)
    (λ e left. first_left s k new d x parts opens bank behind c.args.root.now c.encode.result c.encode.ensures.says c.encode.ensures.own
    (pairs c.args.writes.now) turns (g.D.Sectors.seen c.args.device.now) altered (g.D.Sectors.may_leave c.args.device.now) only e left)

pub returns-in_err-write_phase-2-clause-any_moment : goal.returns-in_err-write_phase-2-clause-any_moment
returns-in_err-write_phase-2-clause-any_moment g c s k new x parts d honest only altered opens bank behind turns =
    let mid = c.write_phase.ensures.honest.1 honest in
    let first = weaker g.D.Sectors.moment g.D.Sectors.left_since c.args.device.now c.write_phase.new.device
    (CrashOf (g.D.Sectors.may_leave c.args.device.now) (pairs c.args.writes.now)) (OpensAsOneOf s k new (open_count x))
    (c.write_phase.ensures.any_moment honest)
    (λ e left. first_left s k new d x parts opens bank behind c.args.root.now c.encode.result c.encode.ensures.says c.encode.ensures.own
    (pairs c.args.writes.now) turns (g.D.Sectors.seen c.args.device.now) altered (g.D.Sectors.may_leave c.args.device.now) only e left) in
    joined g.D.Sectors.moment g.D.Sectors.left_since c.args.device.now c.write_phase.new.device c.write_phase-2.new.device (OpensAsOneOf s k new (open_count x))
    (CrashOf (g.D.Sectors.may_leave c.write_phase.new.device) ((0, c.encode.result) ∷ [])) first
    (c.write_phase-2.ensures.any_moment mid)
    (λ e left. second_left s k new d x parts opens bank behind c.args.root.now c.encode.result c.encode.ensures.says c.encode.ensures.own
    (pairs c.args.writes.now) turns (g.D.Sectors.seen c.args.device.now) altered (g.D.Sectors.seen c.write_phase.new.device)
    (g.D.Sectors.may_leave c.write_phase.new.device)
    (c.in_ok-write_phase.ensures.written honest) (c.in_ok-write_phase.ensures.durable honest) e left)

pub returns-clause-any_moment : goal.returns-clause-any_moment
returns-clause-any_moment g c s k new x parts d honest only altered opens bank behind turns =
    let mid = c.write_phase.ensures.honest.1 honest in
    let first = weaker g.D.Sectors.moment g.D.Sectors.left_since c.args.device.now c.write_phase.new.device
    (CrashOf (g.D.Sectors.may_leave c.args.device.now) (pairs c.args.writes.now)) (OpensAsOneOf s k new (open_count x))
    (c.write_phase.ensures.any_moment honest)
    (λ e left. first_left s k new d x parts opens bank behind c.args.root.now c.encode.result c.encode.ensures.says c.encode.ensures.own
    (pairs c.args.writes.now) turns (g.D.Sectors.seen c.args.device.now) altered (g.D.Sectors.may_leave c.args.device.now) only e left) in
    joined g.D.Sectors.moment g.D.Sectors.left_since c.args.device.now c.write_phase.new.device c.write_phase-2.new.device (OpensAsOneOf s k new (open_count x))
    (CrashOf (g.D.Sectors.may_leave c.write_phase.new.device) ((0, c.encode.result) ∷ [])) first
    (c.write_phase-2.ensures.any_moment mid)
    (λ e left. second_left s k new d x parts opens bank behind c.args.root.now c.encode.result c.encode.ensures.says c.encode.ensures.own
    (pairs c.args.writes.now) turns (g.D.Sectors.seen c.args.device.now) altered (g.D.Sectors.seen c.write_phase.new.device)
    (g.D.Sectors.may_leave c.write_phase.new.device)
    (c.in_ok-write_phase.ensures.written honest) (c.in_ok-write_phase.ensures.durable honest) e left)

pub returns-clause-turned : goal.returns-clause-turned
returns-clause-turned g c s k new x parts d honest only altered opens bank behind turns =
    let mid = c.write_phase.ensures.honest.1 honest in
    turned_to s k new d x parts opens bank behind c.args.root.now c.encode.result c.encode.ensures.says c.encode.ensures.own (pairs c.args.writes.now) turns
    (g.D.Sectors.seen c.args.device.now) altered (g.D.Sectors.seen c.write_phase.new.device) (g.D.Sectors.seen c.write_phase-2.new.device)
    (c.in_ok-write_phase.ensures.written honest) (c.in_ok-write_phase-2.ensures.written mid)
