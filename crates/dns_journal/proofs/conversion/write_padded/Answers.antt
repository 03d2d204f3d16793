use Rattle.std.proofs.Common.{◌-◌, ◌∙◌, sym, ap}
use Rattle.std.proofs.lemmas.Result.{on_ok_weaker}
use Rattle.dns_sectors.specs.Device.{Content}
use Rattle.dns_sectors.specs.Crash.{CrashOf, after_writes}
use Rattle.dns_sectors.specs.Phase.{pairs, zeros_from}
use Rattle.dns_sectors.proofs.Moments.{joined, weaker}
use Rattle.dns_journal.specs.Converting.{with_zeros}
use Rattle.dns_journal.proofs.Places.{applied-append}
use Rattle.dns_journal.proofs.Wholes.{crash_front, crash_on}
use Rattle.dns_journal.proofs.conversion.write_padded.Goals as goal

pub returns-in_err-write_all-clause-crash : goal.returns-in_err-write_all-clause-crash
returns-in_err-write_all-clause-crash g c honest x left =
    crash_front (g.D.Sectors.may_leave c.args.device.now) (pairs c.args.writes.now) (zeros_from c.args.from (c.args.until - c.args.from)) x (c.write_all.ensures.crash honest x left)

pub returns-in_err-write_all-clause-any_moment : goal.returns-in_err-write_all-clause-any_moment
returns-in_err-write_all-clause-any_moment g c honest =
    weaker g.D.Sectors.moment g.D.Sectors.left_since c.args.device.now c.write_all.new.device _ (CrashOf (g.D.Sectors.may_leave c.args.device.now) (with_zeros c.args.writes.now c.args.from c.args.until)) (c.write_all.ensures.any_moment honest)
    (crash_front (g.D.Sectors.may_leave c.args.device.now) (pairs c.args.writes.now) (zeros_from c.args.from (c.args.until - c.args.from)))

pub returns-clause-written : goal.returns-clause-written
returns-clause-written g c honest =
    on_ok_weaker c.write_zeros.result
    (λ written. written ∙ ap (λ (d : Content). after_writes (zeros_from c.args.from (c.args.until - c.args.from)) d) (c.in_ok-write_all.ensures.written honest)
    ∙ sym (applied-append (pairs c.args.writes.now) (zeros_from c.args.from (c.args.until - c.args.from)) (g.D.Sectors.seen c.args.device.now)))
    (c.write_zeros.ensures.written (c.write_all.ensures.honest.1 honest))

pub returns-clause-crash : goal.returns-clause-crash
returns-clause-crash g c honest x left =
    crash_on (g.D.Sectors.may_leave c.args.device.now) (g.D.Sectors.may_leave c.write_all.new.device) (pairs c.args.writes.now) (zeros_from c.args.from (c.args.until - c.args.from)) (c.write_all.ensures.crash honest) x
    (c.write_zeros.ensures.crash (c.write_all.ensures.honest.1 honest) x left)

pub returns-clause-any_moment : goal.returns-clause-any_moment
returns-clause-any_moment g c honest =
    let first = weaker g.D.Sectors.moment g.D.Sectors.left_since c.args.device.now c.write_all.new.device _ (CrashOf (g.D.Sectors.may_leave c.args.device.now) (with_zeros c.args.writes.now c.args.from c.args.until)) (c.write_all.ensures.any_moment honest)
    (crash_front (g.D.Sectors.may_leave c.args.device.now) (pairs c.args.writes.now) (zeros_from c.args.from (c.args.until - c.args.from))) in
    joined g.D.Sectors.moment g.D.Sectors.left_since c.args.device.now c.write_all.new.device c.write_zeros.new.device (CrashOf (g.D.Sectors.may_leave c.args.device.now) (with_zeros c.args.writes.now c.args.from c.args.until)) _ first
    (c.write_zeros.ensures.any_moment (c.write_all.ensures.honest.1 honest))
    (crash_on (g.D.Sectors.may_leave c.args.device.now) (g.D.Sectors.may_leave c.write_all.new.device) (pairs c.args.writes.now) (zeros_from c.args.from (c.args.until - c.args.from)) (c.write_all.ensures.crash honest))
