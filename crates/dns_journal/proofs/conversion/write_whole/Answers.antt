use Rattle.std.proofs.Common.{◌+◌, ◌++◌, ◌∙◌, sym, ap, length}
use Rattle.std.proofs.lemmas.Result.{on_ok_weaker}
use Rattle.dns_sectors.specs.Device.{Content}
use Rattle.dns_sectors.specs.Crash.{CrashOf, after_writes}
use Rattle.dns_sectors.proofs.Moments.{goes_on, joined, weaker}
use Rattle.dns_journal.specs.Converting.{with_zeros}
use Rattle.dns_journal.proofs.Places.{applied-append}
use Rattle.dns_journal.proofs.Wholes.{crash_front, crash_on}
use Rattle.dns_journal.proofs.conversion.write_whole.Goals as goal

pub returns-in_err-write_padded-clause-any_moment : goal.returns-in_err-write_padded-clause-any_moment
returns-in_err-write_padded-clause-any_moment g c honest =
    let one = with_zeros c.args.parts.now (c.args.places.first + length c.args.parts.now) c.args.places.journal in
    let two = with_zeros c.args.entries.now (c.args.places.journal + length c.args.entries.now) c.args.places.until in
    weaker g.D.Sectors.moment g.D.Sectors.left_since c.args.device.now c.write_padded.new.device _ (CrashOf (g.D.Sectors.may_leave c.args.device.now) (one ++ two)) (c.write_padded.ensures.any_moment honest)
    (crash_front (g.D.Sectors.may_leave c.args.device.now) one two)

pub returns-in_err-write_padded-2-clause-any_moment : goal.returns-in_err-write_padded-2-clause-any_moment
returns-in_err-write_padded-2-clause-any_moment g c honest =
    let one = with_zeros c.args.parts.now (c.args.places.first + length c.args.parts.now) c.args.places.journal in
    let two = with_zeros c.args.entries.now (c.args.places.journal + length c.args.entries.now) c.args.places.until in
    let first = weaker g.D.Sectors.moment g.D.Sectors.left_since c.args.device.now c.write_padded.new.device _ (CrashOf (g.D.Sectors.may_leave c.args.device.now) (one ++ two)) (c.write_padded.ensures.any_moment honest)
    (crash_front (g.D.Sectors.may_leave c.args.device.now) one two) in
    joined g.D.Sectors.moment g.D.Sectors.left_since c.args.device.now c.write_padded.new.device c.write_padded-2.new.device (CrashOf (g.D.Sectors.may_leave c.args.device.now) (one ++ two)) _ first
    (c.write_padded-2.ensures.any_moment (c.write_padded.ensures.honest.1 honest))
    (crash_on (g.D.Sectors.may_leave c.args.device.now) (g.D.Sectors.may_leave c.write_padded.new.device) one two (c.write_padded.ensures.crash honest))

pub returns-clause-written : goal.returns-clause-written
returns-clause-written g c honest =
    let one = with_zeros c.args.parts.now (c.args.places.first + length c.args.parts.now) c.args.places.journal in
    let two = with_zeros c.args.entries.now (c.args.places.journal + length c.args.entries.now) c.args.places.until in
    let mid = c.write_padded.ensures.honest.1 honest in
    let written = c.sync.ensures.seen (c.write_padded-2.ensures.honest.1 mid) ∙ c.in_ok-write_padded-2.ensures.written mid ∙ ap (λ (d : Content). after_writes two d) (c.in_ok-write_padded.ensures.written honest) ∙ sym (applied-append one two (g.D.Sectors.seen c.args.device.now)) in
    on_ok_weaker c.sync.result (λ only. written) (c.sync.ensures.durable (c.write_padded-2.ensures.honest.1 mid))

pub returns-clause-any_moment : goal.returns-clause-any_moment
returns-clause-any_moment g c honest =
    let one = with_zeros c.args.parts.now (c.args.places.first + length c.args.parts.now) c.args.places.journal in
    let two = with_zeros c.args.entries.now (c.args.places.journal + length c.args.entries.now) c.args.places.until in
    let mid = c.write_padded.ensures.honest.1 honest in
    let last = c.write_padded-2.ensures.honest.1 mid in
    let first = weaker g.D.Sectors.moment g.D.Sectors.left_since c.args.device.now c.write_padded.new.device _ (CrashOf (g.D.Sectors.may_leave c.args.device.now) (one ++ two)) (c.write_padded.ensures.any_moment honest)
    (crash_front (g.D.Sectors.may_leave c.args.device.now) one two) in
    let on = crash_on (g.D.Sectors.may_leave c.args.device.now) (g.D.Sectors.may_leave c.write_padded.new.device) one two (c.write_padded.ensures.crash honest) in
    let second = joined g.D.Sectors.moment g.D.Sectors.left_since c.args.device.now c.write_padded.new.device c.write_padded-2.new.device (CrashOf (g.D.Sectors.may_leave c.args.device.now) (one ++ two)) _ first
    (c.write_padded-2.ensures.any_moment mid) on in
    goes_on g.D.Sectors.moment g.D.Sectors.left_since c.args.device.now c.write_padded-2.new.device c.sync.new.self (CrashOf (g.D.Sectors.may_leave c.args.device.now) (one ++ two)) (g.D.Sectors.may_leave c.sync.new.self) second
    (c.sync.ensures.time last) (λ x left. on x (c.write_padded-2.ensures.crash mid x (c.sync.ensures.crash last x left)))
