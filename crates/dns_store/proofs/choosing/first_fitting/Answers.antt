use Rattle.std.proofs.Common.{◌≡◌, ◌+◌, suc, length, ◌∙◌, ap, subst, arith}
use Rattle.dns_store.specs.Choosing.{version_from, IsFirstFitting}
use Rattle.dns_store.specs.Plain.{octets_of}
use Rattle.dns_store.proofs.Chosen.{step_at, led_length, zone_at, octets_next, fits_first, fits_next}
use Rattle.dns_store.proofs.choosing.first_fitting.Goals as goal

pub loop-i-init : goal.loop-i-init
loop-i-init g c = λ vs led zones. (c.snapshot_len-octets.ensures, fits_first c.args.room c.args.base.now.records vs c.snapshot_len-octets.result c.after_wide-first.result c.snapshot_len-octets.ensures c.after_wide-first.ensures.wide c.after_wide-first.ensures.narrow)

pub loop-i-preserved : goal.loop-i-preserved
loop-i-preserved g c = λ vs led zones.
    let so_far = c.loop-i.invariant vs led zones in
    let base = c.args.base.now.records in
    let i = c.loop-i.i in
    let valid = c.apex-valid.ensures.valid in
    let step = step_at i base vs c.args.changes.now c.index-changes-i.result led (omega (arith, c.loop-i-test.true)) c.index-changes-i.is in
    let next : c.octets_after-octets.result ≡ octets_of (version_from base vs (suc i)) =
    octets_next c.args.base.now.apex (version_from base vs i) (version_from base vs (suc i)) c.index-changes-i.result c.loop-i.octets c.octets_after-octets.result
    (zone_at c.args.base.now.apex i base vs valid zones) (zone_at c.args.base.now.apex (suc i) base vs valid zones) step so_far.0 c.octets_after-octets.ensures in (
      next ∙ ap (λ m. octets_of (version_from base vs m)) (let e : suc i ≡ i + 1 = omega arith in e),
      fits_next c.args.room base vs i c.loop-i.first c.octets_after-octets.result c.after_wide-first-in-loop-i.result so_far.1 next c.after_wide-first-in-loop-i.ensures.wide c.after_wide-first-in-loop-i.ensures.narrow,
    )

pub returns : goal.returns
returns g c = λ vs led zones.
    let long = led_length c.args.base.now.records vs c.args.changes.now led in
    let all : c.loop-i.i ≡ length vs = omega (arith, c.loop-i-test.false, c.loop-i.auto.i-end, long) in
    subst (λ m. IsFirstFitting c.args.room c.args.base.now.records vs m c.loop-i.first) all (c.loop-i.invariant vs led zones).1
