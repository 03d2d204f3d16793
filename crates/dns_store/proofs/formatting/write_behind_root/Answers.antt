use Rattle.std.proofs.Common.{◌+◌, ◌<◌, length, refl, sym, ◌∙◌, ap, subst, arith}
use Rattle.dns_sectors.specs.Device.{Content}
use Rattle.dns_sectors.proofs.Moments.{started, goes_on}
use Rattle.dns_layout.specs.Sector.{sector_at}
use Rattle.dns_store.specs.Formatting.{IsLaidTo, HasBlankRoot}
use Rattle.dns_store.proofs.Making.{laid_more, root_stays, blank_stays}
use Rattle.dns_store.proofs.formatting.write_behind_root.Goals as goal

pub loop-at-init : goal.loop-at-init
loop-at-init g c = record {
  honest = (λ h. h, λ h. h);
  count = refl;
  same = refl;
  laid = λ honest index lt. absurd (omega (arith, lt));
  root = λ honest. refl;
  blank = λ honest blank left. blank left;
  any_moment = λ honest blank. started g.D.Sectors.moment g.D.Sectors.left_since c.args.device.now HasBlankRoot (λ x since. blank x (g.met.D.Sectors.only_now c.args.device.now x honest since));
}

pub returns-in_err-write-clause-any_moment : goal.returns-in_err-write-clause-any_moment
returns-in_err-write-clause-any_moment g c honest blank =
    let mid = c.loop-at.invariant.honest.1 honest in
    goes_on g.D.Sectors.moment g.D.Sectors.left_since c.args.device.now c.loop-at.device c.write.new.self HasBlankRoot (g.D.Sectors.may_leave c.write.new.self) (c.loop-at.invariant.any_moment honest blank) (c.write.ensures.time mid)
    (λ x left. blank_stays c.loop-at.at c.sector_behind.result (g.D.Sectors.may_leave c.loop-at.device) (g.D.Sectors.may_leave c.write.new.self) (omega (arith, c.loop-at.auto.at)) (c.loop-at.invariant.blank honest blank) (c.write.ensures.crash mid) x left)

pub loop-at-preserved : goal.loop-at-preserved
loop-at-preserved g c = record {
  honest = (λ h. c.loop-at.invariant.honest.0 (c.write.ensures.honest.0 h), λ h. c.write.ensures.honest.1 (c.loop-at.invariant.honest.1 h));
  count = c.write.ensures.count ∙ c.loop-at.invariant.count;
  same = c.in_ok-write.ensures.failed.quiet refl ∙ c.loop-at.invariant.same;
  laid = λ honest.
      let mid = c.loop-at.invariant.honest.1 honest in
      let inside : c.loop-at.at < length (g.D.Sectors.seen c.loop-at.device) = omega (arith, c.loop-at-test.true, c.len-at-end.ensures, c.loop-at.invariant.count, g.met.D.Sectors.all_seen c.loop-at.device mid) in
      subst (λ (d : Content). IsLaidTo c.args.octets.now (c.loop-at.at + 1) d) (sym (c.in_ok-write.ensures.written mid))
      (laid_more c.args.octets.now c.loop-at.at (g.D.Sectors.seen c.loop-at.device) c.sector_behind.result (omega (arith, c.loop-at.auto.at)) inside c.sector_behind.ensures (c.loop-at.invariant.laid honest));
  root = λ honest.
      let mid = c.loop-at.invariant.honest.1 honest in
      ap (λ (d : Content). sector_at d 0) (c.in_ok-write.ensures.written mid) ∙ root_stays c.loop-at.at (g.D.Sectors.seen c.loop-at.device) c.sector_behind.result (omega (arith, c.loop-at.auto.at)) ∙ c.loop-at.invariant.root honest;
  blank = λ honest blank x left.
      blank_stays c.loop-at.at c.sector_behind.result (g.D.Sectors.may_leave c.loop-at.device) (g.D.Sectors.may_leave c.write.new.self) (omega (arith, c.loop-at.auto.at)) (c.loop-at.invariant.blank honest blank) (c.write.ensures.crash (c.loop-at.invariant.honest.1 honest)) x left;
  any_moment = λ honest blank.
      let mid = c.loop-at.invariant.honest.1 honest in
      goes_on g.D.Sectors.moment g.D.Sectors.left_since c.args.device.now c.loop-at.device c.write.new.self HasBlankRoot (g.D.Sectors.may_leave c.write.new.self) (c.loop-at.invariant.any_moment honest blank) (c.write.ensures.time mid)
      (λ x left. blank_stays c.loop-at.at c.sector_behind.result (g.D.Sectors.may_leave c.loop-at.device) (g.D.Sectors.may_leave c.write.new.self) (omega (arith, c.loop-at.auto.at)) (c.loop-at.invariant.blank honest blank) (c.write.ensures.crash mid) x left);
}
