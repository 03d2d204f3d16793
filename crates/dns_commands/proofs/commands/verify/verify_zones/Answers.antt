use Rattle.std.proofs.Common.{◌≡◌, ℕ, max, Bool, get_or, [], ◌++◌, refl, ◌∙◌, subst, add-one, arith}
use Rattle.std.proofs.lemmas.Bool.Decides.{nat_tests}
use Rattle.std.proofs.lemmas.Grind.{common_steps}
use Rattle.std.proofs.KnownBytes.{Appends-nil}
use Rattle.dns_configuration.specs.declared.configuration.ZoneSettings.{ZoneSettings}
use Rattle.dns_configuration.proofs.Called.{called_on, nothing_called}
use Rattle.dns_devices.proofs.Told.{failed_as}
use Rattle.dns_commands.specs.Frame.{run_end}
use Rattle.dns_commands.specs.Verify.{IsFinding, IsFindingTold, VerifyingEnds}
use Rattle.dns_commands.proofs.Verified.{all_told, one_more, stopped_at}
use Rattle.dns_commands.proofs.commands.verify.verify_zones.Goals as goal

pub loop-own-init : goal.loop-own-init
loop-own-init g c = record {
  made = ([], nothing_called _, ([], refl, Appends-nil (g.W.Write.contents c.args.run.now.out), Appends-nil (g.E.Write.contents c.args.run.now.err), refl));
  explain = refl;
}

pub loop-own-preserved : goal.loop-own-preserved
loop-own-preserved g c =
    let own = c.own-item.result in
    let n = c.loop-own.own-index in
    let before = c.loop-own.invariant.made in
    let explain = c.args.run.now.explain in
    let one = c.in_ok-status.ensures.told in
    let is = subst (λ (z : ZoneSettings). IsFinding g.D.Sectors c.args.every_sector one.0 z one.2.0) c.own-item.is one.2.1 in
    let told = subst (λ (b : Bool). IsFindingTold (get_or c.args.settings.now n own) one.2.0 (run_end one.0 b (g.W.Write.contents c.loop-own.run.out) (g.W.Write.contents c.verify_one.new.run.out) (g.E.Write.contents c.loop-own.run.err) (g.E.Write.contents c.verify_one.new.run.err) c.in_ok-status.status)) c.loop-own.invariant.explain
    (subst (λ (z : ZoneSettings). IsFindingTold z one.2.0 (run_end one.0 c.loop-own.run.explain (g.W.Write.contents c.loop-own.run.out) (g.W.Write.contents c.verify_one.new.run.out) (g.E.Write.contents c.loop-own.run.err) (g.E.Write.contents c.verify_one.new.run.err) c.in_ok-status.status)) c.own-item.is one.2.2) in
    let more = one_more g.D.Sectors c.args.every_sector before.0 one.0 c.args.settings.now n own before.2.0 one.2.0 explain _ _ _ _ _ _ c.loop-own.worst c.in_ok-status.status (omega arith) before.2.1 before.2.2 before.2.3 before.2.4 is told in
    let largest : c.max-worst.result ≡ max c.loop-own.worst c.in_ok-status.status = grind (arith, nat_tests, common_steps, c.max-worst.ensures) in
    record {
      made = rw add-one (before.0 ++ one.0, called_on _ _ _ _ _ before.1 one.1, (more.0, more.1, more.2, more.3, largest ∙ more.4));
      explain = c.in_ok-status.ensures.explain ∙ c.loop-own.invariant.explain;
    }

pub returns-in_err-status : goal.returns-in_err-status
returns-in_err-status g c =
    let own = c.own-item.result in
    let n = c.loop-own.own-index in
    let settings = c.args.settings.now in
    let before = c.loop-own.invariant.made in
    let one = c.in_err-status.ensures.told in
    let is = subst (λ (z : ZoneSettings). IsFinding g.D.Sectors c.args.every_sector one.0 z one.2.0) c.own-item.is one.2.1 in (
      before.0 ++ one.0,
      called_on _ _ _ _ _ before.1 one.1,
      failed_as (λ (status : ℕ). VerifyingEnds g.D.Sectors c.args.every_sector settings (run_end (before.0 ++ one.0) c.args.run.now.explain (g.W.Write.contents c.args.run.now.out) (g.W.Write.contents c.verify_one.new.run.out) (g.E.Write.contents c.args.run.now.err) (g.E.Write.contents c.verify_one.new.run.err) status)) c.from_residual.result c.from_residual.ensures.0
          (stopped_at g.D.Sectors c.args.every_sector before.0 one.0 settings n own before.2.0 one.2.0 c.args.run.now.explain _ _ _ _ (omega arith) before.2.1 is),
    )

pub returns : goal.returns
returns g c =
    let before = c.loop-own.invariant.made in
    (before.0, before.1, all_told g.D.Sectors c.args.every_sector before.0 c.args.settings.now before.2.0 c.args.run.now.explain _ _ _ _ c.loop-own.worst c.loop-own.own-index (omega arith) before.2.1 before.2.2 before.2.3 before.2.4)
