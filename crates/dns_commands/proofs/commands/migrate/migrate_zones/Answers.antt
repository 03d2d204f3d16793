use Rattle.std.proofs.Common.{ℕ, Bool, suc, List, [], ◌++◌, Option, IfOk, inl, inr, refl, add-one, ap, subst, ◌∙◌, arith}
use Rattle.std.specs.String.{string_bytes}
use Rattle.std.proofs.KnownBytes.{Appends-nil, Appends-trans}
use Rattle.dns_configuration.specs.declared.configuration.ZoneSettings.{ZoneSettings}
use Rattle.dns_devices.specs.DeviceFaults.{IsDeviceTold}
use Rattle.dns_configuration.proofs.Called.{called_on, ended_as, nothing_called}
use Rattle.dns_devices.proofs.Told.{device_told, failed_as}
use Rattle.dns_commands.specs.Frame.{run_end}
use Rattle.dns_commands.specs.Migrate.{IsMigratedAs, IsNotMigrated, MigratingEnds, migrated}
use Rattle.dns_commands.proofs.Migrated.{migrated_more, migrating_done, migrating_failed, migrating_refused, stops_at}
use Rattle.dns_commands.proofs.commands.migrate.migrate_zones.Goals as goal

pub loop-own-init : goal.loop-own-init
loop-own-init g c = record { made = ([], nothing_called _, ([], (refl, refl), Appends-nil (g.W.Write.contents c.args.run.now.out))); told = refl; explain = refl }

pub loop-own-preserved : goal.loop-own-preserved
loop-own-preserved g c =
    let own = c.own-item.result in
    let n = c.loop-own.own-index in
    let answer = c.in-Ok.answer in
    let before = c.loop-own.invariant.made in
    let next = c.in-Ok.ensures.0 in
    let is = subst (λ (z : ZoneSettings). IsMigratedAs g.D.Sectors next z answer) c.own-item.is c.in-Ok.ensures.2 in
    let line = rw (ap (λ (z : ZoneSettings). migrated z answer) c.own-item.is) at c.in_ok-print_migrated-in-Ok.ensures in
    record {
      made = rw add-one (before.0 ++ next, called_on _ _ _ _ _ before.1 c.in-Ok.ensures.1, (_, migrated_more g.D.Sectors before.0 next c.args.settings.now n own answer before.2.0 (omega arith) before.2.1 is, Appends-trans _ _ _ _ _ before.2.2 line));
      told = c.loop-own.invariant.told;
      explain = c.loop-own.invariant.explain;
    }

pub returns-in_err-print_migrated-in-Ok : goal.returns-in_err-print_migrated-in-Ok
returns-in_err-print_migrated-in-Ok g c =
    let own = c.own-item.result in
    let n = c.loop-own.own-index in
    let before = c.loop-own.invariant.made in
    let next = c.in-Ok.ensures.0 in
    let is = subst (λ (z : ZoneSettings). IsMigratedAs g.D.Sectors next z c.in-Ok.answer) c.own-item.is c.in-Ok.ensures.2 in (
      _,
      called_on _ _ _ _ _ before.1 c.in-Ok.ensures.1,
      failed_as (λ (status : ℕ). MigratingEnds g.D.Sectors c.args.settings.now (run_end (before.0 ++ next) c.args.run.now.explain (g.W.Write.contents c.args.run.now.out) (g.W.Write.contents c.print_migrated.new.out) (g.E.Write.contents c.args.run.now.err) (g.E.Write.contents c.loop-own.run.err) status)) c.from_residual.result c.from_residual.ensures.0
          (migrating_failed g.D.Sectors _ c.args.settings.now c.args.run.now.explain _ _ _ _ (inl (suc n, _, migrated_more g.D.Sectors before.0 next c.args.settings.now n own c.in-Ok.answer before.2.0 (omega arith) before.2.1 is))),
    )

pub returns-in-Err : goal.returns-in-Err
returns-in-Err g c =
    let own = c.own-item.result in
    let n = c.loop-own.own-index in
    let settings = c.args.settings.now in
    let fault = c.in-Err.fault in
    let path = c.deref.result.now in
    let before = c.loop-own.invariant.made in
    let next = c.in-Err.ensures.0 in
    let calls = before.0 ++ next in
    let out = g.W.Write.contents c.args.run.now.out in
    let out_after = g.W.Write.contents c.loop-own.run.out in
    let named = c.deref.ensures ∙ ap (λ (z : ZoneSettings). string_bytes z.device) c.own-item.is in
    let why = subst (λ (z : ZoneSettings). IsNotMigrated g.D.Sectors next z fault) c.own-item.is c.in-Err.ensures.2 in
    let stops = stops_at g.D.Sectors before.0 next settings n own path fault before.2.0 (omega arith) before.2.1 named why in
    let err = g.E.Write.contents c.args.run.now.err in
    let err_after = g.E.Write.contents c.tell_device.new.err in
    let explained = subst (λ (b : Bool). IfOk c.tell_device.result (λ (status : ℕ). IsDeviceTold path fault b (g.E.Write.contents c.loop-own.run.err) err_after status)) c.loop-own.invariant.explain c.tell_device.ensures in
    let told = subst (λ (e : Option (List ℕ)). IfOk c.tell_device.result (λ (status : ℕ). IsDeviceTold path fault c.args.run.now.explain e err_after status)) c.loop-own.invariant.told explained in
    let ends : ℕ → Type 0 = λ status. MigratingEnds g.D.Sectors settings (run_end calls c.args.run.now.explain out out_after err err_after status) in
    let failed = migrating_failed g.D.Sectors calls settings c.args.run.now.explain out out_after err err_after (inr (path, fault, before.2.0, stops)) in (
      calls,
      called_on _ _ _ _ _ before.1 c.in-Err.ensures.1,
      ended_as ends c.tell_device.result failed
          (device_told ends path fault c.args.run.now.explain err err_after c.tell_device.result told failed
          (migrating_refused g.D.Sectors calls settings c.args.run.now.explain out out_after err err_after path fault before.2.0 stops before.2.2)),
    )

pub returns : goal.returns
returns g c =
    let before = c.loop-own.invariant.made in
    (before.0, before.1, rw c.loop-own.invariant.told (migrating_done g.D.Sectors before.0 c.args.settings.now c.args.run.now.explain _ _ _ c.loop-own.own-index before.2.0 (omega arith) before.2.1 before.2.2))
