use Rattle.std.proofs.Common.{ℕ, inl, inr, refl}
use Rattle.dns_configuration.proofs.Called.{called_on, ended_as}
use Rattle.dns_devices.proofs.Told.{device_told}
use Rattle.dns_commands.specs.Frame.{run_end}
use Rattle.dns_commands.specs.Init.{MakingEnds}
use Rattle.dns_commands.proofs.Made.{making_done, making_failed, making_refused}
use Rattle.dns_commands.proofs.commands.init.make_all.Goals as goal

pub returns-in-Err : goal.returns-in-Err
returns-in-Err g c =
    let calls = c.in-Err.ensures.0 in
    let undone = c.in-Err.ensures.2 in
    let settings = c.args.settings.now in
    let zones = c.args.zones.now in
    let path = c.in-Err.path.now in
    let fault = c.in-Err.fault in
    let out = g.W.Write.contents c.args.run.now.out in
    let err = g.E.Write.contents c.args.run.now.err in
    let err_after = g.E.Write.contents c.tell_device.new.err in
    let ends : ℕ → Type 0 = λ status. MakingEnds g.D.Sectors settings zones (run_end calls c.args.run.now.explain out out err err_after status) in
    let failed = making_failed g.D.Sectors calls settings zones c.args.run.now.explain out out err err_after (inl (path, fault, undone)) in (
      calls,
      c.in-Err.ensures.1,
      ended_as ends c.tell_device.result failed
          (device_told ends path fault c.args.run.now.explain err err_after c.tell_device.result c.tell_device.ensures failed
          (making_refused g.D.Sectors calls settings zones c.args.run.now.explain out err err_after path fault undone)),
    )

pub returns-in-Ok : goal.returns-in-Ok
returns-in-Ok g c =
    (_, c.in_default.ensures.1, making_done g.D.Sectors _ c.args.settings.now c.args.zones.now c.args.run.now.explain _ _ _ c.in_default.ensures.2 c.in-Ok.ensures)

pub returns-in-Err-print_all : goal.returns-in-Err-print_all
returns-in-Err-print_all g c =
    (_, called_on _ _ _ _ _ c.in_default.ensures.1 c.remove_all.ensures, making_failed g.D.Sectors _ c.args.settings.now c.args.zones.now c.args.run.now.explain _ _ _ _ (inr (_, c.in_default.ensures.2, refl)))
