use Rattle.std.proofs.Common.{ℕ, inr}
use Rattle.dns_configuration.proofs.Called.{ended_as}
use Rattle.dns_devices.proofs.Told.{device_told}
use Rattle.dns_commands.specs.Frame.{run_end}
use Rattle.dns_commands.specs.Dump.{ShowingEnds}
use Rattle.dns_commands.proofs.Shown.{not_shown, showing_failed}
use Rattle.dns_commands.proofs.commands.dump.show.Goals as goal

pub returns-in-Err : goal.returns-in-Err
returns-in-Err g c =
    let calls = c.in-Err.ensures.0 in
    let why = c.in-Err.ensures.2 in
    let own = c.args.own.now in
    let fault = c.in-Err.fault in
    let out = g.W.Write.contents c.args.run.now.out in
    let err = g.E.Write.contents c.args.run.now.err in
    let err_after = g.E.Write.contents c.tell_device.new.err in
    let ends : ℕ → Type 0 = λ status. ShowingEnds g.D.Sectors own (run_end calls c.args.run.now.explain out out err err_after status) in
    let failed = showing_failed g.D.Sectors calls own c.args.run.now.explain out out err err_after (inr (fault, why)) in (
      calls,
      c.in-Err.ensures.1,
      ended_as ends c.tell_device.result failed
          (device_told ends c.deref.result.now fault c.args.run.now.explain err err_after c.tell_device.result c.tell_device.ensures failed
          (not_shown g.D.Sectors calls own c.args.run.now.explain out err err_after c.deref.result.now fault c.deref.ensures why)),
    )
