use Rattle.std.proofs.Common.{ℕ}
use Rattle.dns_configuration.proofs.Called.{ended_as}
use Rattle.dns_devices.proofs.Told.{device_told}
use Rattle.dns_commands.specs.Frame.{run_end}
use Rattle.dns_commands.specs.Diff.{DiffingEnds}
use Rattle.dns_commands.proofs.Differed.{diffed, diffing_failed, not_diffed, tried_in_vain}
use Rattle.dns_commands.proofs.commands.diff.show.Goals as goal

pub returns-in-Err : goal.returns-in-Err
returns-in-Err g c =
    let calls = c.in-Err.ensures.0 in
    let why = c.in-Err.ensures.2 in
    let own = c.args.own.now in
    let from = c.args.from in
    let to = c.args.to in
    let fault = c.in-Err.fault in
    let out = g.W.Write.contents c.args.run.now.out in
    let err = g.E.Write.contents c.args.run.now.err in
    let err_after = g.E.Write.contents c.tell_device.new.err in
    let ends : ℕ → Type 0 = λ status. DiffingEnds g.D.Sectors from to c.args.as_update own (run_end calls c.args.run.now.explain out out err err_after status) in
    let failed = diffing_failed g.D.Sectors calls own from to c.args.as_update c.args.run.now.explain out out err err_after (tried_in_vain g.D.Sectors calls own from to fault why) in (
      calls,
      c.in-Err.ensures.1,
      ended_as ends c.tell_device.result failed
          (device_told ends c.deref.result.now fault c.args.run.now.explain err err_after c.tell_device.result c.tell_device.ensures failed
          (not_diffed g.D.Sectors calls own from to c.args.as_update c.args.run.now.explain out err err_after c.deref.result.now fault c.deref.ensures why)),
    )

pub returns-in_ok-print_difference-in-Ok-Ok : goal.returns-in_ok-print_difference-in-Ok-Ok
returns-in_ok-print_difference-in-Ok-Ok g c =
    let found = rw c.in-Ok-Ok.field-0-is at c.in-Ok-Ok.ensures in
    (found.0, found.1, diffed g.D.Sectors found.0 c.args.own.now c.args.from c.args.to c.args.as_update c.args.run.now.explain _ _ _ c.in-Ok-Ok.change found.2 c.in_ok-print_difference-in-Ok-Ok.ensures)
