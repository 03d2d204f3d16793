use Rattle.std.proofs.Common.{ℕ, inl, Ok, None}
use Rattle.std.specs.Io.KnownBytes.{Appends}
use Rattle.dns_configuration.specs.Faults.{line}
use Rattle.dns_configuration.proofs.Called.{ended_as}
use Rattle.dns_devices.proofs.Told.{device_told}
use Rattle.dns_commands.specs.Frame.{run_end}
use Rattle.dns_commands.specs.DumpAt.{PickingEnds, unfound_text}
use Rattle.dns_commands.proofs.DumpedAt.{not_picked, picked, picking_failed, tried_in_vain, unfound, unfound_told}
use Rattle.dns_commands.proofs.commands.dump_at.show_at.Goals as goal

pub returns-in-Err : goal.returns-in-Err
returns-in-Err g c =
    let calls = c.in-Err.ensures.0 in
    let why = c.in-Err.ensures.2 in
    let own = c.args.own.now in
    let serial = c.args.serial in
    let fault = c.in-Err.fault in
    let out = g.W.Write.contents c.args.run.now.out in
    let err = g.E.Write.contents c.args.run.now.err in
    let err_after = g.E.Write.contents c.tell_device.new.err in
    let ends : ℕ → Type 0 = λ status. PickingEnds g.D.Sectors serial own (run_end calls c.args.run.now.explain out out err err_after status) in
    let failed = picking_failed g.D.Sectors calls own serial c.args.run.now.explain out out err err_after (tried_in_vain g.D.Sectors calls own serial fault why) in (
      calls,
      c.in-Err.ensures.1,
      ended_as ends c.tell_device.result failed
          (device_told ends c.deref.result.now fault c.args.run.now.explain err err_after c.tell_device.result c.tell_device.ensures failed
          (not_picked g.D.Sectors calls own serial c.args.run.now.explain out err err_after c.deref.result.now fault c.deref.ensures why)),
    )

pub returns-in-Ok-None : goal.returns-in-Ok-None
returns-in-Ok-None g c =
    let found = rw c.in-Ok-None.field-0-is at c.in-Ok-None.ensures in
    let calls = found.0 in
    let is = found.2 in
    let own = c.args.own.now in
    let serial = c.args.serial in
    let out = g.W.Write.contents c.args.run.now.out in
    let err = g.E.Write.contents c.args.run.now.err in
    let err_after = g.E.Write.contents c.tell_unfound.new.err in
    let ends : ℕ → Type 0 = λ status. PickingEnds g.D.Sectors serial own (run_end calls c.args.run.now.explain out out err err_after status) in
    let failed = picking_failed g.D.Sectors calls own serial c.args.run.now.explain out out err err_after (inl (Ok None, is)) in (
      calls,
      found.1,
      ended_as ends c.tell_unfound.result failed
          (unfound_told ends c.tell_unfound.result (Appends err err_after (line (unfound_text serial c.args.run.now.explain))) c.tell_unfound.ensures
          (unfound g.D.Sectors calls own serial c.args.run.now.explain out err err_after is)),
    )

pub returns-in_ok-print_zone-in-Ok-Some : goal.returns-in_ok-print_zone-in-Ok-Some
returns-in_ok-print_zone-in-Ok-Some g c =
    let found = rw c.in-Ok-Some.field-0-is at c.in-Ok-Some.ensures in
    (found.0, found.1, picked g.D.Sectors found.0 c.args.own.now c.args.serial c.args.run.now.explain _ _ _ c.in-Ok-Some.zone found.2 c.in_ok-print_zone-in-Ok-Some.ensures.printed)
