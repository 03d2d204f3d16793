use Rattle.std.proofs.Common.{ℕ, [], inl, inr, refl}
use Rattle.dns_configuration.proofs.Told.{fault_told}
use Rattle.dns_configuration.proofs.Called.{ended_as, no_calls}
use Rattle.dns_devices.proofs.Told.{device_told}
use Rattle.dns_commands.specs.Frame.{run_end}
use Rattle.dns_commands.specs.LoadRun.{LoadingEnds}
use Rattle.dns_commands.proofs.LoadEnded.{file_refused, loading_failed, records_refused, tried_in_vain}
use Rattle.dns_commands.proofs.commands.load.load_own.Goals as goal

pub returns-in-Err : goal.returns-in-Err
returns-in-Err g c =
    let own = c.args.own.now in
    let files = c.args.files.now in
    let out = g.W.Write.contents c.args.run.now.out in
    let err = g.E.Write.contents c.args.run.now.err in
    let err_after = g.E.Write.contents c.tell.new.err in
    let ends : ℕ → Type 0 = λ status. LoadingEnds g.D.Sectors files own (run_end [] c.args.run.now.explain out out err err_after status) in
    let failed = loading_failed g.D.Sectors [] own files c.args.run.now.explain out out err err_after (inl refl) in
    no_calls _ _ (ended_as ends c.tell.result failed (fault_told ends c.deref.result.now c.in-Err.fault err err_after c.tell.result c.tell.ensures failed
    (λ is said. file_refused g.D.Sectors own files c.args.run.now.explain out err err_after c.deref.result.now c.in-Err.fault c.deref.ensures c.in-Err.ensures is said)))

pub returns : goal.returns
returns g c =
    let calls = c.in-Err-load_zone.ensures.0 in
    let why = c.in-Err-load_zone.ensures.2 in
    let own = c.args.own.now in
    let files = c.args.files.now in
    let zone = c.in-Ok.zone in
    let fault = c.in-Err-load_zone.fault in
    let path = c.path_blamed.result.now in
    let out = g.W.Write.contents c.args.run.now.out in
    let err = g.E.Write.contents c.args.run.now.err in
    let err_after = g.E.Write.contents c.tell_device.new.err in
    let ends : ℕ → Type 0 = λ status. LoadingEnds g.D.Sectors files own (run_end calls c.args.run.now.explain out out err err_after status) in
    let tried = inr (zone, c.in-Ok.ensures, tried_in_vain g.D.Sectors calls own zone.records fault why) in
    let failed = loading_failed g.D.Sectors calls own files c.args.run.now.explain out out err err_after tried in (
      calls,
      c.in-Err-load_zone.ensures.1,
      ended_as ends c.tell_device.result failed
          (device_told ends path fault c.args.run.now.explain err err_after c.tell_device.result c.tell_device.ensures failed
          (λ status said. records_refused g.D.Sectors calls own files c.args.run.now.explain out err err_after path zone fault c.path_blamed.ensures c.in-Ok.ensures why status said)),
    )
