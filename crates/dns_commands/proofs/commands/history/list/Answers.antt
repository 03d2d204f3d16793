use Rattle.std.proofs.Common.{◌-◌, ◌++◌, ◌∷◌, [], ℕ, length, take, drop, inl, inr}
use Rattle.dns_store.specs.Opens.{fresh}
use Rattle.dns_store.specs.Versions.{opened_again}
use Rattle.dns_configuration.proofs.Called.{called_on, ended_as}
use Rattle.dns_devices.specs.DeviceCalls.{Closed}
use Rattle.dns_devices.specs.Stores.{own_shape}
use Rattle.dns_devices.proofs.Told.{device_told}
use Rattle.dns_commands.specs.Frame.{run_end}
use Rattle.dns_commands.specs.History.{IsHistoryOf, ShowsHistory, ListingEnds, history_of}
use Rattle.dns_commands.proofs.Historied.{history_kept, listed, listing_failed, not_listed, rest_of, seen_as, written_in_vain}
use Rattle.dns_commands.proofs.commands.history.list.Goals as goal

pub returns-in-Err : goal.returns-in-Err
returns-in-Err g c =
    let calls = c.in-Err.ensures.0 in
    let why = c.in-Err.ensures.2 in
    let own = c.args.own.now in
    let w = c.args.with_records in
    let fault = c.in-Err.fault in
    let out = g.W.Write.contents c.args.run.now.out in
    let err = g.E.Write.contents c.args.run.now.err in
    let err_after = g.E.Write.contents c.tell_device.new.err in
    let ends : ℕ → Type 0 = λ status. ListingEnds g.D.Sectors w own (run_end calls c.args.run.now.explain out out err err_after status) in
    let failed = listing_failed g.D.Sectors calls own w c.args.run.now.explain out out err err_after (inr (fault, why)) in (
      calls,
      c.in-Err.ensures.1,
      ended_as ends c.tell_device.result failed
          (device_told ends c.deref-in-Err.result.now fault c.args.run.now.explain err err_after c.tell_device.result c.tell_device.ensures failed
          (not_listed g.D.Sectors calls own w c.args.run.now.explain out err err_after c.deref-in-Err.result.now fault c.deref-in-Err.ensures why)),
    )

pub returns-in_ok-printed-in-Ok : goal.returns-in_ok-printed-in-Ok
returns-in_ok-printed-in-Ok g c =
    let own = c.args.own.now in
    let kept = c.changes-kept.result.now in
    let first = c.first_journalled.result in
    let changes = take (length kept - first) (drop first kept) in
    let base = c.saturating_sub-base.result in
    let serial = c.first_serial-serial.result in
    let h = history_of base serial changes in
    let opened = c.in-Ok.ensures.0 in
    let after = c.into_device.result in
    let path = c.deref.result.now in
    let calls = opened ++ Closed path after ∷ [] in
    let seen : ShowsHistory g.D.Sectors calls own h = seen_as g.D.Sectors opened own c.in-Ok.store c.in-Ok.newest after path (IsHistoryOf h) c.in-Ok.ensures.2 c.into_device.ensures c.deref.ensures
    (λ o content opening taken.
    (let k = fresh (own_shape own) (opened_again o) in
    history_kept (own_shape own) o content c.newest.result base serial first c.in-Ok.newest kept changes opening (c.newest.ensures k taken.keeps_them) (c.changes-kept.ensures k taken.keeps_them) taken.newest_is
    c.first_journalled.ensures.inside c.first_journalled.ensures.first (rest_of first kept) c.first_serial-serial.ensures c.saturating_sub-base.ensures)) in
    (calls, called_on _ _ _ opened (Closed path after ∷ []) c.in-Ok.ensures.1 c.close.ensures, listed g.D.Sectors calls own c.args.with_records c.args.run.now.explain _ _ _ h seen c.in_ok-printed-in-Ok.ensures)

pub returns-in_err-printed-in-Ok : goal.returns-in_err-printed-in-Ok
returns-in_err-printed-in-Ok g c =
    let own = c.args.own.now in
    let w = c.args.with_records in
    let kept = c.changes-kept.result.now in
    let first = c.first_journalled.result in
    let changes = take (length kept - first) (drop first kept) in
    let base = c.saturating_sub-base.result in
    let serial = c.first_serial-serial.result in
    let h = history_of base serial changes in
    let opened = c.in-Ok.ensures.0 in
    let after = c.into_device.result in
    let path = c.deref.result.now in
    let calls = opened ++ Closed path after ∷ [] in
    let seen : ShowsHistory g.D.Sectors calls own h = seen_as g.D.Sectors opened own c.in-Ok.store c.in-Ok.newest after path (IsHistoryOf h) c.in-Ok.ensures.2 c.into_device.ensures c.deref.ensures
    (λ o content opening taken.
    (let k = fresh (own_shape own) (opened_again o) in
    history_kept (own_shape own) o content c.newest.result base serial first c.in-Ok.newest kept changes opening (c.newest.ensures k taken.keeps_them) (c.changes-kept.ensures k taken.keeps_them) taken.newest_is
    c.first_journalled.ensures.inside c.first_journalled.ensures.first (rest_of first kept) c.first_serial-serial.ensures c.saturating_sub-base.ensures)) in
    let out = g.W.Write.contents c.args.run.now.out in
    let out_after = g.W.Write.contents c.print_history-printed.new.out in
    let err = g.E.Write.contents c.args.run.now.err in
    let ends : ℕ → Type 0 = λ status. ListingEnds g.D.Sectors w own (run_end calls c.args.run.now.explain out out_after err err status) in
    (calls, called_on _ _ _ opened (Closed path after ∷ []) c.in-Ok.ensures.1 c.close.ensures, written_in_vain ends c.from_residual.result c.from_residual.ensures.0 (listing_failed g.D.Sectors calls own w c.args.run.now.explain out out_after err err (inl (h, seen))))
