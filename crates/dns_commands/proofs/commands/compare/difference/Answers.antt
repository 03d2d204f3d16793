use Rattle.std.proofs.Common.{[], ◌∷◌, ◌++◌, inl, refl, sym, ap, ◌∙◌, append-nil}
use Rattle.std.specs.String.{string_bytes}
use Rattle.dns_zone.specs.Zone.{Zone}
use Rattle.dns_store.specs.Opening.{store_device}
use Rattle.dns_store.specs.Opens.{fresh}
use Rattle.dns_store.specs.Versions.{newest_after, opened_again}
use Rattle.dns_devices.specs.DeviceCalls.{Closed}
use Rattle.dns_devices.specs.Stores.{own_shape}
use Rattle.dns_configuration.proofs.Called.{called_on}
use Rattle.dns_devices.proofs.Closed.{leaves_kept}
use Rattle.dns_commands.proofs.Compared.{comparing_ends}
use Rattle.dns_commands.proofs.commands.compare.difference.Goals as goal

pub returns-in-Ok : goal.returns-in-Ok
returns-in-Ok g c =
    let own = c.args.own.now in
    let store = c.in-Ok.store in
    let is = c.in-Ok.ensures.2 in
    let closed = rw (c.deref.ensures, c.into_device.ensures) at c.close.ensures in (
      _,
      called_on _ _ _ _ _ c.in-Ok.ensures.1 closed,
      comparing_ends g.D.Sectors _ own c.args.zone.now.records c.with_room.result (record {
        device = is.device;
        after = store_device store;
        came = ap (λ calls. calls ++ Closed (string_bytes own.device) (store_device store) ∷ []) is.came;
        newest = c.in-Ok.newest;
        apex = is.apex;
        change_is = c.with_room.ensures.change;
        compared = λ honest range may.
            (let t = is.taken honest range may in (
              t.0,
              t.1,
              λ o h.
                  (let taken = t.2 o h in
                  let kept = fresh (own_shape own) (opened_again o) in
                  let newest = ap (newest_after o.loaded) (append-nil o.versions) ∙ sym (ap (λ (z : Zone). z.records) taken.newest_is) in
                  (taken.newest_is, c.with_room.ensures.room kept refl newest (c.newest-number.ensures kept taken.keeps_them), leaves_kept g.D.Sectors store kept taken.keeps_them (is.honest.1 honest))),
            ));
        any_moment = is.any_moment;
      }),
    )

pub returns-in-Err : goal.returns-in-Err
returns-in-Err g c = (_, c.in-Err.ensures.1, inl c.in-Err.ensures.2)
