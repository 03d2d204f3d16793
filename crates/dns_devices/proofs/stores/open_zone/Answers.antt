use Rattle.std.proofs.Common.{[], ◌∷◌, ◌++◌, ap}
use Rattle.std.specs.String.{string_bytes}
use Rattle.dns_store.specs.Opening.{store_device}
use Rattle.dns_store.specs.Opens.{fresh}
use Rattle.dns_store.specs.Versions.{opened_again}
use Rattle.dns_configuration.proofs.Called.{called_on}
use Rattle.dns_devices.specs.DeviceCalls.{Closed}
use Rattle.dns_devices.specs.Stores.{own_shape}
use Rattle.dns_devices.proofs.Closed.{leaves_kept}
use Rattle.dns_devices.proofs.stores.open_zone.Goals as goal

pub returns-in-Ok : goal.returns-in-Ok
returns-in-Ok g c =
    let own = c.args.own.now in
    let store = c.in-Ok.store in
    let is = c.in-Ok.ensures.2 in
    let closed = rw (c.deref.ensures, c.into_device.ensures) at c.close.ensures in (
      _,
      called_on _ _ _ _ _ c.in-Ok.ensures.1 closed,
      record {
        device = is.device;
        after = store_device store;
        came = ap (λ calls. calls ++ Closed (string_bytes own.device) (store_device store) ∷ []) is.came;
        apex = is.apex;
        intact = is.intact;
        altered = λ honest range x o is_opened none altered. (is.altered honest range x o is_opened none altered).newest_is;
        newest = λ honest range may. let t = is.taken honest range may in
            (t.0, t.1, λ o h. ((t.2 o h).newest_is, leaves_kept g.D.Sectors store (fresh (own_shape own) (opened_again o)) (t.2 o h).keeps_them (is.honest.1 honest)));
        any_moment = is.any_moment;
      },
    )
