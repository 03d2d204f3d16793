use Rattle.std.proofs.Common.{[], ◌∷◌, ◌++◌, inl, refl, sym, ap, ◌∙◌}
use Rattle.std.specs.String.{string_bytes}
use Rattle.dns_store.specs.Opening.{store_device}
use Rattle.dns_store.specs.Opens.{fresh}
use Rattle.dns_store.specs.Versions.{opened_again}
use Rattle.dns_devices.specs.DeviceCalls.{Closed}
use Rattle.dns_devices.specs.Stores.{own_shape}
use Rattle.dns_configuration.proofs.Called.{called_on}
use Rattle.dns_commands.proofs.Taken.{loaded_zone, loading_ends}
use Rattle.dns_commands.proofs.next_version.load_zone.Goals as goal

pub take_file-store-requires : goal.take_file-store-requires
take_file-store-requires g c = c.requires ∙ sym c.in-Ok.ensures.2.apex

pub returns-in-Ok : goal.returns-in-Ok
returns-in-Ok g c =
    let own = c.args.own.now in
    let zone = c.args.zone.now in
    let is = c.in-Ok.ensures.2 in
    let new = c.take_file-store.result.0 in
    let loaded = c.take_file-store.result.1 in
    let after = store_device new in
    let closed = rw (c.deref.ensures, c.into_device.ensures) at c.close.ensures in (
      _,
      called_on _ _ _ _ _ c.in-Ok.ensures.1 closed,
      loading_ends g.D.Sectors _ own zone.records loaded (record {
        device = is.device;
        after = after;
        came = ap (λ calls. calls ++ Closed (string_bytes own.device) after ∷ []) is.came;
        loaded = λ honest range may.
            (let t = is.taken honest range may in (
              t.0,
              t.1,
              λ o h.
                  (let taken = t.2 o h in
                  let into = c.take_file-store.ensures.1 (fresh (own_shape own) (opened_again o)) taken.keeps_them (record { shape_is = refl; rests = record { none_staged = refl; not_closed = refl }; newest_is = taken.newest_is }) in
                  loaded_zone g.D.Sectors own zone.records is.device c.in-Ok.store new loaded o (is.any_moment honest range) is.quiet (c.take_file-store.ensures.0.1 (is.honest.1 honest)) into.0
                  (let left = into.1 (is.honest.1 honest) in record { later = left.later; each = left.each; before = left.before })),
            ));
      }),
    )

pub returns-in-Err : goal.returns-in-Err
returns-in-Err g c = (_, c.in-Err.ensures.1, inl c.in-Err.ensures.2)
