use Rattle.std.proofs.Common.{[], ◌∷◌, length, inl, inr, refl, sym, ap, subst, ◌∙◌, arith, length-append}
use Rattle.std.specs.String.{string_bytes}
use Rattle.dns_configuration.specs.declared.configuration.ZoneSettings.{ZoneSettings}
use Rattle.dns_configuration.proofs.Called.{called_on, nothing_called}
use Rattle.dns_devices.specs.Stores.{IsDeviceNotGiven}
use Rattle.dns_service.proofs.Known.{cannot_be_had, openings_more}
use Rattle.dns_service.proofs.opening.open_devices.Goals as goal

pub loop-index-init : goal.loop-index-init
loop-index-init g c = record { many = ap (λ l. length l) c.new-given.ensures.items; called = rw c.new-given.ensures.items (nothing_called _) }

pub loop-index-preserved : goal.loop-index-preserved
loop-index-preserved g c =
    let before = c.loop-index.invariant in
    let given = c.loop-index.given.items in
    let zones = c.args.zones.now in
    let own = c.index-zones-index.result in
    let next = c.in_default.ensures in
    let at = rw (sym before.many) at c.index-zones-index.is in
    let opened = rw (next.2.2, ap (λ (z : ZoneSettings). string_bytes z.device) at) at next.1 in
    record {
      many = ap (λ l. length l) next.2.1 ∙ omega (arith, length-append given (next.2.0 ∷ []), before.many);
      called = rw (next.2.1, openings_more given next.2.0 zones own (omega (arith, before.many))) (called_on _ _ _ _ _ before.called opened);
    }

pub returns-in-Err : goal.returns-in-Err
returns-in-Err g c =
    let before = c.loop-index.invariant in
    let given = c.loop-index.given.items in
    let zones = c.args.zones.now in
    let own = c.index-zones-index.result in
    let next = c.in-Err.ensures in
    let closed = rw next.2.0 at c.close_all.ensures in (
      _,
      called_on _ _ _ _ _ before.called (called_on _ _ _ _ _ next.1 closed),
      record {
        given = given;
        tried = next.0;
        came = refl;
        why = elim next.2.1 [
          | inl memory ↦ inl memory
          | inr not ↦ inr (cannot_be_had next.0 zones c.loop-index.index own c.in-Err.fault (omega arith) (subst (λ (z : ZoneSettings). IsDeviceNotGiven next.0 z c.in-Err.fault) c.index-zones-index.is not))
        ];
      },
    )
