use Rattle.std.proofs.Common.{[], map, refl, add-one, ap, subst, arith}
use Rattle.std.specs.String.{string_bytes}
use Rattle.std.specs.Vec.{vec_len}
use Rattle.dns_configuration.specs.declared.configuration.ZoneSettings.{ZoneSettings}
use Rattle.dns_configuration.specs.Calls.{HasCalled}
use Rattle.dns_configuration.proofs.Called.{called_on, nothing_called}
use Rattle.dns_primary.specs.Open.{device_of_pending}
use Rattle.dns_service.proofs.Known.{all_closed, closings_more_of, closings_over_of, is_none, is_some}
use Rattle.dns_service.proofs.opening.close_stores.Goals as goal
use Rattle.dns_service.proofs.opening.close_stores.Goals.{then-not-is_empty, else-not-is_empty}

pub loop-own-init : goal.loop-own-init
loop-own-init g c = ([], nothing_called _, refl)

pub loop-own-preserved : goal.loop-own-preserved
loop-own-preserved g c =
    let before = c.loop-own.invariant in
    let n = c.loop-own.own-index in
    let own = c.own-item.result in
    let zones = c.args.zones.now in
    elim c.if-not-is_empty.branch [
      | then-not-is_empty w ↦ (
          let closed = rw (w.deref.ensures, ap (λ (z : ZoneSettings). string_bytes z.device) c.own-item.is, w.device_of.ensures, w.remove.ensures.value) at w.close.ensures in
          rw (w.devices-is, ap (λ v. v.items) w.open-is, w.remove.ensures.items, add-one) (_, called_on _ _ _ _ _ before.1 closed, closings_more_of (λ b. device_of_pending b) before.0 _ c.loop-own.open.items w.remove.result zones n own (omega arith) (let some = is_some (vec_len c.loop-own.open) c.is_empty.result c.is_empty.ensures w.if-not-is_empty.true in omega (arith, some, c.loop-own.open.ok)) before.2)
          )
      | else-not-is_empty w ↦ rw (w.devices-is, ap (λ v. v.items) w.open-is) (before.0, before.1, closings_over_of (λ b. device_of_pending b) before.0 _ c.loop-own.open.items _ _ (let none = is_none (vec_len c.loop-own.open) c.is_empty.result c.is_empty.ensures w.if-not-is_empty.false in omega (arith, none, c.loop-own.open.ok)) before.2)
    ]

pub returns : goal.returns
returns g c =
    let before = c.loop-own.invariant in
    subst (λ calls. HasCalled (g.F.Devices.calls c.args.devices.now) (g.F.Devices.calls c.loop-own.devices) calls)
    (all_closed before.0 _ (map (λ b. device_of_pending b) c.loop-own.open.items) c.args.zones.now c.loop-own.own-index (omega arith) before.2) before.1
