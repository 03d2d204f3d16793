use Rattle.std.proofs.Common.{◌≡◌, ◌++◌, ◌∷◌, [], suc, length, map, drop, inl, refl, sym, ap, subst, ◌∙◌, arith, add-one, length-append}
use Rattle.std.specs.Prelude.{slice_index_or}
use Rattle.std.proofs.lemmas.List.{length-drop}
use Rattle.dns_names.specs.Name.{Labels}
use Rattle.dns_primary.specs.declared.primary.ZoneSpec.{ZoneSpec}
use Rattle.dns_primary.specs.Open.{AreOpened, AreHandedBack, IsOpened, IsNotOpened, device_of_pending}
use Rattle.dns_primary.proofs.Opened.{first_dropped, drop_more, opened_none, opened_within, opened_more, handed_back}
use Rattle.dns_primary.proofs.open.open_all.Goals as goal

pub loop-index-init : goal.loop-index-init
loop-index-init g c = record {
  opened = opened_none c.args.apexes.now c.args.settings.now c.args.devices.now.items c.in-Ok.zones.items c.in-Ok-with_capacity.pending.items c.in-Ok.ensures.items c.in-Ok-with_capacity.ensures.items;
  rest = refl;
  room = omega (arith, c.requires.as_many, c.args.devices.now.ok);
  zones_room = c.in-Ok.ensures.capacity;
  pending_room = c.in-Ok-with_capacity.ensures.capacity;
  zones_many = ap (λ l. length l) c.in-Ok.ensures.items;
  pending_many = ap (λ l. length l) c.in-Ok-with_capacity.ensures.items;
}

pub remove-device-requires : goal.remove-device-requires
remove-device-requires g c = omega (arith, ap (λ l. length l) c.loop-index.invariant.rest, length-drop c.loop-index.index c.args.devices.now.items, c.requires.as_many, c.loop-index-test.true, c.loop-index.devices.ok)

pub push_reserved-requires : goal.push_reserved-requires
push_reserved-requires g c = omega (arith, c.loop-index.invariant.zones_many, c.loop-index.invariant.zones_room, c.loop-index-test.true, c.loop-index.zones.ok)

pub push_reserved-requires-in-Ok-open_one : goal.push_reserved-requires-in-Ok-open_one
push_reserved-requires-in-Ok-open_one g c = omega (arith, c.loop-index.invariant.pending_many, c.loop-index.invariant.pending_room, c.loop-index-test.true, c.loop-index.pending.ok)

pub take_back-requires : goal.take_back-requires
take_back-requires g c =
    omega (
      arith,
      c.loop-index.invariant.pending_many,
      c.loop-index.invariant.room,
      c.loop-index-test.true,
      ap (λ l. length l) c.in-Ok-insert.ensures.items,
      ap (λ l. length l) c.remove-device.ensures.by_index.2,
      ap (λ l. length l) c.loop-index.invariant.rest,
      length-drop c.loop-index.index c.args.devices.now.items,
      length-drop 1 c.loop-index.devices.items,
      c.requires.as_many,
      c.remove-device.ensures.capacity,
      c.in-Ok-insert.ensures.capacity,
    )

pub returns-in-Err : goal.returns-in-Err
returns-in-Err g c =
    let i = c.loop-index.index in
    let names = c.args.apexes.now in
    let ss = c.args.settings.now in
    let ds = c.args.devices.now.items in
    let a = c.index-apexes-index.result in
    let s = c.index-settings-index.result in
    let d = c.remove-device.result in
    let e = c.in-Err.device in
    let m = c.loop-index-test.true in
    let device_is : d ≡ slice_index_or ds i d = c.remove-device.ensures.value ∙ ap (λ l. slice_index_or l 0 d) c.loop-index.invariant.rest ∙ first_dropped ds i d in
    let not =
    subst (λ (x : Labels). IsNotOpened g.D.Sectors x (slice_index_or ss i s) c.in-Err.error (slice_index_or ds i d) e) c.index-apexes-index.is
    (subst (λ (x : ZoneSpec). IsNotOpened g.D.Sectors a x c.in-Err.error (slice_index_or ds i d) e) c.index-settings-index.is
    (subst (λ x. IsNotOpened g.D.Sectors a s c.in-Err.error x e) device_is c.in-Err.ensures)) in
    let back = handed_back c.in-Err.error i names ss ds c.loop-index.zones.items c.loop-index.pending.items a s d e c.loop-index.invariant.opened (omega (arith, m, c.requires.named)) m (omega (arith, m, c.requires.as_many)) not in
    let others = c.remove-device.ensures.by_index.2 ∙ ap (λ l. drop 1 l) c.loop-index.invariant.rest ∙ drop_more ds i in
    let whole = c.take_back.ensures ∙ ap (λ l. map (λ b. device_of_pending b) c.loop-index.pending.items ++ l) (c.in-Ok-insert.ensures.items ∙ ap (λ l. e ∷ l) others) in
    inl (subst (λ l. AreHandedBack g.D.Sectors c.in-Err.error i names ss ds l) (sym whole) back)

pub loop-index-preserved : goal.loop-index-preserved
loop-index-preserved g c =
    let i = c.loop-index.index in
    let names = c.args.apexes.now in
    let ss = c.args.settings.now in
    let ds = c.args.devices.now.items in
    let a = c.index-apexes-index.result in
    let s = c.index-settings-index.result in
    let d = c.remove-device.result in
    let one = c.in-Ok-open_one.one in
    let m = c.loop-index-test.true in
    let device_is : d ≡ slice_index_or ds i d = c.remove-device.ensures.value ∙ ap (λ l. slice_index_or l 0 d) c.loop-index.invariant.rest ∙ first_dropped ds i d in
    let is =
    subst (λ (x : Labels). IsOpened x (slice_index_or ss i s) (slice_index_or ds i d) one.zone one.pending) c.index-apexes-index.is
    (subst (λ (x : ZoneSpec). IsOpened a x (slice_index_or ds i d) one.zone one.pending) c.index-settings-index.is
    (subst (λ x. IsOpened a s x one.zone one.pending) device_is c.in-Ok-open_one.ensures)) in
    let more = opened_more i names ss ds c.loop-index.zones.items c.loop-index.pending.items a s d one.zone one.pending c.loop-index.invariant.opened (omega (arith, m, c.requires.named)) m (omega (arith, m, c.requires.as_many)) is in
    let zones = c.push_reserved.ensures.items in
    let pending = c.push_reserved-in-Ok-open_one.ensures.items in
    record {
      opened =
          subst (λ n. AreOpened n names ss ds c.push_reserved.new.self.items c.push_reserved-in-Ok-open_one.new.self.items) (sym (add-one i))
          (subst (λ l. AreOpened (suc i) names ss ds l c.push_reserved-in-Ok-open_one.new.self.items) (sym zones)
          (subst (λ l. AreOpened (suc i) names ss ds (c.loop-index.zones.items ++ one.zone ∷ []) l) (sym pending) more));
      rest = c.remove-device.ensures.by_index.2 ∙ ap (λ l. drop 1 l) c.loop-index.invariant.rest ∙ drop_more ds i ∙ ap (λ n. drop n ds) (sym (add-one i));
      room = omega (arith, c.loop-index.invariant.room, c.remove-device.ensures.capacity);
      zones_room = omega (arith, c.loop-index.invariant.zones_room, c.push_reserved.ensures.capacity);
      pending_room = omega (arith, c.loop-index.invariant.pending_room, c.push_reserved-in-Ok-open_one.ensures.capacity);
      zones_many = omega (arith, ap (λ l. length l) zones, length-append c.loop-index.zones.items (one.zone ∷ []), c.loop-index.invariant.zones_many);
      pending_many = omega (arith, ap (λ l. length l) pending, length-append c.loop-index.pending.items (one.pending ∷ []), c.loop-index.invariant.pending_many);
    }

pub returns : goal.returns
returns g c =
    let i = c.loop-index.index in
    let within = opened_within i c.args.apexes.now c.args.settings.now c.args.devices.now.items c.loop-index.zones.items c.loop-index.pending.items c.loop-index.invariant.opened in
    let all : i ≡ length c.args.settings.now = omega (arith, within, c.loop-index-test.false) in
    subst (λ n. AreOpened n c.args.apexes.now c.args.settings.now c.args.devices.now.items c.loop-index.zones.items c.loop-index.pending.items) all c.loop-index.invariant.opened
