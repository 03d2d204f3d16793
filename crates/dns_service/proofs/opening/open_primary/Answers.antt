use Rattle.std.proofs.Common.{[], inl, inr, refl, sym, ap, length, subst, List, ◌∙◌}
use Rattle.dns_names.specs.Name.{Labels}
use Rattle.dns_primary.specs.Open.{AreRecoverable}
use Rattle.dns_configuration.specs.Known.{IsSettingOf, origins_of}
use Rattle.dns_configuration.proofs.Called.{called_on, no_calls}
use Rattle.dns_service.specs.Opening.{AreDevicesIntact}
use Rattle.dns_service.proofs.Known.{as_many, back_whole, named}
use Rattle.dns_service.proofs.Served.{all_intact, whichever_set}
use Rattle.dns_service.proofs.opening.open_primary.Goals as goal

pub open-requires-clause-as_many : goal.open-requires-clause-as_many
open-requires-clause-as_many g c =
    c.in-Ok-open_devices.ensures.2.0 ∙ as_many IsSettingOf c.args.zones.now c.in-Ok.settings.items c.in-Ok.ensures

pub open-requires-clause-named : goal.open-requires-clause-named
open-requires-clause-named g c =
    let zones = c.args.zones.now in
    ap length c.requires ∙ named zones ∙ as_many IsSettingOf zones c.in-Ok.settings.items c.in-Ok.ensures

pub returns-in-Ok-open : goal.returns-in-Ok-open
returns-in-Ok-open g c =
    let zones = c.args.zones.now in
    let p = c.in-Ok-open.primary in
    let known = as_many IsSettingOf zones c.in-Ok.settings.items c.in-Ok.ensures in
    let intact : AreDevicesIntact g.D.Sectors (origins_of zones) c.in-Ok.settings.items c.in-Ok-open_devices.given.items = subst (λ (names : List Labels). AreDevicesIntact g.D.Sectors names c.in-Ok.settings.items c.in-Ok-open_devices.given.items) c.requires
    (all_intact _ c.args.origins.now c.in-Ok.settings.items c.in-Ok-open_devices.given.items p.zones.items p.pending.items refl (ap length c.requires ∙ named zones ∙ known) (c.in-Ok-open_devices.ensures.2.0 ∙ known) c.in-Ok-open.ensures.opened) in (
      _,
      c.in-Ok-open_devices.ensures.1,
      record {
        devices = c.in-Ok-open_devices.given.items;
        given = c.in-Ok-open_devices.ensures.2;
        known = c.in-Ok.settings.items;
        settings = c.in-Ok.ensures;
        intact = intact;
        recovered = λ m event tries are honest.
            (let given = subst (λ (names : List Labels). AreRecoverable g.D.Sectors tries m event 0 m.zones names c.in-Ok.settings.items c.in-Ok-open_devices.given.items) (sym c.requires) are in
            let to = (c.in-Ok-open.ensures.recovered m event tries given).1 honest in
            (to.0, to.1, (to.2, c.in-Ok-open.ensures.honest, c.in-Ok-open.ensures.any_moment m event tries (whichever_set g.D.Sectors tries m event 0 m.zones c.args.origins.now c.in-Ok.settings.items c.in-Ok-open_devices.given.items given))));
      },
    )

pub returns-in_default : goal.returns-in_default
returns-in_default g c = no_calls _ _ (inl (record { given = []; tried = []; came = refl; why = inl (refl, refl) }))

pub returns-in-Err-open : goal.returns-in-Err-open
returns-in-Err-open g c =
    let zones = c.args.zones.now in
    let given = c.in-Ok-open_devices.ensures in
    let refused = c.in-Err-open.refused in
    let after = c.fault_at-fault.new.devices in
    let long = c.fault_at-fault.auto.devices ∙ ap (λ l. length l) c.deref_mut.ensures.value in
    let whole = back_whole after refused.devices.items refused.devices.len long (refused.devices.ok).0 in (
      _,
      called_on _ _ _ _ _ (rw given.2.1 at given.1) c.close_all.ensures,
      inr (record {
        devices = c.in-Ok-open_devices.given.items;
        after = _;
        many = given.2.0;
        came = refl;
        known = c.in-Ok.settings.items;
        settings = c.in-Ok.ensures;
        back = refused.devices.items;
        error = refused.error;
        named = rw whole (rw c.deref_mut.ensures.value at c.fault_at-fault.ensures);
        refused = rw c.requires at c.in-Err-open.ensures.refused;
      }),
    )
