use Rattle.std.proofs.Common.{ℕ, inl, inr, refl, sym, subst}
use Rattle.std.specs.String.{string_bytes}
use Rattle.dns_configuration.specs.declared.configuration.ZoneSettings.{ZoneSettings}
use Rattle.dns_devices.proofs.Told.{device_told}
use Rattle.dns_service.specs.Serve.{IsPathAt, IsRefusalTold}
use Rattle.dns_service.proofs.Known.{path_at}
use Rattle.dns_service.proofs.server.tell_refusal.Goals as goal

pub returns-in-Some : goal.returns-in-Some
returns-in-Some g c =
    let zones = c.args.zones.now in
    let index = c.args.refusal.index in
    let fault = c.args.refusal.fault in
    let err = g.E.Write.contents c.args.err.now in
    let err_after = g.E.Write.contents c.tell_device.new.err in
    let path = c.deref.result.now in
    let found = c.in-Some.ensures.lookup in
    let at : IsPathAt zones index path = rw c.deref.ensures (subst (λ (z : ZoneSettings). IsPathAt zones index (string_bytes z.device)) (sym found.1) (path_at zones index c.in-Some.own.now found.3.0)) in
    device_told (λ (status : ℕ). IsRefusalTold zones index fault c.args.explain err err_after status) path fault c.args.explain err err_after c.tell_device.result c.tell_device.ensures
    (inl refl) (λ one said. inr (refl, one, (path, at, said)))
