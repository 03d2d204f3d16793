use Rattle.std.proofs.Common.{◌≡◌, ℕ, true, inl, inr, List, length, refl, sym, ap, subst, ◌∙◌}
use Rattle.std.specs.Prelude.{◌⊎◌, flat_map}
use Rattle.std.specs.List.{AllZip}
use Rattle.std.specs.Io.KnownBytes.{Appends}
use Rattle.dns_zone.specs.Zone.{Zone}
use Rattle.dns_configuration.specs.declared.configuration.ZoneSettings.{ZoneSettings}
use Rattle.dns_configuration.specs.Faults.{fault_text, is_memory}
use Rattle.dns_configuration.specs.Files.{IsFirstFault, IsLoadedFrom}
use Rattle.dns_configuration.proofs.Told.{fault_told}
use Rattle.dns_devices.specs.declared.device_faults.DeviceFault.TheVariants.{ZoneTooLarge}
use Rattle.dns_devices.specs.DeviceFaults.{device_text}
use Rattle.dns_devices.proofs.Told.{device_told}
use Rattle.dns_commands.specs.CheckConfiguration.{ConfigurationCheckEnds, HasSectors, IsFirstTooLarge, good_line}
use Rattle.dns_commands.proofs.Checked.{check_done, check_failed, check_refused, file_at_fault}
use Rattle.dns_commands.proofs.Made.{zip_length}
use Rattle.dns_commands.proofs.commands.check_configuration.checked_configuration.Goals as goal

pub returns-in-Err : goal.returns-in-Err
returns-in-Err g c =
    let config = c.args.config.now in
    let files = c.args.files.now in
    let fault = c.in-Err.fault in
    let out = g.W.Write.contents c.args.run.now.out in
    let err = g.E.Write.contents c.args.run.now.err in
    let err_after = g.E.Write.contents c.tell.new.err in
    fault_told (λ (status : ℕ). ConfigurationCheckEnds config files c.args.run.now.explain out out err err_after status) config.path.now fault err err_after c.tell.result c.tell.ensures
    (check_failed config files c.args.run.now.explain out out err err_after)
    (λ _ said. check_refused config files c.args.run.now.explain out err err_after (fault_text config.path.now fault) (inl (fault, c.in-Err.ensures.held, refl)) said)

pub returns-in-Err-load_all : goal.returns-in-Err-load_all
returns-in-Err-load_all g c =
    let config = c.args.config.now in
    let files = c.args.files.now in
    let path = c.in-Err-load_all.path.now in
    let fault = c.in-Err-load_all.fault in
    let out = g.W.Write.contents c.args.run.now.out in
    let err = g.E.Write.contents c.args.run.now.err in
    let err_after = g.E.Write.contents c.tell-in-Err-load_all.new.err in
    let why = subst (λ (zs : List ZoneSettings). (is_memory fault ≡ true) ⊎ IsFirstFault files zs path fault) c.deref.ensures.value c.in-Err-load_all.ensures in
    fault_told (λ (status : ℕ). ConfigurationCheckEnds config files c.args.run.now.explain out out err err_after status) path fault err err_after c.tell-in-Err-load_all.result c.tell-in-Err-load_all.ensures
    (check_failed config files c.args.run.now.explain out out err err_after)
    (λ is said. check_refused config files c.args.run.now.explain out err err_after (fault_text path fault) (file_at_fault config files c.in-Ok.configuration path fault c.args.run.now.explain c.in-Ok.ensures.held why is) said)

pub first_too_large-requires : goal.first_too_large-requires
first_too_large-requires g c =
    let loaded = subst (λ (zs : List ZoneSettings). AllZip (IsLoadedFrom c.args.files.now) zs c.in-Ok-load_all.zones.items) (sym c.deref-2.ensures.value) (subst (λ (zs : List ZoneSettings). AllZip (IsLoadedFrom c.args.files.now) zs c.in-Ok-load_all.zones.items) c.deref.ensures.value c.in-Ok-load_all.ensures) in
    zip_length (IsLoadedFrom c.args.files.now) c.deref-2.result.now c.in-Ok-load_all.zones.items loaded ∙ sym (ap length c.deref-3.ensures.value)

pub returns-in-Some : goal.returns-in-Some
returns-in-Some g c =
    let config = c.args.config.now in
    let files = c.args.files.now in
    let settings = c.in-Ok.configuration.zones.items in
    let zones = c.in-Ok-load_all.zones.items in
    let path = c.in-Some.path.now in
    let out = g.W.Write.contents c.args.run.now.out in
    let err = g.E.Write.contents c.args.run.now.err in
    let err_after = g.E.Write.contents c.tell_device.new.err in
    let loaded = subst (λ (zs : List ZoneSettings). AllZip (IsLoadedFrom files) zs zones) c.deref.ensures.value c.in-Ok-load_all.ensures in
    let first = subst (λ (zs : List Zone). IsFirstTooLarge settings zs path) c.deref-3.ensures.value (subst (λ (own : List ZoneSettings). IsFirstTooLarge own c.deref-3.result.now path) c.deref-2.ensures.value c.in-Some.ensures) in
    device_told (λ (status : ℕ). ConfigurationCheckEnds config files c.args.run.now.explain out out err err_after status) path ZoneTooLarge c.args.run.now.explain err err_after c.tell_device.result c.tell_device.ensures
    (check_failed config files c.args.run.now.explain out out err err_after)
    (λ _ said. check_refused config files c.args.run.now.explain out err err_after (device_text path ZoneTooLarge c.args.run.now.explain) (inr (c.in-Ok.configuration, c.in-Ok.ensures.held, inr (zones, loaded, path, first, refl))) said)

pub returns : goal.returns
returns g c =
    let files = c.args.files.now in
    let settings = c.in-Ok.configuration.zones.items in
    let zones = c.in-Ok-load_all.zones.items in
    let out = g.W.Write.contents c.args.run.now.out in
    let out_after = g.W.Write.contents c.print_good_zones.new.out in
    let loaded = subst (λ (zs : List ZoneSettings). AllZip (IsLoadedFrom files) zs zones) c.deref.ensures.value c.in-Ok-load_all.ensures in
    let fit = subst (λ (zs : List Zone). AllZip HasSectors settings zs) c.deref-3.ensures.value (subst (λ (own : List ZoneSettings). AllZip HasSectors own c.deref-3.result.now) c.deref-2.ensures.value c.in_default.ensures) in
    let said = subst (λ (zs : List Zone). Appends out out_after (flat_map good_line zs)) c.deref-4.ensures.value c.in_ok-print_good_zones.ensures in
    check_done c.args.config.now files c.in-Ok.configuration zones c.args.run.now.explain out out_after (g.E.Write.contents c.args.run.now.err) c.in-Ok.ensures.held loaded fit said
