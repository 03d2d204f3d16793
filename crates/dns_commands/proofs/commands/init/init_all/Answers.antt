use Rattle.std.proofs.Common.{◌≡◌, ℕ, List, [], true, inl, inr, refl, sym, ap, subst, length, ◌∙◌}
use Rattle.std.specs.Prelude.{◌⊎◌}
use Rattle.std.specs.Option.{option_copied}
use Rattle.dns_configuration.specs.declared.configuration.ZoneSettings.{ZoneSettings}
use Rattle.dns_configuration.specs.declared.files.Fault.TheVariants.{BadOrigin}
use Rattle.dns_configuration.specs.Faults.{fault_text, is_memory}
use Rattle.dns_configuration.specs.Files.{IsLoadedFrom}
use Rattle.dns_configuration.proofs.Told.{fault_told}
use Rattle.dns_devices.specs.DeviceFaults.{device_text}
use Rattle.dns_configuration.proofs.Called.{called_on, ended_as, no_calls}
use Rattle.dns_devices.proofs.Told.{device_told}
use Rattle.dns_commands.specs.Frame.{run_end}
use Rattle.dns_commands.specs.Init.{InitEnds, AreChosen, IsGiven, IsNotChosen}
use Rattle.dns_commands.proofs.Made.{files_refused, init_failed, init_made, init_refused, word_refused, zip_length}
use Rattle.dns_commands.proofs.commands.init.init_all.Goals as goal

pub returns-in-Err : goal.returns-in-Err
returns-in-Err g c =
    let config = c.args.config.now in
    let origin = option_copied c.args.origin in
    let files = c.args.files.now in
    let fault = c.in-Err.fault in
    let out = g.W.Write.contents c.args.run.now.out in
    let err = g.E.Write.contents c.args.run.now.err in
    let err_after = g.E.Write.contents c.tell.new.err in
    let ends : ℕ → Type 0 = λ status. InitEnds g.D.Sectors config origin files (run_end [] c.args.run.now.explain out out err err_after status) in
    let failed = init_failed g.D.Sectors [] config origin files c.args.run.now.explain out out err err_after (inl refl) in
    no_calls _ _ (ended_as ends c.tell.result failed (fault_told ends config.path.now fault err err_after c.tell.result c.tell.ensures failed
    (λ is said. init_refused g.D.Sectors [] config origin files c.args.run.now.explain out err err_after (fault_text config.path.now fault) (inl (config.path.now, fault, inl (refl, c.in-Err.ensures.held), refl, refl)) (inl refl) said)))

pub returns-in-Err-chosen : goal.returns-in-Err-chosen
returns-in-Err-chosen g c =
    let config = c.args.config.now in
    let origin = option_copied c.args.origin in
    let files = c.args.files.now in
    let fault = c.in-Err-chosen.fault in
    let word = c.in-Err-chosen.word.now in
    let why = subst (λ (zs : List ZoneSettings). (is_memory fault ≡ true) ⊎ ((fault ≡ BadOrigin) × IsNotChosen origin zs word)) c.deref.ensures.value c.in-Err-chosen.ensures in
    let out = g.W.Write.contents c.args.run.now.out in
    let err = g.E.Write.contents c.args.run.now.err in
    let err_after = g.E.Write.contents c.tell-in-Err-chosen.new.err in
    let ends : ℕ → Type 0 = λ status. InitEnds g.D.Sectors config origin files (run_end [] c.args.run.now.explain out out err err_after status) in
    let failed = init_failed g.D.Sectors [] config origin files c.args.run.now.explain out out err err_after (inl refl) in
    no_calls _ _ (ended_as ends c.tell-in-Err-chosen.result failed (fault_told ends word fault err err_after c.tell-in-Err-chosen.result c.tell-in-Err-chosen.ensures failed
    (λ is said. init_refused g.D.Sectors [] config origin files c.args.run.now.explain out err err_after (fault_text word fault) (word_refused g.D.Sectors config origin files c.in-Ok.configuration word fault c.args.run.now.explain c.in-Ok.ensures.held why is) (inl refl) said)))

pub returns-in-Err-load_all : goal.returns-in-Err-load_all
returns-in-Err-load_all g c =
    let config = c.args.config.now in
    let origin = option_copied c.args.origin in
    let files = c.args.files.now in
    let fault = c.in-Err-load_all.fault in
    let settings = c.in-Ok-chosen.settings.now in
    let path = c.in-Err-load_all.path.now in
    let chosen = subst (λ (zs : List ZoneSettings). AreChosen origin zs settings) c.deref.ensures.value c.in-Ok-chosen.ensures in
    let out = g.W.Write.contents c.args.run.now.out in
    let err = g.E.Write.contents c.args.run.now.err in
    let err_after = g.E.Write.contents c.tell-in-Err-load_all.new.err in
    let ends : ℕ → Type 0 = λ status. InitEnds g.D.Sectors config origin files (run_end [] c.args.run.now.explain out out err err_after status) in
    let failed = init_failed g.D.Sectors [] config origin files c.args.run.now.explain out out err err_after (inl refl) in
    no_calls _ _ (ended_as ends c.tell-in-Err-load_all.result failed (fault_told ends path fault err err_after c.tell-in-Err-load_all.result c.tell-in-Err-load_all.ensures failed
    (λ is said. init_refused g.D.Sectors [] config origin files c.args.run.now.explain out err err_after (fault_text path fault) (files_refused g.D.Sectors config origin files c.in-Ok.configuration settings path fault c.args.run.now.explain c.in-Ok.ensures.held chosen c.in-Err-load_all.ensures is) (inl refl) said)))

pub returns-in-Some : goal.returns-in-Some
returns-in-Some g c =
    let calls = c.in-Some.ensures.0 in
    let found = c.in-Some.ensures.2 in
    let config = c.args.config.now in
    let origin = option_copied c.args.origin in
    let files = c.args.files.now in
    let settings = c.in-Ok-chosen.settings.now in
    let zones = c.in-Ok-load_all.zones.items in
    let path = c.in-Some.path.now in
    let fault = c.in-Some.fault in
    let out = g.W.Write.contents c.args.run.now.out in
    let err = g.E.Write.contents c.args.run.now.err in
    let err_after = g.E.Write.contents c.tell_device.new.err in
    let chosen = subst (λ (zs : List ZoneSettings). AreChosen origin zs settings) c.deref.ensures.value c.in-Ok-chosen.ensures in
    let given : IsGiven config origin files settings zones = record { configuration = c.in-Ok.configuration; holds = c.in-Ok.ensures.held; chosen = chosen; loaded = c.in-Ok-load_all.ensures } in
    let tried = inr (settings, zones, given, inl (path, fault, found)) in
    let ends : ℕ → Type 0 = λ status. InitEnds g.D.Sectors config origin files (run_end calls c.args.run.now.explain out out err err_after status) in
    let failed = init_failed g.D.Sectors calls config origin files c.args.run.now.explain out out err err_after tried in (
      calls,
      c.in-Some.ensures.1,
      ended_as ends c.tell_device.result failed
          (device_told ends path fault c.args.run.now.explain err err_after c.tell_device.result c.tell_device.ensures failed
          (λ _ said. init_refused g.D.Sectors calls config origin files c.args.run.now.explain out err err_after (device_text path fault c.args.run.now.explain) (inr (settings, zones, given, path, fault, refl, inl found)) tried said)),
    )

pub make_all-requires : goal.make_all-requires
make_all-requires g c = zip_length (IsLoadedFrom c.args.files.now) c.in-Ok-chosen.settings.now c.in-Ok-load_all.zones.items c.in-Ok-load_all.ensures ∙ sym (ap length c.deref-2.ensures.value)

pub returns : goal.returns
returns g c =
    let config = c.args.config.now in
    let origin = option_copied c.args.origin in
    let files = c.args.files.now in
    let settings = c.in-Ok-chosen.settings.now in
    let zones = c.in-Ok-load_all.zones.items in
    let chosen = subst (λ (zs : List ZoneSettings). AreChosen origin zs settings) c.deref.ensures.value c.in-Ok-chosen.ensures in
    let given : IsGiven config origin files settings zones = record { configuration = c.in-Ok.configuration; holds = c.in-Ok.ensures.held; chosen = chosen; loaded = c.in-Ok-load_all.ensures } in
    let asked = rw c.in_default.ensures.2 at c.in_default.ensures.1 in
    let ended = rw c.deref-2.ensures.value at c.make_all.ensures in
    (_, called_on _ _ _ _ _ asked ended.1, init_made g.D.Sectors _ config origin files settings zones c.args.run.now.explain _ _ _ _ _ given ended.2)
