use Rattle.std.proofs.Common.{◌≡◌, true, length, ap, ◌∙◌}
use Rattle.std.specs.Prelude.{◌⊎◌}
use Rattle.dns_configuration.specs.Faults.{is_memory}
use Rattle.dns_configuration.specs.Files.{IsFirstFault, IsLoadedFrom}
use Rattle.dns_configuration.specs.Known.{IsSettingOf}
use Rattle.dns_commands.proofs.Made.{zip_length}
use Rattle.dns_commands.proofs.Replayed.{as_many, file_told, script_ran}
use Rattle.dns_commands.proofs.commands.replay.replayed.Goals as goal

pub run_over-requires-clause-known : goal.run_over-requires-clause-known
run_over-requires-clause-known g c = as_many (IsLoadedFrom c.args.files.now) IsSettingOf c.in-Ok.configuration.zones.items c.in-Ok-loaded.zones.items c.in_ok-known.known.items (rw c.deref-2.ensures.value at c.in-Ok-loaded.ensures) (rw c.deref.ensures.value at c.in_ok-known.ensures)

pub run_over-requires-clause-own : goal.run_over-requires-clause-own
run_over-requires-clause-own g c = ap length c.deref-in-Ok-loaded.ensures.value ∙ zip_length (IsLoadedFrom c.args.files.now) c.in-Ok.configuration.zones.items c.in-Ok-loaded.zones.items (rw c.deref-2.ensures.value at c.in-Ok-loaded.ensures)

pub returns-in-Ok-loaded : goal.returns-in-Ok-loaded
returns-in-Ok-loaded g c =
    script_ran _ _ c.args.config.now c.args.files.now c.args.script.now c.in-Ok.configuration c.in-Ok-loaded.zones.items c.in_ok-known.known.items c.deref-in-Ok-loaded.result.now _ _ _ _ c.run_over.result c.in-Ok.ensures.held (rw c.deref-2.ensures.value at c.in-Ok-loaded.ensures) (rw c.deref.ensures.value at c.in_ok-known.ensures) c.deref-in-Ok-loaded.ensures.value c.run_over.ensures

pub returns : goal.returns
returns g c =
    let fault = c.in-Err-loaded.fault in
    let path = c.in-Err-loaded.path.now in
    let why : (is_memory fault ≡ true) ⊎ IsFirstFault c.args.files.now c.in-Ok.configuration.zones.items path fault = rw c.deref-2.ensures.value at c.in-Err-loaded.ensures in
    file_told _ _ c.args.config.now c.args.files.now c.args.script.now c.in-Ok.configuration path fault (g.W.Write.contents c.args.run.now.out) (g.E.Write.contents c.args.run.now.err) (g.E.Write.contents c.tell-in-Err-loaded.new.err) c.tell-in-Err-loaded.result c.in-Ok.ensures.held why c.tell-in-Err-loaded.ensures
