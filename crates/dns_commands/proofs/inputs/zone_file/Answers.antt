use Rattle.std.proofs.Common.{◌≡◌, None, Some, List, ℕ, ap, sym, ◌∙◌}
use Rattle.std.specs.Prelude.{bytes_eq, find}
use Rattle.dns_configuration.specs.declared.files.File.{File}
use Rattle.dns_configuration.specs.Named.{zone_configured}
use Rattle.dns_commands.specs.Inputs.{file_of_zone}
use Rattle.dns_commands.proofs.inputs.zone_file.Goals as goal

pub returns-in_default : goal.returns-in_default
returns-in_default c =
    let name = c.in_ok-name.name in
    let zones = c.in_ok-configuration.configuration.zones.items in
    let none : zone_configured name zones ≡ None = ap (zone_configured name) (sym c.deref.ensures.value) ∙ sym c.in_default.ensures in
    (c.in_ok-configuration.configuration, name, c.in_ok-configuration.ensures.held, c.in_ok-name.ensures, ap (file_of_zone c.args.files.now) (sym none))

pub returns : goal.returns
returns c =
    let name = c.in_ok-name.name in
    let zones = c.in_ok-configuration.configuration.zones.items in
    let files = c.args.files.now in
    let own = c.in-Some.own.now in
    let found : zone_configured name zones ≡ Some own = ap (zone_configured name) (sym c.deref.ensures.value) ∙ sym c.in-Some.ensures in (
      c.in_ok-configuration.configuration,
      name,
      c.in_ok-configuration.ensures.held,
      c.in_ok-name.ensures,
      c.file_at.ensures ∙ ap (λ (path : List ℕ). find (λ (f : File). bytes_eq f.path.now path) files) c.deref-2.ensures ∙ ap (file_of_zone files) (sym found),
    )
