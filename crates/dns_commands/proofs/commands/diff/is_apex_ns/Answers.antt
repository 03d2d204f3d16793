use Rattle.std.proofs.Common.{◌∙◌}
use Rattle.std.specs.Prelude.{◌&&◌, ◌==◌}
use Rattle.dns_names.specs.Name.{names_eq}
use Rattle.dns_records.specs.Types.{type_ns}
use Rattle.dns_zone.specs.Ancestry.{tied_same}
use Rattle.dns_commands.proofs.commands.diff.is_apex_ns.Goals as goal

pub returns : goal.returns
returns c =
    let owned = tied_same c.is.result c.lend.result c.lend-2.result c.is.ensures.0 c.is.ensures.1 ∙ (λ i. names_eq ((c.lend.ensures ∙ c.owner.ensures) i) (c.lend-2.ensures i)) in
    λ i. owned i && (c.rtype.ensures i == type_ns)
