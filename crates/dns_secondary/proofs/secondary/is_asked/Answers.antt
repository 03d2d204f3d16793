use Rattle.std.proofs.Common.{◌∙◌}
use Rattle.std.specs.Prelude.{◌&&◌, ◌==◌}
use Rattle.dns_names.specs.Name.{names_eq}
use Rattle.dns_records.specs.Types.{class_in}
use Rattle.dns_zone.specs.Ancestry.{tied_same}
use Rattle.dns_secondary.proofs.secondary.is_asked.Goals as goal

pub returns : goal.returns
returns c =
    let named = tied_same c.is-is_named.result c.name.result c.lend.result c.is-is_named.ensures.0 c.is-is_named.ensures.1 ∙ (λ i. names_eq (c.name.ensures i) (c.lend.ensures i)) in
    λ i. named i && (c.qtype.ensures i == c.args.rtype) && (c.qclass.ensures i == class_in)
