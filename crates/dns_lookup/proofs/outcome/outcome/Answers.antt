use Rattle.std.proofs.Common.{◌≤◌, [], ◌∷◌, length, sym, ap, subst, ◌∙◌}
use Rattle.dns_names.specs.Name.{Labels, wire}
use Rattle.dns_zone.proofs.Enclosers.{encloser_leaves}
use Rattle.dns_lookup.specs.Lent.{records_found}
use Rattle.dns_lookup.specs.Lookup.{source}
use Rattle.dns_lookup.proofs.outcome.outcome.Goals as goal

pub wildcard_of-requires : goal.wildcard_of-requires
wildcard_of-requires g c =
    let found = c.in-Wildcard.ensures in
    subst (λ (n : Labels). length (wire n) ≤ 253) (sym found.above) (encloser_leaves c.args.zone.now.records c.args.name.now c.as_wire-valid.ensures.valid found.absent)

pub returns-in-Name-clause-lent : goal.returns-in-Name-clause-lent
returns-in-Name-clause-lent g c =
    let z = c.args.zone.now in
    let name = c.args.name.now in
    (c.kind_by-kind.ensures z.records name name c.apex-ordered.ensures.valid.ordered c.in-Name.ensures.owned).1
    ∙ ap (λ (n : Labels). records_found z.records c.kind_by-kind.result.0 n c.args.qtype) (sym (c.named-in-Name.ensures ∙ c.reborrow.ensures))

pub returns-in-Wildcard-clause-lent : goal.returns-in-Wildcard-clause-lent
returns-in-Wildcard-clause-lent g c =
    let z = c.args.zone.now in
    let name = c.args.name.now in
    let found = c.in-Wildcard.ensures in
    (c.kind_by-kind-in-Wildcard.ensures z.records (source z.records name) name c.apex-ordered.ensures.valid.ordered found.owned).1
    ∙ ap (λ (n : Labels). records_found z.records c.kind_by-kind-in-Wildcard.result.0 n c.args.qtype) (sym (c.wildcard_of.ensures ∙ ap (λ (n : Labels). (42 ∷ []) ∷ n) found.above))
