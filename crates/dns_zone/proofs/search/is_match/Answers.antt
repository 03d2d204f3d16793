use Rattle.std.proofs.Common.{◌≡◌, sym, ap, ◌∙◌}
use Rattle.std.specs.Prelude.{◌&&◌, ◌==◌}
use Rattle.dns_names.specs.Name.{names_eq, name_cmp}
use Rattle.std.specs.Ordering.{nat_cmp, is_eq}
use Rattle.dns_zone.specs.Ancestry.{tied_same}
use Rattle.dns_zone.specs.Side.{side_of}
use Rattle.dns_zone.proofs.Listed.{names_tie, numbers_tie, both_tie}
use Rattle.dns_zone.proofs.search.is_match.Goals as goal

pub returns-in-Owner : goal.returns-in-Owner
returns-in-Owner c =
    let r = c.args.r.now in
    let name = c.in-Owner.name in
    tied_same c.is.result c.lend.result name c.is.ensures.0 c.is.ensures.1 ∙ ap (λ a. names_eq a name) (c.lend.ensures ∙ c.owner.ensures) ∙ sym (names_tie r.owner name) ∙ ap (λ k. is_eq (side_of k r)) (sym c.in-Owner.is)

pub returns-in-Type : goal.returns-in-Type
returns-in-Type c =
    let r = c.args.r.now in
    let name = c.in-Type.name in
    let t = c.in-Type.rtype in
    let same : c.is-in-Type.result ≡ names_eq r.owner name = tied_same c.is-in-Type.result c.lend-in-Type.result name c.is-in-Type.ensures.0 c.is-in-Type.ensures.1 ∙ ap (λ a. names_eq a name) (c.lend-in-Type.ensures ∙ c.owner-in-Type.ensures) in
    (λ i. same i && (c.rtype.ensures i == t)) ∙ sym (both_tie (name_cmp r.owner name) (nat_cmp r.rtype t) ∙ (λ i. names_tie r.owner name i && numbers_tie r.rtype t i)) ∙ ap (λ k. is_eq (side_of k r)) (sym c.in-Type.is)
