use Rattle.std.proofs.Common.{◌≡◌, true, false, length, sym, ap, subst, ◌∙◌}
use Rattle.std.specs.Prelude.{filter}
use Rattle.std.specs.List.{AllWithin}
use Rattle.std.specs.Ordering.{is_lt, is_eq}
use Rattle.dns_names.specs.Name.{Labels, name_cmp}
use Rattle.dns_zone.proofs.Searching.{matches}
use Rattle.dns_zone.proofs.Listed.{owned_is}
use Rattle.dns_zone.proofs.lookup.records_from.Goals as goal

pub end_of_match-requires-clause-behind : goal.end_of_match-requires-clause-behind
end_of_match-requires-clause-behind c =
    subst (λ (n : Labels). AllWithin (λ r. is_lt (name_cmp r.owner n) ≡ false) c.args.records.now c.args.position (length c.args.records.now)) (sym c.reborrow.ensures) c.requires.position.behind

pub returns : goal.returns
returns c =
    let records = c.args.records.now in
    let end = c.end_of_match in
    let before = subst (λ (n : Labels). AllWithin (λ r. is_lt (name_cmp r.owner n) ≡ true) records 0 c.args.position) (sym c.reborrow.ensures) c.requires.position.before in
    matches (λ r. name_cmp r.owner c.reborrow.result) records c.args.position end.result end.ensures.from end.ensures.bound before end.ensures.here end.ensures.past
    ∙ ap (λ name. filter (λ r. is_eq (name_cmp r.owner name)) records) c.reborrow.ensures
    ∙ owned_is c.args.name.now records
