use Rattle.std.proofs.Common.{◌≡◌, Some, sym, ap, ◌∙◌, get_or}
use Rattle.std.proofs.lemmas.Option.{slice_get-get_or}
use Rattle.std.proofs.lemmas.List.{get_or_default}
use Rattle.dns_records.specs.Record.{Record}
use Rattle.dns_records.specs.Compare.{same_record-Decides}
use Rattle.dns_zone.specs.Sets.{found, sorted_from}
use Rattle.dns_changes.proofs.Steps.{among_found, among_here, among_none}
use Rattle.dns_changes.proofs.change.is_among.Goals as goal

pub returns-then-eq : goal.returns-then-eq
returns-then-eq c =
    let there = c.index-records-near.result in
    let r = c.args.wanted.now in
    sym (among_here r there c.args.records.now c.args.near.now c.if-near-records.true c.index-records-near.is ((same_record-Decides there r).0 (sym c.eq.ensures.value ∙ c.if-eq.true)))

pub returns-in-Ok : goal.returns-in-Ok
returns-in-Ok c =
    let r = c.args.wanted.now in
    let xs = c.args.records.now in
    let at = c.in-Ok.ensures.found in
    let there = c.index-records-at.result in
    let is : get_or xs c.in-Ok.at r ≡ there = get_or_default xs c.in-Ok.at r there at.inside ∙ sym c.index-records-at.is in
    let e : found r xs ≡ Some there = sym at.found ∙ slice_get-get_or xs c.in-Ok.at r at.inside ∙ ap (λ (x : Record). Some x) is in
    c.eq-in-Ok.ensures.value ∙ sym (among_found r there xs (sorted_from xs c.requires) e)

pub returns-in-Err : goal.returns-in-Err
returns-in-Err c = sym (among_none c.args.wanted.now c.args.records.now (sorted_from c.args.records.now c.requires) c.in-Err.ensures.absent.absent)
