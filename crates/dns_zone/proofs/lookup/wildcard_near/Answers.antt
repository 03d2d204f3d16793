use Rattle.std.proofs.Common.{◌≡◌, sym, ap, ◌∙◌}
use Rattle.dns_names.specs.Name.{wildcard, labels_of}
use Rattle.dns_zone.specs.Records.{exists, records_at}
use Rattle.dns_zone.proofs.Beside.{place_tells, place_from}
use Rattle.dns_zone.proofs.lookup.wildcard_near.Goals as goal

pub records_from-requires-clause-position : goal.records_from-requires-clause-position
records_from-requires-clause-position c =
    let position = c.count_before-position in
    place_from c.over-source.result c.reborrow.result c.args.records.now position.result c.reborrow.ensures position.ensures.bound position.ensures.before position.ensures.behind

pub returns-then-is_owned_at-clause-found : goal.returns-then-is_owned_at-clause-found
returns-then-is_owned_at-clause-found c =
    let records = c.args.records.now in
    let source : c.over-source.result ≡ wildcard c.args.above.now = c.over-source.ensures ∙ ap labels_of c.as_slice.ensures.value ∙ c.starred-octets.ensures.labels in
    let position = c.count_before-position in
    let tells = place_tells records c.over-source.result position.result c.requires.order (place_from c.over-source.result c.reborrow.result records position.result c.reborrow.ensures position.ensures.bound position.ensures.before position.ensures.behind) in
    (ap (exists records) (sym source) ∙ sym tells ∙ sym c.if-is_owned_at.ensures, c.records_from.ensures ∙ ap (records_at records) source)

pub returns-clause-none : goal.returns-clause-none
returns-clause-none c =
    let records = c.args.records.now in
    let source : c.over-source.result ≡ wildcard c.args.above.now = c.over-source.ensures ∙ ap labels_of c.as_slice.ensures.value ∙ c.starred-octets.ensures.labels in
    let position = c.count_before-position in
    let tells = place_tells records c.over-source.result position.result c.requires.order (place_from c.over-source.result c.reborrow.result records position.result c.reborrow.ensures position.ensures.bound position.ensures.before position.ensures.behind) in
    ap (exists records) (sym source) ∙ sym tells ∙ sym c.if-is_owned_at.ensures
