use Rattle.std.proofs.Common.{◌≡◌, ◌<◌, ◌≤◌, length, false, sym, ap, ◌∙◌, arith}
use Rattle.std.specs.Prelude.{Some, None, Option, Bool, slice_get}
use Rattle.std.proofs.lemmas.Option.{slice_get_past, slice_get-get_or}
use Rattle.dns_names.specs.Name.{Labels, under}
use Rattle.dns_records.specs.Record.{Record}
use Rattle.dns_zone.specs.Ancestry.{tied_under}
use Rattle.dns_zone.proofs.lookup.is_owned_at.Goals as goal

abbrev owned : Labels → Option Record → Bool
owned name o = elim o [ Some r ↦ under r.owner name | None ↦ false ]

pub returns-then-position-records : goal.returns-then-position-records
returns-then-position-records c =
    let name = c.args.name.now in
    let records = c.args.records.now in
    let there = c.index-records-position.result in
    let inside : c.args.position < length records = omega arith in
    let found : Some there ≡ slice_get records c.args.position = ap (λ r. Some r) c.index-records-position.is ∙ sym (slice_get-get_or records c.args.position there inside) in
    tied_under c.is_under.result c.lend.result name c.is_under.ensures.0 c.is_under.ensures.1 ∙ ap (λ a. under a name) (c.lend.ensures ∙ c.owner.ensures) ∙ ap (owned name) found

pub returns : goal.returns
returns c =
    let past : length c.args.records.now ≤ c.args.position = omega arith in
    ap (owned c.args.name.now) (sym (slice_get_past c.args.records.now c.args.position past))
