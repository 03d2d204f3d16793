use Rattle.std.proofs.Common.{◌≡◌, true, List, sym, ap, subst, ◌∙◌}
use Rattle.std.specs.List.{list_all}
use Rattle.dns_records.specs.Record.{Record}
use Rattle.dns_zone.specs.Records.{are_of, contains, is_ordered, others, united}
use Rattle.dns_zone.proofs.Replaced.{at_ordered}
use Rattle.dns_changes.specs.Change.{removed_from}
use Rattle.dns_changes.proofs.Groups.{present_is, taken_is, left_ordered, left_owned}
use Rattle.dns_changes.proofs.group.take_owned.Goals as goal

pub are_among-requires : goal.are_among-requires
are_among-requires g c =
    let set = c.args.set.now in
    subst (λ (xs : List Record). is_ordered xs ≡ true) (sym c.records_at-held.ensures) (at_ordered (g.I.ZoneIndex.records set) c.args.name.now (g.met.I.ZoneIndex.ordered set))

pub returns-then-not-are_among-clause-present : goal.returns-then-not-are_among-clause-present
returns-then-not-are_among-clause-present g c =
    let gone = c.args.gone.now in
    sym c.if-not-are_among.true ∙ c.are_among.ensures ∙ ap (λ (xs : List Record). list_all (contains xs) gone) c.records_at-held.ensures
    ∙ present_is c.args.name.now (g.I.ZoneIndex.records c.args.set.now) gone c.requires.order c.requires.owned

pub replace_at-requires-clause-order : goal.replace_at-requires-clause-order
replace_at-requires-clause-order g c =
    let set = c.args.set.now in
    let xs = g.I.ZoneIndex.records set in
    let gone = c.args.gone.now in
    let held = subst (λ (ys : List Record). is_ordered ys ≡ true) (sym c.records_at-held.ensures) (at_ordered xs c.args.name.now (g.met.I.ZoneIndex.ordered set)) in
    subst (λ (ys : List Record). is_ordered ys ≡ true) (sym c.in_ok-kept.ensures) (left_ordered c.records_at-held.result.now gone held)

pub replace_at-requires-clause-owned : goal.replace_at-requires-clause-owned
replace_at-requires-clause-owned g c =
    let name = c.args.name.now in
    let xs = g.I.ZoneIndex.records c.args.set.now in
    let gone = c.args.gone.now in
    subst (λ (ys : List Record). are_of name ys ≡ true) (sym (c.in_ok-kept.ensures ∙ ap (λ (ys : List Record). removed_from ys gone) c.records_at-held.ensures)) (left_owned name xs gone)

pub returns-clause-present : goal.returns-clause-present
returns-clause-present g c =
    let gone = c.args.gone.now in
    sym c.if-not-are_among.false ∙ c.are_among.ensures ∙ ap (λ (xs : List Record). list_all (contains xs) gone) c.records_at-held.ensures
    ∙ present_is c.args.name.now (g.I.ZoneIndex.records c.args.set.now) gone c.requires.order c.requires.owned

pub returns-clause-left : goal.returns-clause-left
returns-clause-left g c = λ _.
    (let name = c.args.name.now in
    let xs = g.I.ZoneIndex.records c.args.set.now in
    let gone = c.args.gone.now in
    c.in_ok-replace_at.ensures.ok
    ∙ ap (λ (ys : List Record). united (others xs name) ys) (c.in_ok-kept.ensures ∙ ap (λ (ys : List Record). removed_from ys gone) c.records_at-held.ensures)
    ∙ taken_is name xs gone (g.met.I.ZoneIndex.ordered c.args.set.now) c.requires.owned)
