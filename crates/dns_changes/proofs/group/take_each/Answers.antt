use Rattle.std.proofs.Common.{List, sym, ap, ◌∙◌}
use Rattle.dns_records.specs.Record.{Record}
use Rattle.dns_changes.specs.Change.{are_present, removed_from}
use Rattle.dns_changes.proofs.Steps.{removed_none}
use Rattle.dns_zone.proofs.Listed.{ordered_parts}
use Rattle.dns_changes.proofs.Groups.{present_group, absent_group, removed_group, none_left}
use Rattle.dns_changes.proofs.group.take_each.Goals as goal

pub take_owned-requires-clause-order : goal.take_owned-requires-clause-order
take_owned-requires-clause-order g c = (ordered_parts c.names.rest.now c.in-Some.group.now c.in-Some.others.now c.in-Some.ensures.whole c.names.invariant.order).0

pub returns-then-not-branch-clause-present : goal.returns-then-not-branch-clause-present
returns-then-not-branch-clause-present g c =
    let cur = g.I.ZoneIndex.records c.names.set in
    let group = c.in-Some.group.now in
    let others = c.in-Some.others.now in
    sym (absent_group cur group others (sym c.in_ok-take_owned.ensures.present ∙ c.if-not-branch.true))
    ∙ ap (are_present cur) (sym c.in-Some.ensures.whole) ∙ c.names.invariant.present

pub names-preserved : goal.names-preserved
names-preserved g c =
    let cur = g.I.ZoneIndex.records c.names.set in
    let group = c.in-Some.group.now in
    let others = c.in-Some.others.now in
    let order = g.met.I.ZoneIndex.ordered c.names.set in
    let there = sym c.in_ok-take_owned.ensures.present ∙ c.if-not-branch.false in
    let left = c.in_ok-take_owned.ensures.left c.if-not-branch.false in
    record {
      order = (ordered_parts c.names.rest.now group others c.in-Some.ensures.whole c.names.invariant.order).1;
      present = ap (λ (xs : List Record). are_present xs others) left ∙ sym (present_group cur group others order there)
          ∙ ap (are_present cur) (sym c.in-Some.ensures.whole) ∙ c.names.invariant.present;
      left = ap (λ (xs : List Record). removed_from xs others) left ∙ sym (removed_group cur group others order there)
          ∙ ap (removed_from cur) (sym c.in-Some.ensures.whole) ∙ c.names.invariant.left;
    }

pub returns-clause-left : goal.returns-clause-left
returns-clause-left g c = λ _.
    (let cur = g.I.ZoneIndex.records c.names.set in
    sym (ap (removed_from cur) (none_left c.names.rest.now c.in_default.ensures) ∙ removed_none cur) ∙ c.names.invariant.left)
