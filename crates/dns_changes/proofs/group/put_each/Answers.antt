use Rattle.std.proofs.Common.{List, sym, ap, ◌∙◌}
use Rattle.dns_records.specs.Record.{Record}
use Rattle.dns_zone.specs.Records.{united}
use Rattle.dns_changes.specs.Change.{are_new}
use Rattle.dns_zone.proofs.Listed.{ordered_parts}
use Rattle.dns_changes.proofs.Groups.{new_group, old_group, united_group, none_left}
use Rattle.dns_changes.proofs.group.put_each.Goals as goal

pub put_owned-requires-clause-order : goal.put_owned-requires-clause-order
put_owned-requires-clause-order g c = (ordered_parts c.names.rest.now c.in-Some.group.now c.in-Some.others.now c.in-Some.ensures.whole c.names.invariant.order).0

pub returns-then-not-branch-clause-new : goal.returns-then-not-branch-clause-new
returns-then-not-branch-clause-new g c =
    let cur = g.I.ZoneIndex.records c.names.set in
    let group = c.in-Some.group.now in
    let others = c.in-Some.others.now in
    sym (old_group cur group others (sym c.in_ok-put_owned.ensures.new ∙ c.if-not-branch.true))
    ∙ ap (are_new cur) (sym c.in-Some.ensures.whole) ∙ c.names.invariant.new

pub names-preserved : goal.names-preserved
names-preserved g c =
    let cur = g.I.ZoneIndex.records c.names.set in
    let group = c.in-Some.group.now in
    let others = c.in-Some.others.now in
    let order = g.met.I.ZoneIndex.ordered c.names.set in
    let new = sym c.in_ok-put_owned.ensures.new ∙ c.if-not-branch.false in
    let left = c.in_ok-put_owned.ensures.left c.if-not-branch.false in
    record {
      order = (ordered_parts c.names.rest.now group others c.in-Some.ensures.whole c.names.invariant.order).1;
      new = ap (λ (xs : List Record). are_new xs others) left ∙ sym (new_group cur group others order new)
          ∙ ap (are_new cur) (sym c.in-Some.ensures.whole) ∙ c.names.invariant.new;
      left = λ all. ap (λ (xs : List Record). united xs others) left
          ∙ sym (united_group cur group others order new (ap (are_new cur) (sym c.in-Some.ensures.whole) ∙ c.names.invariant.new ∙ all))
          ∙ ap (united cur) (sym c.in-Some.ensures.whole) ∙ c.names.invariant.left all;
    }

pub returns-clause-left : goal.returns-clause-left
returns-clause-left g c = λ _.
    (let cur = g.I.ZoneIndex.records c.names.set in
    let none = none_left c.names.rest.now c.in_default.ensures in
    sym (ap (united cur) none) ∙ c.names.invariant.left (sym c.names.invariant.new ∙ ap (are_new cur) none))
