use Rattle.std.proofs.Common.{◌≡◌, true, not, List, sym, ap, subst, ◌∙◌}
use Rattle.std.specs.List.{list_any}
use Rattle.dns_records.specs.Record.{Record}
use Rattle.dns_zone.specs.Records.{are_of, has, is_ordered, others, united}
use Rattle.dns_zone.proofs.Replaced.{at_ordered}
use Rattle.dns_changes.proofs.Groups.{new_is, put_is, come_ordered, come_owned}
use Rattle.dns_changes.proofs.group.put_owned.Goals as goal

pub are_apart-requires : goal.are_apart-requires
are_apart-requires g c =
    let set = c.args.set.now in
    subst (λ (xs : List Record). is_ordered xs ≡ true) (sym c.records_at-held.ensures) (at_ordered (g.I.ZoneIndex.records set) c.args.name.now (g.met.I.ZoneIndex.ordered set))

pub returns-then-not-are_apart-clause-new : goal.returns-then-not-are_apart-clause-new
returns-then-not-are_apart-clause-new g c =
    let come = c.args.come.now in
    sym c.if-not-are_apart.true ∙ c.are_apart.ensures ∙ ap (λ (xs : List Record). not (list_any (λ r. has r xs) come)) c.records_at-held.ensures
    ∙ new_is c.args.name.now (g.I.ZoneIndex.records c.args.set.now) come c.requires.order c.requires.owned

pub merged-requires-clause-held : goal.merged-requires-clause-held
merged-requires-clause-held g c =
    let set = c.args.set.now in
    subst (λ (xs : List Record). is_ordered xs ≡ true) (sym c.records_at-held.ensures) (at_ordered (g.I.ZoneIndex.records set) c.args.name.now (g.met.I.ZoneIndex.ordered set))

pub replace_at-requires-clause-order : goal.replace_at-requires-clause-order
replace_at-requires-clause-order g c =
    let set = c.args.set.now in
    let xs = g.I.ZoneIndex.records set in
    let held = subst (λ (ys : List Record). is_ordered ys ≡ true) (sym c.records_at-held.ensures) (at_ordered xs c.args.name.now (g.met.I.ZoneIndex.ordered set)) in
    subst (λ (ys : List Record). is_ordered ys ≡ true) (sym c.in_ok-all.ensures) (come_ordered c.records_at-held.result.now c.args.come.now held)

pub replace_at-requires-clause-owned : goal.replace_at-requires-clause-owned
replace_at-requires-clause-owned g c =
    let name = c.args.name.now in
    let xs = g.I.ZoneIndex.records c.args.set.now in
    let come = c.args.come.now in
    subst (λ (ys : List Record). are_of name ys ≡ true) (sym (c.in_ok-all.ensures ∙ ap (λ (ys : List Record). united ys come) c.records_at-held.ensures)) (come_owned name xs come c.requires.owned)

pub returns-clause-new : goal.returns-clause-new
returns-clause-new g c =
    let come = c.args.come.now in
    sym c.if-not-are_apart.false ∙ c.are_apart.ensures ∙ ap (λ (xs : List Record). not (list_any (λ r. has r xs) come)) c.records_at-held.ensures
    ∙ new_is c.args.name.now (g.I.ZoneIndex.records c.args.set.now) come c.requires.order c.requires.owned

pub returns-clause-left : goal.returns-clause-left
returns-clause-left g c = λ _.
    (let name = c.args.name.now in
    let xs = g.I.ZoneIndex.records c.args.set.now in
    let come = c.args.come.now in
    c.in_ok-replace_at.ensures.ok
    ∙ ap (λ (ys : List Record). united (others xs name) ys) (c.in_ok-all.ensures ∙ ap (λ (ys : List Record). united ys come) c.records_at-held.ensures)
    ∙ put_is name xs come (g.met.I.ZoneIndex.ordered c.args.set.now))
