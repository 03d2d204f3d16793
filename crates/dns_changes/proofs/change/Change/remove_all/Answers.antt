use Rattle.std.proofs.Common.{◌≡◌, true, false, inr, sym, ap, ◌∙◌}
use Rattle.dns_zone.specs.Records.{contains, without}
use Rattle.dns_changes.specs.Change.{are_present, removed_from}
use Rattle.dns_changes.proofs.Steps.{removes_absent, present_both, removed_both}
use Rattle.dns_changes.proofs.change.Change.remove_all.Goals as goal

pub returns-then-not-branch-2-clause-refused : goal.returns-then-not-branch-2-clause-refused
returns-then-not-branch-2-clause-refused g c =
    let xs = g.I.ZoneIndex.records c.args.set.now in
    let one = g.I.ZoneIndex.records c.take_out.new.set in
    let change = c.args.self.now in
    let there : contains xs change.old_soa ≡ true = ap (contains xs) (sym c.old_soa.ensures) ∙ sym c.in_ok-take_out.ensures.present ∙ c.if-not-branch.false in
    let absent : are_present one change.removed ≡ false = ap (are_present one) (sym c.removed.ensures.records) ∙ sym c.in_ok-take_each.ensures.present ∙ c.if-not-branch-2.true in
    inr (removes_absent change xs one there (c.in_ok-take_out.ensures.left c.if-not-branch.false ∙ ap (λ r. without r xs) c.old_soa.ensures) absent)

pub returns-clause-present : goal.returns-clause-present
returns-clause-present g c =
    let xs = g.I.ZoneIndex.records c.args.set.now in
    let one = g.I.ZoneIndex.records c.take_out.new.set in
    let change = c.args.self.now in
    let there : contains xs change.old_soa ≡ true = ap (contains xs) (sym c.old_soa.ensures) ∙ sym c.in_ok-take_out.ensures.present ∙ c.if-not-branch.false in
    let present : are_present one change.removed ≡ true = ap (are_present one) (sym c.removed.ensures.records) ∙ sym c.in_ok-take_each.ensures.present ∙ c.if-not-branch-2.false in
    (there, present_both xs one change.old_soa change.removed there (c.in_ok-take_out.ensures.left c.if-not-branch.false ∙ ap (λ r. without r xs) c.old_soa.ensures) ∙ present)

pub returns-clause-left : goal.returns-clause-left
returns-clause-left g c =
    let xs = g.I.ZoneIndex.records c.args.set.now in
    let one = g.I.ZoneIndex.records c.take_out.new.set in
    let change = c.args.self.now in
    let there : contains xs change.old_soa ≡ true = ap (contains xs) (sym c.old_soa.ensures) ∙ sym c.in_ok-take_out.ensures.present ∙ c.if-not-branch.false in
    c.in_ok-take_each.ensures.left c.if-not-branch-2.false ∙ ap (removed_from one) c.removed.ensures.records
    ∙ sym (removed_both xs one change.old_soa change.removed (g.met.I.ZoneIndex.ordered c.args.set.now) there (c.in_ok-take_out.ensures.left c.if-not-branch.false ∙ ap (λ r. without r xs) c.old_soa.ensures))
