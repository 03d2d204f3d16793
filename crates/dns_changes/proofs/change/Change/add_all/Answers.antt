use Rattle.std.proofs.Common.{◌≡◌, true, false, not, inr, sym, ap, refl, ◌∙◌}
use Rattle.dns_zone.specs.Records.{has, put, united}
use Rattle.dns_changes.specs.Change.{are_new}
use Rattle.dns_changes.proofs.Steps.{new_both, united_both}
use Rattle.dns_changes.proofs.change.Change.add_all.Goals as goal

pub returns-then-not-branch-2-clause-refused : goal.returns-then-not-branch-2-clause-refused
returns-then-not-branch-2-clause-refused g c =
    let xs = g.I.ZoneIndex.records c.args.set.now in
    let one = g.I.ZoneIndex.records c.put_in.new.set in
    let change = c.args.self.now in
    let absent : has change.new_soa xs ≡ false = ap (λ r. has r xs) (sym c.new_soa.ensures) ∙ sym c.in_ok-put_in.ensures.new ∙ ap not c.if-not-branch.false in
    let there : are_new one change.added ≡ false = ap (are_new one) (sym c.added.ensures.records) ∙ sym c.in_ok-put_each.ensures.new ∙ c.if-not-branch-2.true in
    inr (new_both xs one change.new_soa change.added absent (c.in_ok-put_in.ensures.left c.if-not-branch.false ∙ ap (λ r. put r xs) c.new_soa.ensures) ∙ there, refl)

pub returns-clause-new : goal.returns-clause-new
returns-clause-new g c =
    let xs = g.I.ZoneIndex.records c.args.set.now in
    let one = g.I.ZoneIndex.records c.put_in.new.set in
    let change = c.args.self.now in
    let absent : has change.new_soa xs ≡ false = ap (λ r. has r xs) (sym c.new_soa.ensures) ∙ sym c.in_ok-put_in.ensures.new ∙ ap not c.if-not-branch.false in
    let fresh : are_new one change.added ≡ true = ap (are_new one) (sym c.added.ensures.records) ∙ sym c.in_ok-put_each.ensures.new ∙ c.if-not-branch-2.false in
    new_both xs one change.new_soa change.added absent (c.in_ok-put_in.ensures.left c.if-not-branch.false ∙ ap (λ r. put r xs) c.new_soa.ensures) ∙ fresh

pub returns-clause-left : goal.returns-clause-left
returns-clause-left g c =
    let xs = g.I.ZoneIndex.records c.args.set.now in
    let one = g.I.ZoneIndex.records c.put_in.new.set in
    let change = c.args.self.now in
    let absent : has change.new_soa xs ≡ false = ap (λ r. has r xs) (sym c.new_soa.ensures) ∙ sym c.in_ok-put_in.ensures.new ∙ ap not c.if-not-branch.false in
    let fresh : are_new one change.added ≡ true = ap (are_new one) (sym c.added.ensures.records) ∙ sym c.in_ok-put_each.ensures.new ∙ c.if-not-branch-2.false in
    let is = c.in_ok-put_in.ensures.left c.if-not-branch.false ∙ ap (λ r. put r xs) c.new_soa.ensures in
    c.in_ok-put_each.ensures.left c.if-not-branch-2.false ∙ ap (united one) c.added.ensures.records
    ∙ sym (united_both xs one change.new_soa change.added (g.met.I.ZoneIndex.ordered c.args.set.now) is (new_both xs one change.new_soa change.added absent is ∙ fresh))
