use Rattle.std.proofs.Common.{◌≡◌, ℕ, ◌+◌, ◌<◌, ◌≤◌, true, sym, ◌∙◌, arith}
use Rattle.dns_names.specs.Name.{names_eq}
use Rattle.dns_zone.specs.Order.{names_itself}
use Rattle.dns_records.specs.Record.{Record}
use Rattle.dns_changes.proofs.Fronts.{owned_more}
use Rattle.dns_changes.proofs.group.count_owned.Goals as goal

more : {m n : ℕ} → m < n → m + 1 ≤ n
more h = omega (arith, h)

pub owned-preserved : goal.owned-preserved
owned-preserved c =
    let xs = c.args.records.now in
    let name = c.args.name.now in
    let r = c.index-records-count.result in
    let same = c.is.ensures.0 c.if-is.true in
    let is : names_eq r.owner name ≡ true = (λ i. names_eq (sym (c.lend.ensures ∙ c.owner.ensures) i) name) ∙ (λ i. names_eq (same i) name) ∙ names_itself name in
    record {
      inside = more c.owned-test.true;
      owned = owned_more (λ (s : Record). s.owner) name xs c.owned.count r c.owned-test.true c.index-records-count.is is c.owned.invariant.owned;
    }
