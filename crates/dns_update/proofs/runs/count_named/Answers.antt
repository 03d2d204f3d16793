use Rattle.std.proofs.Common.{◌+◌, ◌<◌, ◌≤◌, sym, ◌∙◌, arith}
use Rattle.std.proofs.Common.{ℕ}
use Rattle.dns_wire.specs.Message.{ResourceRecord}
use Rattle.dns_changes.proofs.Fronts.{owned_more}
use Rattle.dns_update.proofs.runs.count_named.Goals as goal

more : {m n : ℕ} → m < n → m + 1 ≤ n
more h = omega (arith, h)

pub named-preserved : goal.named-preserved
named-preserved c =
    let xs = c.args.items.now in
    let i = c.index-items-count.result in
    record {
      inside = more c.named-test.true;
      named = owned_more (λ (i : ResourceRecord). i.owner) c.args.name.now xs c.named.count i c.named-test.true c.index-items-count.is (sym c.is_owned_by.ensures ∙ c.if-is_owned_by.true) c.named.invariant.named;
    }
