use Rattle.std.proofs.lemmas.Fn.{always_returns_same}
use Rattle.std.proofs.Common.{◌≡◌, ◌≤◌, true, false, not, length, List, sym, subst, ◌∙◌, rules}
use Rattle.std.specs.Prelude.{nat_lt}
use Rattle.std.specs.List.Sorted.{IsPartitionPoint}
use Rattle.dns_records.specs.Record.{Record}
use Rattle.dns_zone.proofs.Typed.{Rises, below_first}
use Rattle.dns_update.proofs.Ranges.{ends_later, outside_kept, rises_from, up_to_first}
use Rattle.dns_update.proofs.owner_records.take_types.Goals as goal
use Rattle.dns_update.proofs.owner_records.take_types.Goals.{After-partition_point-end}

begins : (c : After-partition_point-end) → IsPartitionPoint (λ r. nat_lt r.rtype c.args.first ≡ true) (λ r. nat_lt r.rtype c.args.first ≡ false) c.args.records.now.items c.partition_point-begin.result
begins c =
    let rises : Rises c.deref.result.now = subst Rises (sym c.deref.ensures.value) (rises_from c.args.name.now c.args.records.now.items c.requires.order c.requires.owned) in
    subst (λ (xs : List Record). IsPartitionPoint (λ r. nat_lt r.rtype c.args.first ≡ true) (λ r. nat_lt r.rtype c.args.first ≡ false) xs c.partition_point-begin.result) c.deref.ensures.value
    (c.partition_point-begin.ensures.partitioned (λ r. nat_lt r.rtype c.args.first) (always_returns_same _ _ _ (λ a r f k. search rules)) (below_first c.args.first c.deref.result.now rises))

ends : (c : After-partition_point-end) → IsPartitionPoint (λ r. not (nat_lt c.args.last r.rtype) ≡ true) (λ r. not (nat_lt c.args.last r.rtype) ≡ false) c.args.records.now.items c.partition_point-end.result
ends c =
    let rises : Rises c.deref-2.result.now = subst Rises (sym c.deref-2.ensures.value) (rises_from c.args.name.now c.args.records.now.items c.requires.order c.requires.owned) in
    subst (λ (xs : List Record). IsPartitionPoint (λ r. not (nat_lt c.args.last r.rtype) ≡ true) (λ r. not (nat_lt c.args.last r.rtype) ≡ false) xs c.partition_point-end.result) c.deref-2.ensures.value
    (c.partition_point-end.ensures.partitioned (λ r. not (nat_lt c.args.last r.rtype)) (always_returns_same _ _ _ (λ a r f k. search rules)) (up_to_first c.args.last c.deref-2.result.now rises))

order : (c : After-partition_point-end) → c.partition_point-begin.result ≤ c.partition_point-end.result
order c =
    ends_later c.args.first c.args.last c.args.records.now.items c.partition_point-begin.result c.partition_point-end.result c.requires.rise
    (subst (λ (xs : List Record). c.partition_point-begin.result ≤ length xs) c.deref.ensures.value c.partition_point-begin.ensures.bound)
    (begins c).0 (ends c).1

pub take_between-requires-clause-order : goal.take_between-requires-clause-order
take_between-requires-clause-order c = order (goal.at.take_between-requires-clause-order c).After-partition_point-end

pub returns : goal.returns
returns c =
    let at = (goal.at.returns c).After-partition_point-end in
    let xs = c.args.records.now.items in
    let begin = c.partition_point-begin.result in
    let end = c.partition_point-end.result in
    let inside : end ≤ length xs = subst (λ (ys : List Record). end ≤ length ys) c.deref-2.ensures.value c.partition_point-end.ensures.bound in
    let rises = rises_from c.args.name.now xs c.requires.order c.requires.owned in
    c.take_between.ensures
    ∙ outside_kept c.args.first c.args.last xs begin end c.requires.rise rises (order at) inside (begins at).0 (begins at).1 (ends at).0 (ends at).1
