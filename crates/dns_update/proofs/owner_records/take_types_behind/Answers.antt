use Rattle.std.proofs.lemmas.Fn.{always_returns_same}
use Rattle.std.proofs.Common.{◌≡◌, ◌≤◌, true, false, not, length, List, sym, subst, ◌∙◌, rules}
use Rattle.std.specs.Prelude.{nat_lt}
use Rattle.std.specs.List.Sorted.{IsPartitionPoint}
use Rattle.dns_records.specs.Record.{Record}
use Rattle.dns_zone.proofs.Typed.{Rises}
use Rattle.dns_update.proofs.Ranges.{first_kept, rises_from, up_to_first}
use Rattle.dns_update.proofs.owner_records.take_types_behind.Goals as goal

pub returns : goal.returns
returns c =
    let xs = c.args.records.now.items in
    let end = c.partition_point-end.result in
    let rises : Rises c.deref.result.now = subst Rises (sym c.deref.ensures.value) (rises_from c.args.name.now xs c.requires.order c.requires.owned) in
    let parted : IsPartitionPoint (λ r. not (nat_lt c.args.last r.rtype) ≡ true) (λ r. not (nat_lt c.args.last r.rtype) ≡ false) xs end =
    subst (λ (ys : List Record). IsPartitionPoint (λ r. not (nat_lt c.args.last r.rtype) ≡ true) (λ r. not (nat_lt c.args.last r.rtype) ≡ false) ys end) c.deref.ensures.value
    (c.partition_point-end.ensures.partitioned (λ r. not (nat_lt c.args.last r.rtype)) (always_returns_same _ _ _ (λ a r f k. search rules)) (up_to_first c.args.last c.deref.result.now rises)) in
    c.truncate.ensures.items
    ∙ first_kept (λ r. not (nat_lt c.args.last r.rtype)) xs end (subst (λ (ys : List Record). end ≤ length ys) c.deref.ensures.value c.partition_point-end.ensures.bound) parted.0 parted.1
