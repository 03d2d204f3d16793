use Rattle.std.proofs.Common.{◌≡◌, true, List, subst, reverse}
use Rattle.std.specs.List.{AllByRecursion}
use Rattle.dns_records.specs.Record.{IsRecord}
use Rattle.dns_zone.specs.Records.{is_ordered, others, united}
use Rattle.dns_zoneindex.specs.Entries.{PathRecord}
use Rattle.dns_zoneindex.specs.Owned.{path_records, are_owned}
use Rattle.dns_zoneindex.specs.Setting.{set_at}
use Rattle.dns_zoneindex.proofs.Keeping.{replaced, either, on_ok}
use Rattle.dns_zoneindex.proofs.shared.SharedTreeZoneIndex.replace_at.Goals as goal

pub invariant_of-self : goal.invariant_of-self
invariant_of-self c =
    let es = c.args.self.now.tree in
    let rs = c.args.come.items in
    let name = c.args.name.now in
    let new = c.set.new.self in
    let there = set_at (reverse name) rs es in
    let each = subst (AllByRecursion IsRecord) c.deref.ensures.value c.are_valid.ensures in
    let follows = replaced name rs es c.args.self.now.each_at_owner c.args.self.now.in_order c.args.self.now.each_valid c.requires.order c.requires.owned each in
    record {
      each_at_owner = either (λ (x : List PathRecord). are_owned x ≡ true) c.set.result new there es c.set.ensures.ok c.set.ensures.err follows.at_owner c.args.self.now.each_at_owner;
      in_order = either (λ (x : List PathRecord). is_ordered (path_records x) ≡ true) c.set.result new there es c.set.ensures.ok c.set.ensures.err follows.in_order c.args.self.now.in_order;
      each_valid = either (λ (x : List PathRecord). ∥ AllByRecursion IsRecord (path_records x) ∥₁) c.set.result new there es c.set.ensures.ok c.set.ensures.err follows.valid c.args.self.now.each_valid;
    }

pub returns-clause-ok : goal.returns-clause-ok
returns-clause-ok c =
    let es = c.args.self.now.tree in
    let rs = c.args.come.items in
    let name = c.args.name.now in
    let each = subst (AllByRecursion IsRecord) c.deref.ensures.value c.are_valid.ensures in
    let follows = replaced name rs es c.args.self.now.each_at_owner c.args.self.now.in_order c.args.self.now.each_valid c.requires.order c.requires.owned each in
    on_ok c.set.result c.set.new.self (set_at (reverse name) rs es) (united (others (path_records es) name) rs) c.set.ensures.ok follows.is
