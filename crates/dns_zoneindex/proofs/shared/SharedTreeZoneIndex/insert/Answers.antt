use Rattle.std.proofs.Common.{◌≡◌, true, List, sym, subst, ◌∙◌, reverse}
use Rattle.std.specs.List.{AllByRecursion}
use Rattle.dns_records.specs.Record.{Record, IsRecord}
use Rattle.dns_zone.specs.Records.{is_ordered, put}
use Rattle.dns_zoneindex.specs.Entries.{PathRecord}
use Rattle.dns_zoneindex.specs.Owned.{path_records, are_owned}
use Rattle.dns_zoneindex.specs.Setting.{set_at}
use Rattle.dns_zone.proofs.Replaced.{at_ordered}
use Rattle.dns_zoneindex.proofs.Keeping.{put_follows, either, on_ok}
use Rattle.dns_zoneindex.proofs.shared.SharedTreeZoneIndex.insert.Goals as goal

pub with_record-requires : goal.with_record-requires
with_record-requires c = subst (λ (x : List Record). is_ordered x ≡ true) (sym c.records_at.ensures) (at_ordered (path_records c.args.self.now.tree) c.lend.result c.args.self.now.in_order)

pub invariant_of-self : goal.invariant_of-self
invariant_of-self c =
    let es = c.args.self.now.tree in
    let new = c.set.new.self in
    let rs = c.in_ok-records.records.items in
    let there = set_at (reverse c.lend-2.result) rs es in
    let owner = c.in_ok-owner.ensures.cases ∙ c.owner.ensures in
    let follows = put_follows c.args.added c.lend.result c.lend-2.result es c.records_at.result.now rs c.args.self.now.each_at_owner c.args.self.now.in_order c.args.self.now.each_valid
    c.rdata-valid.ensures.valid (c.lend.ensures ∙ owner) (c.lend-2.ensures ∙ owner) c.records_at.ensures c.in_ok-records.ensures in
    record {
      each_at_owner = either (λ (x : List PathRecord). are_owned x ≡ true) c.set.result new there es c.set.ensures.ok c.set.ensures.err follows.at_owner c.args.self.now.each_at_owner;
      in_order = either (λ (x : List PathRecord). is_ordered (path_records x) ≡ true) c.set.result new there es c.set.ensures.ok c.set.ensures.err follows.in_order c.args.self.now.in_order;
      each_valid = either (λ (x : List PathRecord). ∥ AllByRecursion IsRecord (path_records x) ∥₁) c.set.result new there es c.set.ensures.ok c.set.ensures.err follows.valid c.args.self.now.each_valid;
    }

pub returns-clause-ok : goal.returns-clause-ok
returns-clause-ok c =
    let es = c.args.self.now.tree in
    let rs = c.in_ok-records.records.items in
    let owner = c.in_ok-owner.ensures.cases ∙ c.owner.ensures in
    let follows = put_follows c.args.added c.lend.result c.lend-2.result es c.records_at.result.now rs c.args.self.now.each_at_owner c.args.self.now.in_order c.args.self.now.each_valid
    c.rdata-valid.ensures.valid (c.lend.ensures ∙ owner) (c.lend-2.ensures ∙ owner) c.records_at.ensures c.in_ok-records.ensures in
    on_ok c.set.result c.set.new.self (set_at (reverse c.lend-2.result) rs es) (put c.args.added (path_records es)) c.set.ensures.ok follows.is
