use Rattle.std.proofs.Common.{◌≡◌, true, false, List, sym, ap, subst, ◌∙◌, reverse}
use Rattle.std.specs.Prelude.{MatchOption}
use Rattle.std.specs.List.{AllByRecursion}
use Rattle.dns_records.specs.Record.{Record, IsRecord}
use Rattle.dns_zone.specs.Records.{is_ordered, without, has, records_at}
use Rattle.dns_zoneindex.specs.Entries.{PathRecord}
use Rattle.dns_zoneindex.specs.Owned.{path_records, are_owned}
use Rattle.dns_zoneindex.specs.Setting.{set_at}
use Rattle.dns_zone.proofs.Replaced.{at_ordered}
use Rattle.dns_zoneindex.proofs.Keeping.{without_follows, either}
use Rattle.dns_zone.proofs.Parted.{has_parted, without_none}
use Rattle.dns_zoneindex.proofs.shared.SharedTreeZoneIndex.remove.Goals as goal

pub without_record-requires : goal.without_record-requires
without_record-requires c = subst (λ (x : List Record). is_ordered x ≡ true) (sym c.records_at.ensures) (at_ordered (path_records c.args.self.now.tree) c.lend-owner.result c.args.self.now.in_order)

pub invariant_of-self : goal.invariant_of-self
invariant_of-self c =
    let r = c.args.removed.now in
    let es = c.args.self.now.tree in
    let new = c.set.new.self in
    let held = c.records_at.result.now in
    let rs = c.in-Some.records.items in
    let there = set_at (reverse c.lend-owner.result) rs es in
    let got = subst (λ o. MatchOption o (has r held ≡ false) (λ x. (has r held ≡ true) × (x.items ≡ without r held))) c.in-Some.is c.in_ok-records.ensures in
    let follows = without_follows r c.lend-owner.result es held rs c.args.self.now.each_at_owner c.args.self.now.in_order c.args.self.now.each_valid
    (c.lend-owner.ensures ∙ c.owner.ensures) c.records_at.ensures got.1 in
    record {
      each_at_owner = either (λ (x : List PathRecord). are_owned x ≡ true) c.set.result new there es c.set.ensures.ok c.set.ensures.err follows.at_owner c.args.self.now.each_at_owner;
      in_order = either (λ (x : List PathRecord). is_ordered (path_records x) ≡ true) c.set.result new there es c.set.ensures.ok c.set.ensures.err follows.in_order c.args.self.now.in_order;
      each_valid = either (λ (x : List PathRecord). ∥ AllByRecursion IsRecord (path_records x) ∥₁) c.set.result new there es c.set.ensures.ok c.set.ensures.err follows.valid c.args.self.now.each_valid;
    }

pub returns-in_ok-set-in-Some-clause-found : goal.returns-in_ok-set-in-Some-clause-found
returns-in_ok-set-in-Some-clause-found c =
    let r = c.args.removed.now in
    let held = c.records_at.result.now in
    let xs = path_records c.args.self.now.tree in
    let got = subst (λ o. MatchOption o (has r held ≡ false) (λ x. (has r held ≡ true) × (x.items ≡ without r held))) c.in-Some.is c.in_ok-records.ensures in
    let held_is : held ≡ records_at xs r.owner = c.records_at.ensures ∙ ap (records_at xs) (c.lend-owner.ensures ∙ c.owner.ensures) in
    sym got.0 ∙ ap (has r) held_is ∙ has_parted r xs

pub returns-in_ok-set-in-Some-clause-ok : goal.returns-in_ok-set-in-Some-clause-ok
returns-in_ok-set-in-Some-clause-ok c =
    let r = c.args.removed.now in
    let es = c.args.self.now.tree in
    let held = c.records_at.result.now in
    let rs = c.in-Some.records.items in
    let got = subst (λ o. MatchOption o (has r held ≡ false) (λ x. (has r held ≡ true) × (x.items ≡ without r held))) c.in-Some.is c.in_ok-records.ensures in
    let follows = without_follows r c.lend-owner.result es held rs c.args.self.now.each_at_owner c.args.self.now.in_order c.args.self.now.each_valid
    (c.lend-owner.ensures ∙ c.owner.ensures) c.records_at.ensures got.1 in
    ap path_records c.in_ok-set-in-Some.ensures.ok ∙ follows.is

pub returns-in-None-clause-found : goal.returns-in-None-clause-found
returns-in-None-clause-found c =
    let r = c.args.removed.now in
    let held = c.records_at.result.now in
    let xs = path_records c.args.self.now.tree in
    let none : has r held ≡ false = subst (λ o. MatchOption o (has r held ≡ false) (λ x. (has r held ≡ true) × (x.items ≡ without r held))) c.in-None.is c.in_ok-records.ensures in
    let held_is : held ≡ records_at xs r.owner = c.records_at.ensures ∙ ap (records_at xs) (c.lend-owner.ensures ∙ c.owner.ensures) in
    sym none ∙ ap (has r) held_is ∙ has_parted r xs

pub returns-in-None-clause-ok : goal.returns-in-None-clause-ok
returns-in-None-clause-ok c =
    let r = c.args.removed.now in
    let held = c.records_at.result.now in
    let xs = path_records c.args.self.now.tree in
    let none : has r held ≡ false = subst (λ o. MatchOption o (has r held ≡ false) (λ x. (has r held ≡ true) × (x.items ≡ without r held))) c.in-None.is c.in_ok-records.ensures in
    let held_is : held ≡ records_at xs r.owner = c.records_at.ensures ∙ ap (records_at xs) (c.lend-owner.ensures ∙ c.owner.ensures) in
    sym (without_none r xs (sym (ap (has r) held_is ∙ has_parted r xs) ∙ none))
