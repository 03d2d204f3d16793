use Rattle.std.proofs.Common.{◌≡◌, List, true, false, inr, sym, ap, subst, ◌∙◌}
use Rattle.dns_records.specs.Record.{Record}
use Rattle.dns_zone.specs.Records.{is_ordered}
use Rattle.dns_zone.specs.Zone.{has_twice, zone_fault}
use Rattle.dns_zone.specs.Made.{IsSetOf}
use Rattle.dns_zone.proofs.Gathering.{twice_from, fault_same, set_is}
use Rattle.dns_zone.proofs.zone.Zone.from_records.Goals as goal

pub refusal_of_doubles-requires : goal.refusal_of_doubles-requires
refusal_of_doubles-requires g c =
    let broken : is_ordered c.sort.new.records.items ≡ false = sym (c.if-not-rises.ensures ∙ ap is_ordered c.deref.ensures.value) in
    ap has_twice c.deref-then-not-rises.ensures.value ∙ twice_from c.sort.new.records.items c.in_ok-sort.ensures.sorted broken

pub returns-then-not-rises-clause-refused : goal.returns-then-not-rises-clause-refused
returns-then-not-rises-clause-refused g c =
    inr (fault_same c.args.apex c.args.records.items c.sort.new.records.items c.sort.ensures.same ∙ (λ i. zone_fault (sym c.lend-then-not-rises.ensures i) (sym c.deref-then-not-rises.ensures.value i)) ∙ c.refusal_of_doubles.ensures)

pub returns-in-Ok-clause-found : goal.returns-in-Ok-clause-found
returns-in-Ok-clause-found g c =
    let ordered : is_ordered c.sort.new.records.items ≡ true = sym (c.if-not-rises.ensures ∙ ap is_ordered c.deref.ensures.value) in
    let set = set_is c.args.records.items c.sort.new.records.items c.sort.ensures.same ordered in
    let found = c.in-Ok.ensures.found in
    (found.2, found.1, subst (λ (ys : List Record). IsSetOf c.args.records.items ys) (sym (found.0 ∙ c.in_ok-index.ensures)) set)

pub returns-in-Ok-clause-only : goal.returns-in-Ok-clause-only
returns-in-Ok-clause-only g c =
    let found = c.in-Ok.ensures.found in
    fault_same c.args.apex c.args.records.items c.sort.new.records.items c.sort.ensures.same ∙ (λ i. zone_fault (sym found.1 i) (sym (found.0 ∙ c.in_ok-index.ensures) i)) ∙ found.2.valid

pub returns-clause-refused : goal.returns-clause-refused
returns-clause-refused g c =
    inr (fault_same c.args.apex c.args.records.items c.sort.new.records.items c.sort.ensures.same ∙ ap (zone_fault c.args.apex) (sym c.in_ok-index.ensures) ∙ c.in-Err.ensures.refused.0)
