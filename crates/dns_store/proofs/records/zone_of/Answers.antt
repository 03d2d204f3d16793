use Rattle.std.proofs.Common.{rules, Some, None, ◌≡◌, true, inl, inr, ⊎_elim, refl, sym, ◌∙◌, ap}
use Rattle.std.proofs.Math.Logic.{∥∥₁_elim}
use Rattle.std.proofs.lemmas.Result.{err_from_is_err_and}
use Rattle.dns_zone.specs.Records.{is_ordered}
use Rattle.dns_zone.specs.Zone.{zone_fault}
use Rattle.dns_store.proofs.Plains.{zone_records}
use Rattle.dns_store.proofs.records.zone_of.Goals as goal

pub returns-in_err-records-clause-refused : goal.returns-in_err-records-clause-refused
returns-in_err-records-clause-refused g c =
    let p = err_from_is_err_and c.from_residual.result c.from_residual.ensures.1 in
    rw (p.1, p.2)
    (⊎_elim (λ memory. inl memory)
    (λ bad. inr (
      bad.0,
      λ records valid is. ∥∥₁_elim valid.each (λ x y. absurd x) (λ all. bad.1 records (record { each = all; octets_are = is })),
    )) c.in_err-records.ensures.refused)

pub returns-then-not-rises-clause-refused : goal.returns-then-not-rises-clause-refused
returns-then-not-rises-clause-refused g c =
    inr (
      refl,
      λ records valid is.
          let same = zone_records c.args.octets.now c.in_ok-records.records.items c.in_ok-records.ensures.found c.args.apex.now records valid is in
          let rising : is_ordered c.deref.result.now ≡ true = ap is_ordered (c.deref.ensures.value ∙ same) ∙ valid.ordered in
          let told = c.rises.ensures in
          let not = c.if-not-rises.true in
          absurd cc,
    )

pub returns-clause-refused : goal.returns-clause-refused
returns-clause-refused g c =
    inr (
      refl,
      λ records valid is.
          let same = zone_records c.args.octets.now c.in_ok-records.records.items c.in_ok-records.ensures.found c.args.apex.now records valid is in
          let fault = c.in-Err.ensures.refused.0 in
          let name : c.in_ok-apex.apex ≡ c.args.apex.now = search rules in
          let set = c.in_ok-set.ensures ∙ same in
          let none : Some c.in-Err.field-0.1 ≡ None = sym fault ∙ (λ i. zone_fault (name i) (set i)) ∙ valid.valid in
          absurd cc,
    )
