use Rattle.std.proofs.Common.{◌≡◌, rules, ⊎_elim, Some, None, sym, ◌∙◌}
use Rattle.std.proofs.lemmas.Result.{err_from_is_err_and}
use Rattle.dns_zone.specs.Zone.{zone_fault}
use Rattle.dns_changes.specs.Change.{applied, change_fault}
use Rattle.dns_changes.specs.Applied.{change_leads}
use Rattle.dns_store.proofs.versions.next_by.Goals as goal

pub returns-in_err-apply-clause-only : goal.returns-in_err-apply-clause-only
returns-in_err-apply-clause-only g c after leads valid =
    let change = c.args.change.now in
    let records = c.in_ok-set.ensures ∙ c.index.ensures in
    let led = change_leads c.args.zone.now.records after change c.apex.ensures.valid.ordered valid.ordered leads in
    let p = err_from_is_err_and c.from_residual-in_err-apply.result c.from_residual-in_err-apply.ensures.1 in
    rw (p.1, p.2)
    (⊎_elim (λ memory. memory)
    (λ fault. let none : Some c.in_err-apply.field-0.0 ≡ None = sym fault ∙ (λ i. change_fault change (records i)) ∙ led.fits in absurd cc) c.in_err-apply.ensures.refused)

pub returns-in-Ok-clause-only : goal.returns-in-Ok-clause-only
returns-in-Ok-clause-only g c after leads valid =
    let change = c.args.change.now in
    let records = c.in_ok-set.ensures ∙ c.index.ensures in
    let led = change_leads c.args.zone.now.records after change c.apex.ensures.valid.ordered valid.ordered leads in
    c.in-Ok.ensures.found.0 ∙ c.in_ok-apply.ensures.applied ∙ (λ i. applied change (records i)) ∙ led.result

pub returns-in-Err-clause-only : goal.returns-in-Err-clause-only
returns-in-Err-clause-only g c after leads valid =
    let change = c.args.change.now in
    let records = c.in_ok-set.ensures ∙ c.index.ensures in
    let led = change_leads c.args.zone.now.records after change c.apex.ensures.valid.ordered valid.ordered leads in
    let name : c.in_ok-apex.apex ≡ c.args.zone.now.apex = search rules in
    let set = c.in_ok-apply.ensures.applied ∙ (λ i. applied change (records i)) ∙ led.result in
    absurd (c.in-Err.ensures.refused.1 ((λ i. zone_fault (name i) (set i)) ∙ valid.valid))
