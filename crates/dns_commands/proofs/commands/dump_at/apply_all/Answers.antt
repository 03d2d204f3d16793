use Rattle.std.proofs.Common.{◌≡◌, ⊎_elim, suc, Some, None, take, length, sym, ◌∙◌, ap, arith, add-one}
use Rattle.std.proofs.lemmas.Result.{err_from_is_err_and}
use Rattle.dns_changes.specs.Applied.{change_leads}
use Rattle.dns_changes.specs.Change.{applied, change_fault}
use Rattle.dns_store.specs.Versions.{newest_after}
use Rattle.dns_store.proofs.Keeping.{led_all, step_at}
use Rattle.dns_commands.proofs.commands.dump_at.apply_all.Goals as goal

pub returns-in_err-apply : goal.returns-in_err-apply
returns-in_err-apply g c apex vs led zones ordered =
    let start = g.I.ZoneIndex.records c.args.set.now in
    let i = c.loop-change.change-index in
    let step = step_at apex start vs c.args.changes.now i c.change-item.result led zones ordered c.loop-change-test.true c.change-item.is in
    let leads = change_leads (newest_after start (take i vs)) (newest_after start (take (suc i) vs)) c.change-item.result step.ordered step.valid.ordered step.leads in
    let records = c.loop-change.invariant apex vs led zones ordered in
    let p = err_from_is_err_and c.from_residual.result c.from_residual.ensures.1 in
    rw (p.1, p.2)
    (⊎_elim (λ memory. memory)
    (λ fault. let none : Some c.in_err-apply.field-0.0 ≡ None = sym fault ∙ (λ j. change_fault c.change-item.result (records j)) ∙ leads.fits in absurd cc) c.in_err-apply.ensures.refused)

pub loop-change-preserved : goal.loop-change-preserved
loop-change-preserved g c apex vs led zones ordered =
    let start = g.I.ZoneIndex.records c.args.set.now in
    let i = c.loop-change.change-index in
    let step = step_at apex start vs c.args.changes.now i c.change-item.result led zones ordered c.loop-change-test.true c.change-item.is in
    let leads = change_leads (newest_after start (take i vs)) (newest_after start (take (suc i) vs)) c.change-item.result step.ordered step.valid.ordered step.leads in
    let records = c.loop-change.invariant apex vs led zones ordered in
    c.in_ok-apply.ensures.applied ∙ (λ j. applied c.change-item.result (records j)) ∙ leads.result ∙ ap (λ n. newest_after start (take n vs)) (sym (add-one i))

pub returns : goal.returns
returns g c apex vs led zones ordered =
    let start = g.I.ZoneIndex.records c.args.set.now in
    let whole : c.loop-change.change-index ≡ length c.args.changes.now = omega (arith, c.loop-change-test.false, c.loop-change.auto.change-index-end) in
    c.loop-change.invariant apex vs led zones ordered ∙ ap (λ n. newest_after start (take n vs)) whole ∙ ap (λ ws. newest_after start ws) (led_all start vs c.args.changes.now led)
