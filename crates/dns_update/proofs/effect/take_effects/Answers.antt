use Rattle.std.proofs.Common.{List, sym, ap, subst, ◌∙◌}
use Rattle.std.specs.List.{AllByRecursion}
use Rattle.dns_records.specs.Record.{Record}
use Rattle.dns_update.specs.ResourceRecord.{HasForm, first_fault}
use Rattle.dns_update.specs.Prescan.{prescan_fault}
use Rattle.dns_update.specs.Effect.{effects}
use Rattle.dns_update.proofs.AtOwner.{effects_behind, form_parts}
use Rattle.dns_update.proofs.ResourceRecords.{fault_parts}
use Rattle.dns_update.proofs.effect.take_effects.Goals as goal

pub take_run-requires-clause-pass : goal.take_run-requires-clause-pass
take_run-requires-clause-pass g c =
    let fault = prescan_fault c.args.apex.now in
    (fault_parts fault c.in-Some.run'.now c.in-Some.others.now (ap (first_fault fault) (sym c.in-Some.ensures.whole) ∙ c.runs.invariant.pass)).0

pub take_run-requires-clause-form : goal.take_run-requires-clause-form
take_run-requires-clause-form g c =
    (form_parts HasForm c.in-Some.run'.now c.in-Some.others.now (subst (AllByRecursion HasForm) c.in-Some.ensures.whole c.runs.invariant.form)).0

pub runs-preserved : goal.runs-preserved
runs-preserved g c =
    let fault = prescan_fault c.args.apex.now in
    let apex = c.args.apex.now in
    let set = g.I.ZoneIndex.records c.runs.set in
    let run = c.in-Some.run'.now in
    let others = c.in-Some.others.now in
    record {
      done = ap (λ (xs : List Record). effects apex xs others) c.in_ok-take_run.ensures ∙ sym (effects_behind apex run others set) ∙ ap (effects apex set) (sym c.in-Some.ensures.whole) ∙ c.runs.invariant.done;
      pass = (fault_parts fault run others (ap (first_fault fault) (sym c.in-Some.ensures.whole) ∙ c.runs.invariant.pass)).1;
      form = (form_parts HasForm run others (subst (AllByRecursion HasForm) c.in-Some.ensures.whole c.runs.invariant.form)).1;
    }
