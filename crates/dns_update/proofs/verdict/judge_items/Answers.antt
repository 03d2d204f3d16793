use Rattle.std.proofs.Common.{Option, List, length, sym, ap, subst, ◌∙◌, arith}
use Rattle.std.specs.Prelude.{IfOk}
use Rattle.std.specs.List.{AllByRecursion}
use Rattle.std.proofs.lemmas.List.Sorted.{length_permutation}
use Rattle.dns_wire.specs.declared.codes.Rcode.{Rcode}
use Rattle.dns_wire.specs.Message.{ResourceRecord}
use Rattle.dns_update.specs.Effect.{effects}
use Rattle.dns_update.specs.ResourceRecord.{HasForm, first_fault, otherwise}
use Rattle.dns_update.specs.Prerequisites.{prerequisites_fault}
use Rattle.dns_update.specs.Prescan.{prescan_fault}
use Rattle.dns_update.specs.Verdict.{Verdict, IsVerdict, unless, versioned}
use Rattle.dns_update.proofs.ByName.{done_by_name, each_moved, passes_moved}
use Rattle.dns_update.proofs.ResourceRecords.{no_fault}
use Rattle.dns_update.proofs.verdict.judge_items.Goals as goal

pub judge_passed-requires-clause-few : goal.judge_passed-requires-clause-few
judge_passed-requires-clause-few g c =
    omega (arith, ap length c.deref-2.ensures.value, length_permutation c.args.items.items c.sort_by_owner.new.items.items c.sort_by_owner.ensures.moved, c.requires.few)

pub judge_passed-requires-clause-form : goal.judge_passed-requires-clause-form
judge_passed-requires-clause-form g c =
    subst (AllByRecursion HasForm) (sym c.deref-2.ensures.value) (each_moved HasForm c.args.items.items c.sort_by_owner.new.items.items c.sort_by_owner.ensures.moved c.requires.form)

pub judge_passed-requires-clause-pass : goal.judge_passed-requires-clause-pass
judge_passed-requires-clause-pass g c =
    let zone = c.args.zone.now in
    let items = c.args.items.items in
    let fault = prescan_fault zone.apex in
    let told = ap (λ (is : List ResourceRecord). otherwise (prerequisites_fault zone c.args.prerequisites.now) (first_fault fault is)) (sym c.deref.ensures.value) ∙ sym c.in_ok-rcode.ensures ∙ c.in_default.is in
    let pass = (no_fault (prerequisites_fault zone c.args.prerequisites.now) (first_fault fault items) told).1 in
    ap (first_fault fault) c.deref-2.ensures.value ∙ passes_moved fault items c.sort_by_owner.new.items.items c.sort_by_owner.ensures.moved pass

pub returns-clause-verdict : goal.returns-clause-verdict
returns-clause-verdict g c =
    let zone = c.args.zone.now in
    let items = c.args.items.items in
    let apex = zone.apex in
    let xs = zone.records in
    let told = ap (λ (is : List ResourceRecord). otherwise (prerequisites_fault zone c.args.prerequisites.now) (first_fault (prescan_fault apex) is)) (sym c.deref.ensures.value) ∙ sym c.in_ok-rcode.ensures ∙ c.in_default.is in
    let same = ap (effects apex xs) c.deref-2.ensures.value ∙ done_by_name apex c.sort_by_owner.new.items.items items xs c.apex-valid.ensures.valid.ordered c.sort_by_owner.ensures.stay in
    subst (λ (v : Verdict). IfOk c.judge_passed.result (IsVerdict g.I.ZoneIndex.records xs v))
    (ap (versioned xs) same ∙ ap (λ (o : Option Rcode). unless o (versioned xs (effects apex xs items))) (sym told))
    c.judge_passed.ensures.verdict
