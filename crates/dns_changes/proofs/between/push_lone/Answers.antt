use Rattle.std.proofs.Common.{true, false, ◌++◌, [], ◌∷◌, sym, ap, ◌∙◌}
use Rattle.dns_changes.specs.Change.{only_in}
use Rattle.dns_changes.proofs.Touched.{lone_next, lone_end}
use Rattle.dns_changes.proofs.between.push_lone.Goals as goal
use Rattle.dns_changes.proofs.between.push_lone.Goals.{then-is_lone+in_ok-clone+in_ok-push, else-is_lone}

pub loop-record-preserved : goal.loop-record-preserved
loop-record-preserved c =
    let others = c.args.others.now in
    let records = c.args.records.now in
    let r = c.record-item.result in
    let kept = c.loop-record.lone.items in
    let all = c.args.lone.now.items ++ only_in records others in
    elim c.if-is_lone.branch [
      | then-is_lone+in_ok-clone+in_ok-push w ↦
          let pushed = ap (λ v. v.items) w.lone-is ∙ w.in_ok-push.ensures.items ∙ ap (λ x. kept ++ x ∷ []) w.in_ok-clone.ensures.cases in
          lone_next others records c.loop-record.record-index r kept c.if-is_lone.lone.items all true c.loop-record-test.true c.record-item.is (sym w.if-is_lone.true ∙ c.is_lone.ensures) pushed c.loop-record.invariant
      | else-is_lone w ↦ lone_next others records c.loop-record.record-index r kept c.if-is_lone.lone.items all false c.loop-record-test.true c.record-item.is (sym w.if-is_lone.false ∙ c.is_lone.ensures) (ap (λ v. v.items) w.lone-is) c.loop-record.invariant
    ]

pub returns : goal.returns
returns c = lone_end c.args.others.now c.args.records.now c.loop-record.record-index c.loop-record.lone.items _ c.loop-record-test.false c.loop-record.invariant
