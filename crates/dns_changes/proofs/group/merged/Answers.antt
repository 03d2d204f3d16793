use Rattle.std.proofs.Common.{◌+◌, ◌++◌, [], ◌∷◌, List, drop, sym, ap, subst, ◌∙◌}
use Rattle.dns_records.specs.Record.{Record}
use Rattle.dns_zone.specs.Records.{united}
use Rattle.dns_zone.specs.Sets.{Sorted}
use Rattle.dns_changes.proofs.Steps.{next_at}
use Rattle.dns_changes.proofs.Groups.{merged_next, behind_ordered, sorted_rest}
use Rattle.dns_changes.proofs.group.merged.Goals as goal

pub loop-record-preserved : goal.loop-record-preserved
loop-record-preserved c =
    let come = c.args.come.now in
    let i = c.loop-record.record-index in
    let r = c.record-item.result in
    let rest = c.loop-record.rest.now in
    let all = c.loop-record.all.items in
    let a = c.parted.result.0.now in
    let b = c.parted.result.1.now in
    let more = drop (i + 1) come in
    let here = next_at come i r c.loop-record-test.true c.record-item.is in
    let pushed = c.in_ok-push.ensures.items ∙ (λ j. c.in_ok-push_copies.ensures j ++ c.in_ok-clone.ensures.cases j ∷ []) in
    record {
      whole = merged_next rest r more a b all c.push.new.self.items c.loop-record.invariant.order (subst Sorted here (sorted_rest come i c.requires.order)) c.parted.ensures.parts pushed
          ∙ ap (λ (ys : List Record). all ++ united rest ys) (sym here) ∙ c.loop-record.invariant.whole;
      order = behind_ordered rest r a b c.loop-record.invariant.order c.parted.ensures.parts;
    }
