use Rattle.std.proofs.Common.{◌≡◌, ◌+◌, true, drop, List, sym, ap, subst, ◌∙◌}
use Rattle.dns_names.specs.Name.{Labels}
use Rattle.dns_records.specs.Record.{Record}
use Rattle.dns_zone.specs.Order.{names_same}
use Rattle.dns_zone.specs.Records.{are_of, is_ordered}
use Rattle.dns_update.specs.Effect.{effect, effects}
use Rattle.dns_update.specs.Prescan.{prescan_fault}
use Rattle.dns_update.proofs.AtOwner.{effect_ordered, effect_owned}
use Rattle.dns_update.proofs.ResourceRecords.{next_at, passes_at}
use Rattle.dns_update.proofs.Named.{named_at}
use Rattle.dns_update.proofs.effect.take_each.Goals as goal

pub take_effect-requires-clause-passes : goal.take_effect-requires-clause-passes
take_effect-requires-clause-passes g c = passes_at (prescan_fault c.args.apex.now) c.args.items.now c.loop-item.item-index c.item-item.result c.requires.pass c.loop-item-test.true c.item-item.is

pub take_effect-requires-clause-owned : goal.take_effect-requires-clause-owned
take_effect-requires-clause-owned g c =
    let name = c.args.name.now in
    let item = c.item-item.result in
    let same = names_same item.owner name (named_at name c.args.items.now c.loop-item.item-index item c.requires.named c.loop-item-test.true c.item-item.is) in
    subst (λ (n : Labels). are_of n (g.H.Held.records c.loop-item.held) ≡ true) (sym same) c.loop-item.invariant.owned

pub loop-item-preserved : goal.loop-item-preserved
loop-item-preserved g c =
    let name = c.args.name.now in
    let apex = c.args.apex.now in
    let items = c.args.items.now in
    let k = c.loop-item.item-index in
    let item = c.item-item.result in
    let xs = g.H.Held.records c.loop-item.held in
    let h = c.loop-item.invariant in
    let same : item.owner ≡ name = names_same item.owner name (named_at name items k item c.requires.named c.loop-item-test.true c.item-item.is) in
    let own : are_of item.owner xs ≡ true = subst (λ (n : Labels). are_of n xs ≡ true) (sym same) h.owned in
    let is = c.in_ok-take_effect.ensures in
    record {
      done = ap (λ (rs : List Record). effects apex rs (drop (k + 1) items)) is ∙ ap (effects apex xs) (sym (next_at items k item c.loop-item-test.true c.item-item.is)) ∙ h.done;
      order = ap is_ordered is ∙ effect_ordered apex item xs h.order;
      owned = ap (are_of name) is ∙ subst (λ (n : Labels). are_of n (effect apex xs item) ≡ true) same (effect_owned apex item xs h.order own);
    }
