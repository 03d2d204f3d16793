use Rattle.std.proofs.Common.{◌≡◌, ◌∷◌, [], ◌++◌, List, sym, subst, ◌∙◌, arith}
use Rattle.std.specs.List.{All}
use Rattle.std.proofs.lemmas.Grind.{common_steps}
use Rattle.std.proofs.lemmas.List.Elements.{All-push}
use Rattle.dns_names.specs.Name.{Labels}
use Rattle.dns_zone.specs.SortKey.{IsSortKey, HasSortKey}
use Rattle.dns_zone.specs.declared.sorting.Keyed.{Keyed}
use Rattle.dns_zone.proofs.sorting.with_keys.Goals as goal

pub loop-record-preserved : goal.loop-record-preserved
loop-record-preserved c =
    let more : Keyed = record { key = c.sort_key-key.result; value = c.in_ok-value.value } in
    let pushed : c.push.new.self.items ≡ c.loop-record.keyed.items ++ more ∷ [] = c.in_ok-push.ensures.items in
    let named = c.lend.ensures ∙ c.owner.ensures in
    let its : HasSortKey c.args.apex.now more = subst (λ (n : Labels). IsSortKey c.args.apex.now n c.sort_key-key.result) named c.sort_key-key.ensures in
    record {
      values = grind (arith, common_steps);
      keys = subst (λ (x : List Keyed). All (HasSortKey c.args.apex.now) x) (sym pushed) (All-push (HasSortKey c.args.apex.now) c.loop-record.keyed.items more c.loop-record.invariant.keys its);
    }
