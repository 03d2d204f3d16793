use Rattle.std.proofs.Common.{◌≡◌, List, ◌∙◌}
use Rattle.std.specs.Prelude.{Result, Ok, Err, OnOk}
use Rattle.std.specs.List.{splice}
use Rattle.dns_records.specs.Record.{Record}
use Rattle.dns_zone.specs.Records.{others, united}
use Rattle.dns_zone.specs.Sets.{sorted_from}
use Rattle.dns_zone.proofs.Replaced.{all_from, between_is, stand_there}
use Rattle.dns_zone.proofs.list.replace_owned.Goals as goal

on_ok : {T E : Type 0} (r : Result T E) (xs ys zs : List Record) → OnOk r (xs ≡ ys) → ys ≡ zs → OnOk r (xs ≡ zs)
on_ok (Ok t) xs ys zs a e = a ∙ e
on_ok (Err x) xs ys zs a e = a

pub returns-clause-ok : goal.returns-clause-ok
returns-clause-ok c =
    let xs = c.args.items.now.items in
    let come = c.args.come.items in
    let name = c.args.name.now in
    let b = c.count_before-begin in
    let e = c.end_of_match-end in
    let there = stand_there c.reborrow.result name c.deref.result.now c.deref-2.result.now xs b.result e.result c.reborrow.ensures c.deref.ensures.value c.deref-2.ensures.value
    (record { met = e.ensures.from; inside = e.ensures.bound; before = b.ensures.before; behind = b.ensures.behind; here = e.ensures.here; after = e.ensures.past }) in
    on_ok c.replace_between.result c.replace_between.new.items.items (splice xs b.result e.result come) (united (others xs name) come) c.replace_between.ensures.ok
    (between_is name xs come b.result e.result (sorted_from xs c.requires.held) (sorted_from come c.requires.order) (all_from name come c.requires.owned) there)
