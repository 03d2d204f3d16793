use Rattle.std.proofs.Common.{◌&&◌, sym, ◌∙◌, ◌++◌, refl}
use Rattle.std.proofs.lemmas.List.Folds.{list_all-append}
use Rattle.std.specs.Ordering.{is_lt}
use Rattle.dns_records.specs.Record.{record_cmp}
use Rattle.dns_zone.proofs.Listed.{ordered_parts}
use Rattle.dns_update.proofs.held.HalvesHeld.are_above.Goals as goal

pub are_above-requires : goal.are_above-requires
are_above-requires g c =
    let xs = g.H.Held.records c.args.self.now.front in
    let ys = g.H.Held.records c.args.self.now.back in
    (ordered_parts (xs ++ ys) xs ys refl c.requires).0

pub are_above-requires-2 : goal.are_above-requires-2
are_above-requires-2 g c =
    let xs = g.H.Held.records c.args.self.now.front in
    let ys = g.H.Held.records c.args.self.now.back in
    (ordered_parts (xs ++ ys) xs ys refl c.requires).1

pub returns : goal.returns
returns g c =
    let xs = g.H.Held.records c.args.self.now.front in
    let ys = g.H.Held.records c.args.self.now.back in
    (λ i. c.are_above.ensures i && c.are_above-2.ensures i) ∙ sym (list_all-append (λ r. is_lt (record_cmp c.args.one.now r)) xs ys)
