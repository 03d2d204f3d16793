use Rattle.std.proofs.Common.{◌++◌, ◌∙◌, refl, sym}
use Rattle.std.proofs.lemmas.List.Elements.{filter-append}
use Rattle.dns_zone.proofs.Listed.{ordered_parts}
use Rattle.dns_update.specs.Ranges.{is_outside}
use Rattle.dns_update.proofs.Halved.{front_owned, back_owned}
use Rattle.dns_update.proofs.held.HalvesHeld.take_types.Goals as goal

pub take_types-requires-clause-order : goal.take_types-requires-clause-order
take_types-requires-clause-order g c =
    let xs = g.H.Held.records c.args.self.now.front in
    let ys = g.H.Held.records c.args.self.now.back in
    (ordered_parts (xs ++ ys) xs ys refl c.requires.order).0

pub take_types-requires-clause-owned : goal.take_types-requires-clause-owned
take_types-requires-clause-owned g c =
    let xs = g.H.Held.records c.args.self.now.front in
    let ys = g.H.Held.records c.args.self.now.back in
    front_owned c.args.name.now xs ys c.requires.owned

pub take_types-requires-2-clause-order : goal.take_types-requires-2-clause-order
take_types-requires-2-clause-order g c =
    let xs = g.H.Held.records c.args.self.now.front in
    let ys = g.H.Held.records c.args.self.now.back in
    (ordered_parts (xs ++ ys) xs ys refl c.requires.order).1

pub take_types-requires-2-clause-owned : goal.take_types-requires-2-clause-owned
take_types-requires-2-clause-owned g c =
    let xs = g.H.Held.records c.args.self.now.front in
    let ys = g.H.Held.records c.args.self.now.back in
    back_owned c.args.name.now xs ys c.requires.owned

pub returns : goal.returns
returns g c =
    let xs = g.H.Held.records c.args.self.now.front in
    let ys = g.H.Held.records c.args.self.now.back in
    (λ i. c.take_types.ensures i ++ c.take_types-2.ensures i) ∙ sym (filter-append (is_outside c.args.first c.args.last) xs ys)
