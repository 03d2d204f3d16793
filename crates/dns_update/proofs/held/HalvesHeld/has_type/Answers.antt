use Rattle.std.proofs.Common.{◌||◌, ◌&&◌, sym, ◌∙◌, ◌++◌, refl}
use Rattle.std.specs.Prelude.{◌==◌}
use Rattle.std.proofs.lemmas.List.Folds.{list_any-append}
use Rattle.dns_names.specs.Name.{names_eq}
use Rattle.dns_zone.proofs.Listed.{ordered_parts}
use Rattle.dns_update.proofs.Halved.{front_owned, back_owned}
use Rattle.dns_update.proofs.held.HalvesHeld.has_type.Goals as goal

pub has_type-requires-clause-order : goal.has_type-requires-clause-order
has_type-requires-clause-order g c =
    let xs = g.H.Held.records c.args.self.now.front in
    let ys = g.H.Held.records c.args.self.now.back in
    (ordered_parts (xs ++ ys) xs ys refl c.requires.order).0

pub has_type-requires-clause-owned : goal.has_type-requires-clause-owned
has_type-requires-clause-owned g c =
    let xs = g.H.Held.records c.args.self.now.front in
    let ys = g.H.Held.records c.args.self.now.back in
    front_owned c.args.name.now xs ys c.requires.owned

pub has_type-requires-2-clause-order : goal.has_type-requires-2-clause-order
has_type-requires-2-clause-order g c =
    let xs = g.H.Held.records c.args.self.now.front in
    let ys = g.H.Held.records c.args.self.now.back in
    (ordered_parts (xs ++ ys) xs ys refl c.requires.order).1

pub has_type-requires-2-clause-owned : goal.has_type-requires-2-clause-owned
has_type-requires-2-clause-owned g c =
    let xs = g.H.Held.records c.args.self.now.front in
    let ys = g.H.Held.records c.args.self.now.back in
    back_owned c.args.name.now xs ys c.requires.owned

pub returns : goal.returns
returns g c =
    let xs = g.H.Held.records c.args.self.now.front in
    let ys = g.H.Held.records c.args.self.now.back in
    (λ i. c.has_type.ensures i || c.has_type-2.ensures i) ∙ sym (list_any-append (λ s. names_eq s.owner c.args.name.now && s.rtype == c.args.rtype) xs ys)
