use Rattle.std.proofs.Common.{not, ◌&&◌, sym, ◌∙◌, ◌++◌, refl}
use Rattle.std.specs.Prelude.{◌==◌}
use Rattle.dns_names.specs.Name.{names_eq}
use Rattle.dns_zone.proofs.Listed.{ordered_parts}
use Rattle.dns_update.proofs.Halved.{front_owned, back_owned, one_front, one_back}
use Rattle.dns_update.proofs.held.HalvesHeld.has_one.Goals as goal

pub has_type-requires-clause-order : goal.has_type-requires-clause-order
has_type-requires-clause-order g c =
    let xs = g.H.Held.records c.args.self.now.front in
    let ys = g.H.Held.records c.args.self.now.back in
    (ordered_parts (xs ++ ys) xs ys refl c.requires.order).0

pub has_type-requires-clause-owned : goal.has_type-requires-clause-owned
has_type-requires-clause-owned g c =
    let xs = g.H.Held.records c.args.self.now.front in
    let ys = g.H.Held.records c.args.self.now.back in
    front_owned c.args.name.now xs ys c.requires.owned

pub has_one-requires-clause-order : goal.has_one-requires-clause-order
has_one-requires-clause-order g c =
    let xs = g.H.Held.records c.args.self.now.front in
    let ys = g.H.Held.records c.args.self.now.back in
    (ordered_parts (xs ++ ys) xs ys refl c.requires.order).0

pub has_one-requires-clause-owned : goal.has_one-requires-clause-owned
has_one-requires-clause-owned g c =
    let xs = g.H.Held.records c.args.self.now.front in
    let ys = g.H.Held.records c.args.self.now.back in
    front_owned c.args.name.now xs ys c.requires.owned

pub has_type-requires-then-has_type-clause-order : goal.has_type-requires-then-has_type-clause-order
has_type-requires-then-has_type-clause-order g c =
    let xs = g.H.Held.records c.args.self.now.front in
    let ys = g.H.Held.records c.args.self.now.back in
    (ordered_parts (xs ++ ys) xs ys refl c.requires.order).1

pub has_type-requires-then-has_type-clause-owned : goal.has_type-requires-then-has_type-clause-owned
has_type-requires-then-has_type-clause-owned g c =
    let xs = g.H.Held.records c.args.self.now.front in
    let ys = g.H.Held.records c.args.self.now.back in
    back_owned c.args.name.now xs ys c.requires.owned

pub has_one-requires-2-clause-order : goal.has_one-requires-2-clause-order
has_one-requires-2-clause-order g c =
    let xs = g.H.Held.records c.args.self.now.front in
    let ys = g.H.Held.records c.args.self.now.back in
    (ordered_parts (xs ++ ys) xs ys refl c.requires.order).1

pub has_one-requires-2-clause-owned : goal.has_one-requires-2-clause-owned
has_one-requires-2-clause-owned g c =
    let xs = g.H.Held.records c.args.self.now.front in
    let ys = g.H.Held.records c.args.self.now.back in
    back_owned c.args.name.now xs ys c.requires.owned

pub returns-then-has_type : goal.returns-then-has_type
returns-then-has_type g c =
    let xs = g.H.Held.records c.args.self.now.front in
    let ys = g.H.Held.records c.args.self.now.back in
    (λ i. c.has_one.ensures i && not (c.has_type-then-has_type.ensures i)) ∙ one_front (λ r. names_eq r.owner c.args.name.now && r.rtype == c.args.rtype) xs ys (sym c.has_type.ensures ∙ c.if-has_type.true)

pub returns : goal.returns
returns g c =
    let xs = g.H.Held.records c.args.self.now.front in
    let ys = g.H.Held.records c.args.self.now.back in
    c.has_one-2.ensures ∙ one_back (λ r. names_eq r.owner c.args.name.now && r.rtype == c.args.rtype) xs ys (sym c.has_type.ensures ∙ c.if-has_type.false)
