use Rattle.std.proofs.Common.{◌||◌, sym, ◌∙◌, ◌++◌, refl}
use Rattle.std.proofs.lemmas.List.Folds.{list_any-append}
use Rattle.dns_zone.proofs.Listed.{ordered_parts}
use Rattle.dns_update.specs.Effect.{succeeds}
use Rattle.dns_update.proofs.Halved.{front_owned, back_owned}
use Rattle.dns_update.proofs.held.HalvesHeld.has_older.Goals as goal

pub has_older-requires-clause-order : goal.has_older-requires-clause-order
has_older-requires-clause-order g c =
    let xs = g.H.Held.records c.args.self.now.front in
    let ys = g.H.Held.records c.args.self.now.back in
    (ordered_parts (xs ++ ys) xs ys refl c.requires.order).0

pub has_older-requires-clause-owned : goal.has_older-requires-clause-owned
has_older-requires-clause-owned g c =
    let xs = g.H.Held.records c.args.self.now.front in
    let ys = g.H.Held.records c.args.self.now.back in
    front_owned c.args.soa.now.owner xs ys c.requires.owned

pub has_older-requires-2-clause-order : goal.has_older-requires-2-clause-order
has_older-requires-2-clause-order g c =
    let xs = g.H.Held.records c.args.self.now.front in
    let ys = g.H.Held.records c.args.self.now.back in
    (ordered_parts (xs ++ ys) xs ys refl c.requires.order).1

pub has_older-requires-2-clause-owned : goal.has_older-requires-2-clause-owned
has_older-requires-2-clause-owned g c =
    let xs = g.H.Held.records c.args.self.now.front in
    let ys = g.H.Held.records c.args.self.now.back in
    back_owned c.args.soa.now.owner xs ys c.requires.owned

pub returns : goal.returns
returns g c =
    let xs = g.H.Held.records c.args.self.now.front in
    let ys = g.H.Held.records c.args.self.now.back in
    (λ i. c.has_older.ensures i || c.has_older-2.ensures i) ∙ sym (list_any-append (succeeds c.args.soa.now) xs ys)
