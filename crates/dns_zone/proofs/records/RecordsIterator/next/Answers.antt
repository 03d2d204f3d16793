use Rattle.std.proofs.Common.{◌≡◌, ◌∷◌, ◌++◌, List, drop, sym, ap, ◌∙◌}
use Rattle.dns_records.specs.Record.{Record}
use Rattle.dns_zone.proofs.Surveying.{dropped_next}
use Rattle.dns_zone.proofs.records.RecordsIterator.next.Goals as goal

pub invariant_of-self : goal.invariant_of-self
invariant_of-self g c =
    let xs = g.I.ZoneIndex.records c.self.inside.index.now in
    let front = c.front.ensures.run in
    let at : drop c.self.inside.position xs ≡ c.in_ok-first.first.now ∷ c.in_ok-first.rest.now ++ front.0 = c.self.view_is ∙ front.1 ∙ ap (λ (ys : List Record). ys ++ front.0) c.in_ok-first.ensures.cases.0 in
    (c.self.invariant.0, (front.0, dropped_next xs c.self.inside.position c.in_ok-first.first.now (c.in_ok-first.rest.now ++ front.0) at))

pub returns-clause-steps : goal.returns-clause-steps
returns-clause-steps g c =
    let xs = g.I.ZoneIndex.records c.self.inside.index.now in
    let front = c.front.ensures.run in
    let at : c.args.self.now ≡ c.in_ok-first.first.now ∷ c.in_ok-first.rest.now ++ front.0 = front.1 ∙ ap (λ (ys : List Record). ys ++ front.0) c.in_ok-first.ensures.cases.0 in
    at ∙ ap (λ (ys : List Record). c.in_ok-first.first.now ∷ ys) (sym (dropped_next xs c.self.inside.position c.in_ok-first.first.now (c.in_ok-first.rest.now ++ front.0) (c.self.view_is ∙ at)))
