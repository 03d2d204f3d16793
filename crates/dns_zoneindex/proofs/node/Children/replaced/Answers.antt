use Rattle.std.proofs.Common.{refl, sym, ◌∙◌, subst}
use Rattle.dns_zoneindex.specs.Children.{items, AreChildren}
use Rattle.dns_zoneindex.proofs.Results.{if_ok}
use Rattle.dns_zoneindex.proofs.Set.{replaced-some, replaced-none}
use Rattle.dns_zoneindex.proofs.Sides.{children_put, children_without}
use Rattle.dns_zoneindex.proofs.node.Children.replaced.Goals as goal

pub children_in-requires-clause-kept : goal.children_in-requires-clause-kept
children_in-requires-clause-kept c =
    let child = c.in-Some.child in
    subst AreChildren (sym c.in_ok-put-in-Some.ensures.put) (children_put child (items c.args.self.now) c.records-some.ensures.kept c.requires.kept)

pub children_in-requires-in-None-clause-kept : goal.children_in-requires-in-None-clause-kept
children_in-requires-in-None-clause-kept c =
    subst AreChildren (sym c.in_ok-rest-in-None.ensures.taken) (children_without c.args.label.now (items c.args.self.now) c.requires.kept)

pub returns-in_ok-put-in-Some-clause-set : goal.returns-in_ok-put-in-Some-clause-set
returns-in_ok-put-in-Some-clause-set c =
    let child = c.in-Some.child in
    if_ok c.children_in.result
    (λ t m. replaced-some child child c.args.label.now c.args.child (items c.args.self.now) (items t) c.requires.kept refl c.in-Some.is c.requires.label (m ∙ c.in_ok-put-in-Some.ensures.put))
    c.children_in.ensures

pub returns-in_ok-put-in-Some-clause-kept : goal.returns-in_ok-put-in-Some-clause-kept
returns-in_ok-put-in-Some-clause-kept c =
    let child = c.in-Some.child in
    if_ok c.children_in.result
    (λ t m. subst AreChildren (sym (m ∙ c.in_ok-put-in-Some.ensures.put)) (children_put child (items c.args.self.now) c.records-some.ensures.kept c.requires.kept))
    c.children_in.ensures

pub returns-in_ok-rest-in-None-clause-set : goal.returns-in_ok-rest-in-None-clause-set
returns-in_ok-rest-in-None-clause-set c =
    if_ok c.children_in-in-None.result
    (λ t m. replaced-none c.args.label.now c.args.child (items c.args.self.now) (items t) c.requires.kept c.in-None.is (m ∙ c.in_ok-rest-in-None.ensures.taken))
    c.children_in-in-None.ensures

pub returns-in_ok-rest-in-None-clause-kept : goal.returns-in_ok-rest-in-None-clause-kept
returns-in_ok-rest-in-None-clause-kept c =
    if_ok c.children_in-in-None.result
    (λ t m. subst AreChildren (sym (m ∙ c.in_ok-rest-in-None.ensures.taken)) (children_without c.args.label.now (items c.args.self.now) c.requires.kept))
    c.children_in-in-None.ensures
