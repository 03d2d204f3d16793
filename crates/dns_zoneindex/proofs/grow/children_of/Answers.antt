use Rattle.std.proofs.Common.{◌≡◌, take, sym, ap, ◌∙◌, subst}
use Rattle.std.proofs.lemmas.List.{take_all}
use Rattle.dns_zoneindex.specs.Children.{joined, AreChildren, AllFull}
use Rattle.dns_zoneindex.proofs.Results.{if_ok}
use Rattle.dns_zoneindex.proofs.Slots.{joined_ones, full_ones}
use Rattle.dns_zoneindex.proofs.grow.children_of.Goals as goal

pub in_levels-requires-clause-full : goal.in_levels-requires-clause-full
in_levels-requires-clause-full c = subst AllFull (sym c.loop-node.invariant) (full_ones (take c.loop-node.node-index c.args.nodes.now))

pub in_levels-requires-clause-kept : goal.in_levels-requires-clause-kept
in_levels-requires-clause-kept c =
    let nodes = c.args.nodes.now in
    let all : take c.loop-node.node-index nodes ≡ nodes = take_all c.loop-node.node-index nodes c.loop-node-test.false in
    let is = ap joined c.loop-node.invariant ∙ joined_ones (take c.loop-node.node-index nodes) ∙ all in
    subst AreChildren (sym is) c.requires

pub returns-clause-made : goal.returns-clause-made
returns-clause-made c =
    let nodes = c.args.nodes.now in
    let all : take c.loop-node.node-index nodes ≡ nodes = take_all c.loop-node.node-index nodes c.loop-node-test.false in
    let is = ap joined c.loop-node.invariant ∙ joined_ones (take c.loop-node.node-index nodes) ∙ all in
    if_ok c.in_levels.result (λ t e. e ∙ is) c.in_levels.ensures

pub returns-clause-kept : goal.returns-clause-kept
returns-clause-kept c =
    let nodes = c.args.nodes.now in
    let all : take c.loop-node.node-index nodes ≡ nodes = take_all c.loop-node.node-index nodes c.loop-node-test.false in
    let is = ap joined c.loop-node.invariant ∙ joined_ones (take c.loop-node.node-index nodes) ∙ all in
    if_ok c.in_levels.result (λ t e. subst AreChildren (sym (e ∙ is)) c.requires) c.in_levels.ensures
