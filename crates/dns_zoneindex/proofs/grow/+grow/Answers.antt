use Rattle.std.proofs.Common.{◌<◌, reverse, ap, subst, sym, ◌∙◌, arith}
use Rattle.std.specs.Prelude.{MatchOption}
use Rattle.dns_zoneindex.specs.Growth.{from_depth, BelongToName, IsTakenOff, Rising}
use Rattle.dns_zoneindex.specs.Size.{weight}
use Rattle.dns_zoneindex.proofs.Growth.{turned_more, group_rising, taken_falls}
use Rattle.dns_zoneindex.proofs.grow.+grow.Goals as goal

pub grow-requires : goal.grow-requires
grow-requires t c =
    let n = c.args.depth in
    let left = c.groups.own.items in
    let front = c.take_off.new.records.items in
    let label = c.in-Some.label.items in
    let group = c.in-Some.group.items in
    let taken = subst (λ o. MatchOption o (BelongToName n left front) (λ p. IsTakenOff n p.0.items left front p.1.items)) c.in-Some.is c.in_ok-label.ensures in
    let falls = taken_falls n label c.args.records.items left front group (reverse c.groups.nodes.items) taken c.groups.invariant.whole in
    let less : weight (from_depth c.in_ok-below.below group) < weight (from_depth n c.args.records.items) = subst (λ k. weight (from_depth k group) < weight (from_depth n c.args.records.items)) (sym c.in_ok-below.ensures) falls in
    let down : weight (from_depth c.in_ok-below.below group) < t = omega (arith, less, c.decreases) in
    (down, (taken.some, subst (λ k. Rising (from_depth k group)) (sym c.in_ok-below.ensures) (group_rising n label left front group taken c.groups.invariant.order)))

pub groups-preserved-in_ok-push : goal.groups-preserved-in_ok-push
groups-preserved-in_ok-push t c =
    let n = c.args.depth in
    let left = c.groups.own.items in
    let front = c.take_off.new.records.items in
    let group = c.in-Some.group.items in
    let taken = subst (λ o. MatchOption o (BelongToName n left front) (λ p. IsTakenOff n p.0.items left front p.1.items)) c.in-Some.is c.in_ok-label.ensures in
    let labelled = c.in_ok-node.ensures.label ∙ c.as_slice.ensures in
    let owns = c.in_ok-node.ensures.own ∙ ap (λ k. from_depth k group) c.in_ok-below.ensures in
    let i = c.groups.invariant in
    let h = turned_more n c.args.records.items left front group c.in-Some.label.items c.groups.nodes.items c.push.new.self.items c.in_ok-node.node taken labelled owns c.records-some.ensures.kept (record { whole = i.whole; kept = i.kept; ahead = i.ahead; order = i.order }) c.in_ok-push.ensures.items in
    record { whole = h.whole; kept = h.kept; ahead = h.ahead; order = h.order }

pub groups-preserved : goal.groups-preserved
groups-preserved t c =
    let n = c.args.depth in
    let left = c.groups.own.items in
    let front = c.take_off.new.records.items in
    let group = c.in-Some.group.items in
    let taken = subst (λ o. MatchOption o (BelongToName n left front) (λ p. IsTakenOff n p.0.items left front p.1.items)) c.in-Some.is c.in_ok-label.ensures in
    let labelled = c.in_ok-node.ensures.label ∙ c.as_slice.ensures in
    let owns = c.in_ok-node.ensures.own ∙ ap (λ k. from_depth k group) c.in_ok-below.ensures in
    let i = c.groups.invariant in
    let h = turned_more n c.args.records.items left front group c.in-Some.label.items c.groups.nodes.items c.push.new.self.items c.in_ok-node.node taken labelled owns c.records-some.ensures.kept (record { whole = i.whole; kept = i.kept; ahead = i.ahead; order = i.order }) c.in_ok-push.ensures.items in
    record { whole = h.whole; kept = h.kept; ahead = h.ahead; order = h.order }
