use Rattle.std.proofs.Common.{◌≤◌, ◌+◌, length, ap, ◌∙◌, arith}
use Rattle.std.specs.Ordering.{nat_cmp}
use Rattle.dns_zoneindex.proofs.Fronts.{key_equal_after}
use Rattle.dns_zoneindex.proofs.key.order.Goals as goal

pub returns-then-label-from : goal.returns-then-label-from
returns-then-label-from c = λ alike.
    let key = c.requires.0 in
    let short : length c.args.label.now ≤ c.args.skip + 8 = omega (arith, c.if-label-from.true, c.from.ensures) in
    c.cmp.ensures ∙ ap (λ ns. nat_cmp (length c.args.label.now) (length ns)) c.label.ensures
    ∙ key_equal_after c.args.skip key c.args.label.now c.args.node.now.label alike c.requires.1 c.requires.2 short
