use Rattle.std.proofs.Common.{◌≡◌, ◌<◌, true, false, length, sym, ◌∙◌, arith}
use Rattle.dns_names.specs.Name.{names_eq}
use Rattle.dns_lookup.proofs.Upward.{eq_true, eq_false}
use Rattle.dns_lookup.proofs.Aliases.{among_next, among_here}
use Rattle.dns_lookup.proofs.chain.is_among.Goals as goal

pub loop-one-preserved : goal.loop-one-preserved
loop-one-preserved c =
    let name = c.args.name.now in
    let found = c.args.found.now in
    let one = c.one-item.result in
    let inside : c.loop-one.one-index < length found = omega arith in
    let other : names_eq name one.name ≡ false = eq_false name one.name (λ e. (let same = c.is.ensures.1 e in let apart = c.if-is.false in cc)) in
    c.loop-one.invariant ∙ among_next name found c.loop-one.one-index one inside c.one-item.is other

pub returns-then-is : goal.returns-then-is
returns-then-is c =
    let name = c.args.name.now in
    let found = c.args.found.now in
    let one = c.one-item.result in
    let inside : c.loop-one.one-index < length found = omega arith in
    let here : names_eq name one.name ≡ true = eq_true name one.name (c.is.ensures.0 c.if-is.true) in
    sym (c.loop-one.invariant ∙ among_here name found c.loop-one.one-index one inside c.one-item.is here)
