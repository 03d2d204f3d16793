use Rattle.std.proofs.Common.{subst, sym}
use Rattle.dns_zoneindex.specs.Growth.{EndsWithout}
use Rattle.dns_zoneindex.proofs.Growth.{ends_here, front_is}
use Rattle.dns_zoneindex.proofs.grow.front_of.Goals as goal

pub returns-then-not-has_label : goal.returns-then-not-has_label
returns-then-not-has_label c =
    let n = c.args.depth in
    let l = c.args.label.now in
    let ends = ends_here n l c.in-Some.others.now c.in-Some.last.now (λ h. (let e = c.if-not-has_label.ensures.1 h in absurd cc)) in
    front_is n l c.args.records.now c.front.front.now (subst (EndsWithout n l) (sym c.in-Some.ensures.cases.0) ends) c.front.invariant
