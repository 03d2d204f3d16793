use Rattle.std.proofs.lemmas.Fn.{always_returns_same}
use Rattle.std.proofs.Common.{◌≡◌, ◌-◌, true, false, cond, [], ◌∙◌, ap, length, take, drop, sym, subst, arith, rules, length-drop}
use Rattle.std.specs.Prelude.{nat_lt, ◌==◌}
use Rattle.std.proofs.lemmas.Bool.Decides.{nat_tests}
use Rattle.std.proofs.lemmas.List.{take_all}
use Rattle.dns_zone.proofs.Typed.{Rises, owned_rise, below_first, here_first, typed, typed_one}
use Rattle.dns_zone.proofs.owned.of_type.Goals as goal

pub returns-then-rtype : goal.returns-then-rtype
returns-then-rtype c = λ set name ordered held.
    let size : length c.args.records.now ≡ 1 = omega (arith, c.in-len1.len_at_least, c.in-len1.len_below) in
    let same : (c.only-item.result.rtype == c.args.rtype) ≡ true = grind (arith, nat_tests, c.if-rtype.true, c.rtype.ensures) in
    ap (λ b. cond b c.args.records.now []) (sym same) ∙ typed_one set name c.args.rtype c.args.records.now c.only-item.result size c.only-item.is held

pub returns-else-rtype : goal.returns-else-rtype
returns-else-rtype c = λ set name ordered held.
    let size : length c.args.records.now ≡ 1 = omega (arith, c.in-len1.len_at_least, c.in-len1.len_below) in
    let other : (c.only-item.result.rtype == c.args.rtype) ≡ false = grind (arith, nat_tests, c.if-rtype.false, c.rtype.ensures) in
    ap (λ b. cond b c.args.records.now []) (sym other) ∙ typed_one set name c.args.rtype c.args.records.now c.only-item.result size c.only-item.is held

pub returns : goal.returns
returns c = λ set name ordered held.
    let xs = c.args.records.now in
    let t = c.args.rtype in
    let at = c.partition_point.result in
    let n = c.partition_point-2.result in
    let rises : Rises xs = subst Rises (sym held) (owned_rise set name ordered) in
    let first = c.partition_point.ensures.partitioned (λ r. nat_lt r.rtype t) (always_returns_same _ _ _ (λ a r f k. search rules)) (below_first t xs rises) in
    let tail : take (length xs - at) (drop at xs) ≡ drop at xs = take_all (length xs - at) (drop at xs) (omega (arith, length-drop at xs)) in
    let second = c.partition_point-2.ensures.partitioned (λ r. r.rtype == t) (always_returns_same _ _ _ (λ a r f k. search rules)) (rw tail (here_first t xs at rises first.1)) in
    rw tail (typed set name t xs held at c.partition_point.ensures.bound first.0 n (rw tail at c.partition_point-2.ensures.bound) (rw tail at second.0) (rw tail at second.1))
