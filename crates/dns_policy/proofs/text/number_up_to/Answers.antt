use Rattle.std.proofs.Common.{◌≡◌, ◌<◌, ◌^◌, arith, sym, ◌∙◌, lit<}
use Rattle.std.proofs.lemmas.Fmt.{decimal_injective}
use Rattle.dns_policy.proofs.text.number_up_to.Goals as goal

wide : 1000 < 2 ^ 64
wide = lit< tt

-- the number that is read is over the limit, and there is no other
pub returns-in_default : goal.returns-in_default
returns-in_default c = λ n small same.
    let equal : c.in-Some.number ≡ n = decimal_injective c.in-Some.number n (omega (arith, wide)) (omega (arith, wide)) (sym c.in-Some.ensures ∙ same) in
    omega arith
