use Rattle.std.proofs.Common.{true≢false, sym, ◌∙◌, arith}
use Rattle.std.proofs.lemmas.Option.{slice_get_within}
use Rattle.dns_names.proofs.FirstName.{none_first, none_lower, Firsts, firsts}
use Rattle.dns_names.proofs.lent.NameRef.first.Goals as goal
use Rattle.dns_names.proofs.lent.NameRef.first.Goals.{Else-not-is_lower}

pub returns-in_default-clause-none : goal.returns-in_default-clause-none
returns-in_default-clause-none c = none_first c.args.octets.now c.in_default.field-0 c.in_default.ensures.refused c.in_default.ensures.other

pub split_at-requires : goal.split_at-requires
split_at-requires c = omega (arith, slice_get_within c.args.octets.now c.in-Ok.stop 0 c.in-Ok.ensures.found.3)

pub returns-then-not-is_lower-clause-none : goal.returns-then-not-is_lower-clause-none
returns-then-not-is_lower-clause-none c =
    let f = c.in-Ok.ensures.found in
    none_lower c.args.octets.now c.in-Ok.stop f.1 f.2 f.3 (λ e. true≢false (sym (c.is_lower.ensures.1 (rw c.split_at.ensures.front e)) ∙ c.if-not-is_lower.true))

done : (c : Else-not-is_lower) → Firsts c.args.octets.now c.split_at.result.0.now c.split_at.result.1.now
done c =
    let f = c.in-Ok.ensures.found in
    firsts c.args.octets.now c.in-Ok.stop f.1 c.split_at.result.0.now c.split_at.result.1.now (λ i. omega (arith, c.type_inv.octets i)) f.2 f.3 f.0 c.split_at.ensures.front c.split_at.ensures.back (c.is_lower.ensures.0 c.if-not-is_lower.false)

pub invariant_of-result : goal.invariant_of-result
invariant_of-result c = (done c).shape

pub returns-clause-found : goal.returns-clause-found
returns-clause-found c = ((done c).shape.valid, (done c).whole)
