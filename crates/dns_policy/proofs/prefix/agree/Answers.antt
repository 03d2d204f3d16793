use Rattle.std.proofs.Common.{◌≡◌, ◌/◌, ◌%◌, ◌^◌, ◌-◌, Bool, true, false, get_or, refl, arith, sym, ◌∙◌, rules}
use mathlib.Core.Bool.{not}
use Rattle.std.specs.Cmp.Lexicographic.{same_text, other_text}
use Rattle.dns_policy.proofs.Bits.{whole_agree, no_rest, with_rest}
use Rattle.dns_policy.proofs.prefix.agree.Goals as goal

not_true : (b : Bool) → true ≡ not b → false ≡ b
not_true true h = cc
not_true false h = refl

not_false : (b : Bool) → false ≡ not b → true ≡ b
not_false true h = refl
not_false false h = cc

pub returns-then-ne : goal.returns-then-ne
returns-then-ne c = (
  λ h. search rules,
  λ h. absurd (
      other_text _ _ (not_true _ (sym c.if-ne.true ∙ c.ne.ensures))
      (whole_agree c.args.count _ _ c.requires.same c.requires.within (λ i. omega (arith, c.type_inv.first i)) (λ i. omega (arith, c.type_inv.second i)) h).0),
)

pub returns-then-rest-eq0 : goal.returns-then-rest-eq0
returns-then-rest-eq0 c = (
  λ _. no_rest c.args.count _ _ c.requires.same c.requires.within c.if-rest-eq0.true (same_text _ _ (not_false _ c.if-ne.ensures)),
  λ _. search rules,
)

pub returns-else-rest-eq0 : goal.returns-else-rest-eq0
returns-else-rest-eq0 c =
    let both = with_rest c.args.count c.args.first.now c.args.second.now c.requires.same c.requires.within (λ i. omega (arith, c.type_inv.first i)) (λ i. omega (arith, c.type_inv.second i)) c.if-rest-eq0.false (same_text _ _ (not_false _ c.if-ne.ensures)) in
    (λ h. both.0 (search rules), λ h. let same : get_or c.args.first.now (c.args.count / 8) 0 / 2 ^ (8 - c.args.count % 8) ≡ get_or c.args.second.now (c.args.count / 8) 0 / 2 ^ (8 - c.args.count % 8) = both.1 h in search rules)
