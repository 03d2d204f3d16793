-- Replies with too many records for a datagram.
use Rattle.std.proofs.Common.{◌≡◌, ℕ, ◌+◌, ◌*◌, ◌<◌, ◌≤◌, Bool, true, false, List, [], length, refl, ap, ◌∙◌, arith}
use Rattle.std.specs.Prelude.{◌&&◌, not, nat_le}
use Rattle.std.proofs.lemmas.Bool.Decides.{nat_tests}
use Rattle.dns_wire.specs.Text.{Reply, text}
use Rattle.dns_answer.specs.Fit.{by_udp, by_udp_without_additional, is_referral, truncated}

over_false : (a b : ℕ) → b < a → nat_le a b ≡ false
over_false a b h = grind (arith, nat_tests)

and_false : (b : Bool) → (b && false) ≡ false
and_false true = refl
and_false false = refl

pub too_many : (whole : Reply) → 50 < length whole.answer + length whole.authority → ((r : Reply) → 12 + 10 * (length r.answer + length r.authority + length r.additional) ≤ length (text r)) → by_udp whole ≡ truncated whole
too_many whole over long =
    let less = record whole { additional = [] } in
    let first : nat_le (length (text whole)) 512 ≡ false = over_false (length (text whole)) 512 (omega (arith, over, long whole)) in
    let second : nat_le (length (text less)) 512 ≡ false = over_false (length (text less)) 512 (omega (arith, over, long less)) in
    ap (λ (b : Bool). elim b as (λ _. List ℕ) [ true ↦ text whole | false ↦ by_udp_without_additional whole ]) first
    ∙ ap (λ (b : Bool). elim (not (is_referral whole) && b) as (λ _. List ℕ) [ true ↦ text less | false ↦ truncated whole ]) second
    ∙ ap (λ (b : Bool). elim b as (λ _. List ℕ) [ true ↦ text less | false ↦ truncated whole ]) (and_false (not (is_referral whole)))
