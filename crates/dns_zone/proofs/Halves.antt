-- The first octets of a label by its first four and its last four.
use Rattle.std.proofs.Common.{◌≡◌, ℕ, ◌*◌, ◌^◌, ◌+◌, ◌≤◌, List, [], ◌∷◌, length, take, drop, ◌-◌, ◌%◌, ap, sym, ◌∙◌, arith}
use Rattle.std.specs.Int.{w32, from_be_bytes}
use Rattle.dns_names.specs.Lower.{AreOctets}
use Rattle.dns_zone.specs.Keys.{leading}

-- a label of four to eight octets by its first four and its last four
halves : (label : List ℕ) → 4 ≤ length label → length label ≤ 8 → AreOctets label
    → from_be_bytes w32 (take 4 label) * 4294967296 % 18446744073709551616
    + from_be_bytes w32 (drop (length label - 4) label) * 2 ^ (8 * (8 - length label)) % 18446744073709551616 % 4294967296 ≡ leading 8 label
halves [] l m o = absurd (omega (arith, l))
halves (a ∷ []) l m o = absurd (omega (arith, l))
halves (a ∷ b ∷ []) l m o = absurd (omega (arith, l))
halves (a ∷ b ∷ c ∷ []) l m o = absurd (omega (arith, l))
halves (a ∷ b ∷ c ∷ d ∷ []) l m o = omega (arith, o 0, o 1, o 2, o 3)
halves (a ∷ b ∷ c ∷ d ∷ e ∷ []) l m o = omega (arith, o 0, o 1, o 2, o 3, o 4)
halves (a ∷ b ∷ c ∷ d ∷ e ∷ f ∷ []) l m o = omega (arith, o 0, o 1, o 2, o 3, o 4, o 5)
halves (a ∷ b ∷ c ∷ d ∷ e ∷ f ∷ g ∷ []) l m o = omega (arith, o 0, o 1, o 2, o 3, o 4, o 5, o 6)
halves (a ∷ b ∷ c ∷ d ∷ e ∷ f ∷ g ∷ h ∷ []) l m o = omega (arith, o 0, o 1, o 2, o 3, o 4, o 5, o 6, o 7)
halves (a ∷ b ∷ c ∷ d ∷ e ∷ f ∷ g ∷ h ∷ i ∷ rest) l m o = absurd (omega (arith, m))

pub key_of_two : (label front back : List ℕ) (len f b : ℕ) → 4 ≤ len → len ≤ 8 → length label ≡ len → front ≡ take 4 label → back ≡ drop (len - 4) label
    → AreOctets label
    → f ≡ from_be_bytes w32 front
    → b ≡ from_be_bytes w32 back
    → f * 4294967296 % 18446744073709551616 + b * 2 ^ (8 * (8 - len)) % 18446744073709551616 % 4294967296 ≡ leading 8 label
key_of_two label front back len f b l m n e g o p q =
    let first : f ≡ from_be_bytes w32 (take 4 label) = p ∙ ap (from_be_bytes w32) e in
    let last : b ≡ from_be_bytes w32 (drop (length label - 4) label) = q ∙ ap (from_be_bytes w32) (g ∙ ap (λ k. drop (k - 4) label) (sym n)) in
    (λ i. first i * 4294967296 % 18446744073709551616 + last i * 2 ^ (8 * (8 - sym n i)) % 18446744073709551616 % 4294967296)
    ∙ halves label (omega (arith, l, n)) (omega (arith, m, n)) o
