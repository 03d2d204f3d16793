-- Numbers at the front of octets.
use Rattle.std.proofs.Common.{◌≡◌, ℕ, zero, suc, ◌+◌, ◌^◌, ◌<◌, List, [], ◌∷◌, ◌++◌, length, take, drop, get_or, refl, sym, ap, ◌∙◌, arith}
use Rattle.std.specs.Int.{w16, w32, to_be_bytes, from_be_bytes}
use Rattle.std.proofs.lemmas.Nat.{be_bytes_2, be_bytes_4}
use Rattle.dns_names.specs.Lower.{AreOctets}

pub u16_split : (o number rest : List ℕ) (n : ℕ) → AreOctets o → number ≡ take 2 o → rest ≡ drop 2 o → length rest + 2 ≡ length o → n ≡ from_be_bytes w16 number → (n < 2 ^ 16) × (o ≡ to_be_bytes w16 n ++ rest)
u16_split [] number rest n fits f b size e = absurd (omega arith)
u16_split (x ∷ []) number rest n fits f b size e = absurd (omega arith)
u16_split (x ∷ y ∷ o) number rest n fits f b size e =
    let value : n ≡ from_be_bytes w16 (x ∷ y ∷ []) = e ∙ ap (from_be_bytes w16) f in
    let octets : to_be_bytes w16 n ≡ x ∷ y ∷ [] = be_bytes_2 (x ∷ y ∷ []) n refl low value in
    (omega (arith, fits 0, fits 1, value), sym (ap (λ (z : List ℕ). z ++ rest) octets ∙ ap (λ (z : List ℕ). x ∷ y ∷ z) b))
  where
    low : (i : ℕ) → get_or (x ∷ y ∷ []) i 0 < 256
    low zero = fits 0
    low (suc zero) = fits 1
    low (suc (suc i)) = omega arith

pub u32_split : (o number rest : List ℕ) (n : ℕ) → AreOctets o → number ≡ take 4 o → rest ≡ drop 4 o → length rest + 4 ≡ length o → n ≡ from_be_bytes w32 number → (n < 2 ^ 32) × (o ≡ to_be_bytes w32 n ++ rest)
u32_split [] number rest n fits f b size e = absurd (omega arith)
u32_split (x ∷ []) number rest n fits f b size e = absurd (omega arith)
u32_split (x ∷ y ∷ []) number rest n fits f b size e = absurd (omega arith)
u32_split (x ∷ y ∷ z ∷ []) number rest n fits f b size e = absurd (omega arith)
u32_split (x ∷ y ∷ z ∷ v ∷ o) number rest n fits f b size e =
    let value : n ≡ from_be_bytes w32 (x ∷ y ∷ z ∷ v ∷ []) = e ∙ ap (from_be_bytes w32) f in
    let octets : to_be_bytes w32 n ≡ x ∷ y ∷ z ∷ v ∷ [] = be_bytes_4 (x ∷ y ∷ z ∷ v ∷ []) n refl low value in
    (omega (arith, fits 0, fits 1, fits 2, fits 3, value), sym (ap (λ (t : List ℕ). t ++ rest) octets ∙ ap (λ (t : List ℕ). x ∷ y ∷ z ∷ v ∷ t) b))
  where
    low : (i : ℕ) → get_or (x ∷ y ∷ z ∷ v ∷ []) i 0 < 256
    low zero = fits 0
    low (suc zero) = fits 1
    low (suc (suc zero)) = fits 2
    low (suc (suc (suc zero))) = fits 3
    low (suc (suc (suc (suc i)))) = omega arith
