-- Numbers of a message, as `byteorder` reads them.
use Rattle.std.proofs.Common.{◌≡◌, ℕ, ◌+◌, ◌-◌, ◌*◌, ◌≤◌, List, [], ◌∷◌, length, get_or, take, drop, ap, ◌∙◌, arith, length-drop}
use Rattle.std.specs.Prelude.{slice_range}
use Rattle.std.proofs.lemmas.List.{get_or-drop}
use Rattle.byteorder.specs.Endian.{big_number}
use Rattle.byteorder.specs.Numbers.{big_from-take}
use Rattle.dns_records.specs.Record.{number_of}

two_first : (xs : List ℕ) → 2 ≤ length xs → big_number 2 xs ≡ number_of (take 2 xs)
two_first [] h = absurd (omega arith)
two_first (a ∷ []) h = absurd (omega arith)
two_first (a ∷ b ∷ xs) h = omega arith

four_first : (xs : List ℕ) → 4 ≤ length xs → big_number 4 xs ≡ number_of (take 4 xs)
four_first [] h = absurd (omega arith)
four_first (a ∷ []) h = absurd (omega arith)
four_first (a ∷ b ∷ []) h = absurd (omega arith)
four_first (a ∷ b ∷ c ∷ []) h = absurd (omega arith)
four_first (a ∷ b ∷ c ∷ d ∷ xs) h = omega arith

-- the number of two octets at an offset
pub two_read : (m : List ℕ) (at : ℕ) → at + 2 ≤ length m → big_number 2 (slice_range m at (length m)) ≡ number_of (slice_range m at (at + 2))
two_read m at inside =
    let width : 2 ≡ at + 2 - at = omega arith in
    big_from-take 0 2 (length m - at) (drop at m) (omega arith)
    ∙ two_first (drop at m) (omega (arith, inside, length-drop at m))
    ∙ ap (λ (k : ℕ). number_of (take k (drop at m))) width

-- the number of four octets at an offset
pub four_read : (m : List ℕ) (at : ℕ) → at + 4 ≤ length m → big_number 4 (slice_range m at (length m)) ≡ number_of (slice_range m at (at + 4))
four_read m at inside =
    let width : 4 ≡ at + 4 - at = omega arith in
    big_from-take 0 4 (length m - at) (drop at m) (omega arith)
    ∙ four_first (drop at m) (omega (arith, inside, length-drop at m))
    ∙ ap (λ (k : ℕ). number_of (take k (drop at m))) width

two_apart : (xs : List ℕ) → 2 ≤ length xs → number_of (take 2 xs) ≡ get_or xs 0 0 * 256 + get_or xs 1 0
two_apart [] h = absurd (omega arith)
two_apart (a ∷ []) h = absurd (omega arith)
two_apart (a ∷ b ∷ xs) h = omega arith

-- the two octets of a number
pub two_octets_of : (m : List ℕ) (at : ℕ) → at + 2 ≤ length m → number_of (slice_range m at (at + 2)) ≡ get_or m at 0 * 256 + get_or m (at + 1) 0
two_octets_of m at inside =
    let width : at + 2 - at ≡ 2 = omega arith in
    let first : at + 0 ≡ at = omega arith in
    ap (λ (k : ℕ). number_of (take k (drop at m))) width
    ∙ two_apart (drop at m) (omega (arith, inside, length-drop at m))
    ∙ ap (λ (k : ℕ). k * 256 + get_or (drop at m) 1 0) (get_or-drop at m 0 0 ∙ ap (λ (k : ℕ). get_or m k 0) first)
    ∙ ap (λ (k : ℕ). get_or m at 0 * 256 + k) (get_or-drop at m 1 0)
