-- Serial number arithmetic over 32 bits (RFC 1982).
use Rattle.std.specs.Prelude.{ℕ, ◌+◌, ◌-◌, ◌%◌, ◌^◌, ◌<◌, ◌⊎◌, Bool, ◌&&◌, nat_lt, min}

-- What has to be added to one serial to give the other, modulo 2^32 (RFC 1982 section 3.1).
abbrev pub advance : ℕ → ℕ → ℕ
advance from to = (to + (2 ^ 32 - from)) % 2 ^ 32

-- The first is greater than the second: it comes after it by less than half the circle.
abbrev pub greater : ℕ → ℕ → Bool
greater i j = nat_lt 0 (advance j i) && nat_lt (advance j i) (2 ^ 31)

-- The first is greater than the second, in the words of RFC 1982 section 3.2.
abbrev pub IsGreater : ℕ → ℕ → Type 0
IsGreater i j = ((i < j) × (2 ^ 31 < j - i)) ⊎ ((j < i) × (i - j < 2 ^ 31))

-- The lesser of the two advances.
abbrev pub distance : ℕ → ℕ → ℕ
distance i j = min (advance i j) (advance j i)

-- One more, wrapping around to 0.
abbrev pub next_serial : ℕ → ℕ
next_serial i = (i + 1) % 2 ^ 32
