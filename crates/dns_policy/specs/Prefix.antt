-- Prefixes of addresses, as `192.0.2.0/24`: their texts, and what they cover.
use Rattle.std.specs.Prelude.{◌≡◌, ℕ, zero, suc, ◌/◌, ◌%◌, ◌≤◌, ◌==◌, Bool, List, [], ◌∷◌, ◌++◌, take}
use Rattle.std.specs.Prelude.{flat_map, decimal, IsSome}
use Rattle.std.specs.List.{position, before_first, after_first, Any}
use Rattle.std.specs.Net.Addr.{ipv4_octets, ipv6_octets}
use Rattle.std.specs.declared.net.ip_addr.IpAddr.{IpAddr}
use Rattle.std.specs.declared.net.ip_addr.IpAddr.TheVariants.{V4, V6}
use Rattle.dns_policy.specs.Address.{IsAddress}
use Rattle.dns_policy.specs.Family.{width}
use Rattle.dns_policy.specs.declared.PrefixError.{PrefixError}
use Rattle.dns_policy.specs.declared.PrefixError.TheVariants.{BadPrefix, BadLength}

abbrev pub is_slash : ℕ → Bool
is_slash octet = octet == 47

-- The first `/` ends the address: no address has one.
abbrev pub StatesAddress : List ℕ → IpAddr → Type 0
StatesAddress text a = IsSome (position is_slash text) × IsAddress (before_first is_slash text) a

-- It is followed by a length that the address has bits for: a decimal number without leading zeros.
abbrev pub StatesLength : List ℕ → IpAddr → ℕ → Type 0
StatesLength text a n = (after_first is_slash text ≡ decimal n) × (n ≤ width a)

-- The text is a prefix: this address, this length.
abbrev pub IsPrefix : List ℕ → IpAddr × ℕ → Type 0
IsPrefix text p = StatesAddress text p.0 × StatesLength text p.0 p.1

-- Why a text is no prefix: it has no address and `/`, or else no length.
abbrev pub ExplainsPrefix : List ℕ → PrefixError → Type 0
ExplainsPrefix text BadPrefix = (a : IpAddr) → ¬ (StatesAddress text a)
ExplainsPrefix text BadLength = (a : IpAddr) × StatesAddress text a × ((n : ℕ) → ¬ (StatesLength text a n))

-- The lowest bits of a number, so many, the highest first.
unfoldable pub bits : ℕ → ℕ → List ℕ
bits zero number = []
bits (suc count) number = bits count (number / 2) ++ (number % 2) ∷ []

abbrev pub bits_of : List ℕ → List ℕ
bits_of octets = flat_map (bits 8) octets

-- The prefix covers an address of its family whose leading bits are its own.
abbrev pub Covers : IpAddr × ℕ → IpAddr → Type 0
Covers (V4 p, n) (V4 a) = take n (bits_of (ipv4_octets p)) ≡ take n (bits_of (ipv4_octets a))
Covers (V6 p, n) (V6 a) = take n (bits_of (ipv6_octets p)) ≡ take n (bits_of (ipv6_octets a))
Covers (V4 p, n) (V6 a) = ⊥
Covers (V6 p, n) (V4 a) = ⊥

-- Some prefix covers the address.
abbrev pub IsAllowed : List (IpAddr × ℕ) → IpAddr → Type 0
IsAllowed prefixes a = Any (λ p. Covers p a) prefixes
