-- Addresses in print.
use Rattle.std.specs.Prelude.{ℕ, false, List, [], ◌∷◌, ◌++◌, flat_map}
use Rattle.std.specs.Fmt.{digits}
use Rattle.std.specs.Net.Addr.{ipv4_octets, ipv6_segments}
use Rattle.std.specs.Net.Text.{ipv4_text}
use Rattle.std.specs.declared.net.ip_addr.IpAddr.{IpAddr}
use Rattle.std.specs.declared.net.ip_addr.IpAddr.TheVariants.{V4, V6}

-- A group of an IPv6 address: hexadecimal digits in lower case, without leading zeros.
abbrev pub printed_group : ℕ → List ℕ
printed_group segment = digits 16 false segment

abbrev pub further_groups : List ℕ → List ℕ
further_groups segments = flat_map (λ s. 58 ∷ printed_group s) segments

-- Groups with colons between them.
abbrev pub printed_groups : List ℕ → List ℕ
printed_groups [] = []
printed_groups (segment ∷ rest) = printed_group segment ++ further_groups rest

-- Four decimal numbers, or eight groups of which none is left out.
abbrev pub printed_address : IpAddr → List ℕ
printed_address (V4 a) = ipv4_text (ipv4_octets a)
printed_address (V6 a) = printed_groups (ipv6_segments a)
