-- The texts of addresses, as the data of A and AAAA records have them.
use Rattle.std.specs.Prelude.{◌≡◌, ℕ, ◌==◌, Bool, false, List, Option, Some, None, option_map, if◌then◌else◌}
use Rattle.std.specs.List.{list_any}
use Rattle.std.specs.declared.net.ip_addr.IpAddr.{IpAddr}
use Rattle.std.specs.declared.net.ip_addr.IpAddr.TheVariants.{V4, V6}
use Rattle.std.specs.Net.Addr.{ipv4_octets, ipv6_octets, octets_of}
use Rattle.std.specs.Net.Grammar.{IsIpv4Text, IsIpv6Text}
use Rattle.std.specs.Net.Reader.{read_ipv4, read_ipv6, whole_value}

abbrev pub has_dot : List ℕ → Bool
has_dot text = list_any (λ octet. octet == 46) text

-- Four decimal numbers (RFC 1035 section 3.4.1), or groups of hexadecimal digits (RFC 3596 section 2.4,
-- RFC 4291 section 2.2) with no dotted numbers at their end.
abbrev pub IsAddress : List ℕ → IpAddr → Type 0
IsAddress text (V4 a) = IsIpv4Text text a
IsAddress text (V6 a) = (has_dot text ≡ false) × IsIpv6Text text a

-- The same computed: the octets of a text of either form.
abbrev pub ipv4_of_text : List ℕ → Option (List ℕ)
ipv4_of_text text = whole_value (read_ipv4 text)

abbrev pub ipv6_of_text : List ℕ → Option (List ℕ)
ipv6_of_text text = if has_dot text then None else option_map octets_of (whole_value (read_ipv6 text))

-- The octets of an address of a family.
abbrev pub ipv4_in : IpAddr → Option (List ℕ)
ipv4_in (V4 a) = Some (ipv4_octets a)
ipv4_in (V6 a) = None

abbrev pub ipv6_in : IpAddr → Option (List ℕ)
ipv6_in (V4 a) = None
ipv6_in (V6 a) = Some (ipv6_octets a)
