-- The texts of addresses, as they are computed.
use Rattle.std.proofs.Common.{◌≡◌, ℕ, ◌++◌, List, [], ◌∷◌, false, Some, None, refl, sym, ap, subst, ◌∙◌, arith, lit≤}
use Rattle.std.proofs.NetLemmas.Theorems.{IsIpv4Text_unique, IsIpv6Text_unique}
use Rattle.std.specs.Prelude.{option_map, length, ◌==◌}
use Rattle.std.proofs.lemmas.Bool.Decides.{nat_tests}
use Rattle.std.proofs.lemmas.List.{append-nil}
use Rattle.std.specs.Net.Grammar.{IsDotted, IsColonHex}
use Rattle.std.specs.Net.Addr.{octets_of}
use Rattle.std.specs.Net.Reader.{Read, read_ipv4, read_ipv6, whole_value}
use Rattle.std.proofs.NetLemmas.Ipv4.{read_ipv4_complete, read_ipv4_sound}
use Rattle.std.proofs.NetLemmas.Ipv6.{IsDotted-not_colon_hex, read_ipv6_complete, read_ipv6_sound, EndsGroups-nil}
use Rattle.std.specs.declared.net.ip_addr.IpAddr.{IpAddr}
use Rattle.std.specs.declared.net.ip_addr.IpAddr.TheVariants.{V4, V6}
use Rattle.dns_policy.specs.Address.{IsAddress, has_dot, ipv4_of_text, ipv6_of_text}

pub ipv4_read : (text octets : List ℕ) → IsDotted text octets → ipv4_of_text text ≡ Some octets
ipv4_read text octets h = ap whole_value (ap read_ipv4 (sym (append-nil text)) ∙ read_ipv4_complete text octets [] h (lit≤ tt))

colon_read : (text segments : List ℕ) → IsColonHex text segments → whole_value (read_ipv6 text) ≡ Some segments
colon_read text segments h = ap whole_value (ap read_ipv6 (sym (append-nil text)) ∙ read_ipv6_complete text segments [] h EndsGroups-nil)

pub ipv6_read : (text segments : List ℕ) → has_dot text ≡ false → IsColonHex text segments → ipv6_of_text text ≡ Some (octets_of segments)
ipv6_read text segments none h = rw none (ap (option_map octets_of) (colon_read text segments h))

-- what reads to the end is the whole text
no_whole : (Spells : List ℕ → List ℕ → Type 0) (text : List ℕ) (read : Read (List ℕ)) → ((value rest : List ℕ) → read ≡ Some (value, rest) → (front : List ℕ) × (text ≡ front ++ rest) × Spells front value) → ((value : List ℕ) → Spells text value → ⊥) → whole_value read ≡ None
no_whole Spells text None sound none = refl
no_whole Spells text (Some (value, [])) sound none =
    let found = sound value [] refl in
    absurd (none value (subst (λ (t : List ℕ). Spells t value) (sym (found.1 ∙ append-nil found.0)) found.2))
no_whole Spells text (Some (value, c ∷ rest)) sound none = let more : (length (c ∷ rest) == 0) ≡ false = grind (arith, nat_tests) in rw more refl

pub ipv4_unread : (text : List ℕ) → ((octets : List ℕ) → IsDotted text octets → ⊥) → ipv4_of_text text ≡ None
ipv4_unread text none = no_whole IsDotted text (read_ipv4 text) (λ value rest e. read_ipv4_sound text value rest e) none

pub ipv6_unread : (text : List ℕ) → has_dot text ≡ false → ((segments : List ℕ) → IsColonHex text segments → ⊥) → ipv6_of_text text ≡ None
ipv6_unread text undotted none = rw undotted (ap (option_map octets_of) (no_whole IsColonHex text (read_ipv6 text) (λ value rest e. read_ipv6_sound text value rest e) none))

-- A text is that of one address.
pub address_unique : (text : List ℕ) (a b : IpAddr) → IsAddress text a → IsAddress text b → a ≡ b
address_unique text (V4 a) (V4 b) h k = ap V4 (IsIpv4Text_unique text a b h k)
address_unique text (V4 a) (V6 b) h k = absurd (IsDotted-not_colon_hex text _ _ h (k.1))
address_unique text (V6 a) (V4 b) h k = absurd (IsDotted-not_colon_hex text _ _ k (h.1))
address_unique text (V6 a) (V6 b) h k = ap V6 (IsIpv6Text_unique text a b (h.1) (k.1))
