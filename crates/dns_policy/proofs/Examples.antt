-- What some prefixes mean.
use Rattle.std.proofs.Common.{◌≡◌, ℕ, ◌≤◌, ◌<◌, ◌^◌, [], ◌∷◌, codes, decimal, true, false, get_or, refl, ap, arith, ◌∙◌, lit<, lit≤}
use Rattle.std.proofs.lemmas.Fmt.{decimal_injective}
use Rattle.std.specs.declared.net.ip_addr.IpAddr.{IpAddr}
use Rattle.std.specs.declared.net.ip_addr.IpAddr.TheVariants.{V4, V6}
use Rattle.std.specs.Fmt.{digits}
use Rattle.dns_policy.specs.declared.PrefixError.TheVariants.{BadPrefix, BadLength}
use Rattle.dns_policy.specs.Prefix.{bits, Covers, IsPrefix, ExplainsPrefix, StatesLength}

ipv4 : ℕ → ℕ → ℕ → ℕ → IpAddr
ipv4 a b c d = V4 (record { octets = a ∷ b ∷ c ∷ d ∷ [] })

loopback : IpAddr
loopback = V6 (record { segments = 0 ∷ 0 ∷ 0 ∷ 0 ∷ 0 ∷ 0 ∷ 0 ∷ 1 ∷ [] })

last_of_24 : Covers (ipv4 192 0 2 0, 24) (ipv4 192 0 2 255)
unfolding bits ipv4
last_of_24 = refl

behind_24 : Covers (ipv4 192 0 2 0, 24) (ipv4 192 0 3 0) → ⊥
unfolding bits ipv4
behind_24 h = let last : ◌≡◌ {A = ℕ} 0 1 = ap (λ octets. get_or octets 23 0) h in cc

within_an_octet : Covers (ipv4 10 1 2 128, 26) (ipv4 10 1 2 191)
unfolding bits ipv4
within_an_octet = refl

other_family : Covers (ipv4 0 0 0 0, 0) loopback → ⊥
unfolding ipv4 loopback
other_family h = h

a_text : IsPrefix (codes "192.0.2.0/24") (ipv4 192 0 2 0, 24)
unfolding ipv4 digits
a_text = ((refl, record { a = 192; b = 0; c = 2; d = 0; fit = (lit< tt, lit< tt, lit< tt, lit< tt); value = refl; spelled = refl }), (refl, lit≤ tt))

wide : 33 < 2 ^ 64
wide = lit< tt

thirty_three : decimal 33 ≡ codes "33"
unfolding digits
thirty_three = refl

a_length_over : ExplainsPrefix (codes "10.0.0.0/33") BadLength
unfolding ipv4 digits
a_length_over = (ipv4 10 0 0 0, (refl, record { a = 10; b = 0; c = 0; d = 0; fit = (lit< tt, lit< tt, lit< tt, lit< tt); value = refl; spelled = refl }), none)
  where
    none : (n : ℕ) → StatesLength (codes "10.0.0.0/33") (ipv4 10 0 0 0) n → ⊥
    none n h =
        let small : n ≤ 32 = h.1 in
        let equal : 33 ≡ n = decimal_injective 33 n wide (omega (arith, wide)) (thirty_three ∙ h.0) in
        omega arith

no_slash : ExplainsPrefix (codes "10.0.0.0") BadPrefix
no_slash a h = let some : false ≡ true = h.0 in cc
