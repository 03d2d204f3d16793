-- Addresses in text, as a listener has them.
use Rattle.std.proofs.Common.{◌≡◌, ℕ, List, [], ◌∷◌, ◌++◌, Option, Some, None, sym, subst, ◌∙◌}
use Rattle.std.proofs.lemmas.List.{append_cancel_right}
use Rattle.std.specs.declared.net.ip_addr.IpAddr.{IpAddr}
use Rattle.std.specs.declared.net.ip_addr.IpAddr.TheVariants.{V4, V6}
use Rattle.std.specs.declared.net.ipv4_addr.Ipv4Addr.{Ipv4Addr}
use Rattle.std.specs.declared.net.ipv6_addr.Ipv6Addr.{Ipv6Addr}
use Rattle.dns_policy.specs.Address.{IsAddress}
use Rattle.dns_configuration.specs.Settings.{FindsIfAny, IsHost}

-- Nothing is found.
pub found_none : {A : Type 0} (P : A → Type 0) (o : Option A) → o ≡ None → ((x : A) → P x → ⊥) → FindsIfAny P o
found_none P None e none = none
found_none P (Some x) e none = absurd cc

-- A text of neither form is no host.
pub no_host : (text : List ℕ) → ((a : Ipv4Addr) → IsHost text (V4 a) → ⊥) → ((a : Ipv6Addr) → IsHost text (V6 a) → ⊥) → (a : IpAddr) → IsHost text a → ⊥
no_host text four six (V4 a) h = four a h
no_host text four six (V6 a) h = six a h

-- What is between brackets is one text.
inner_same : (text xs ys : List ℕ) → text ≡ 91 ∷ xs ++ 93 ∷ [] → text ≡ 91 ∷ ys ++ 93 ∷ [] → xs ≡ ys
inner_same text xs ys e f = append_cancel_right xs ys (93 ∷ []) (tails (xs ++ 93 ∷ []) (ys ++ 93 ∷ []) (sym e ∙ f))
  where
    tails : (a b : List ℕ) → 91 ∷ a ≡ 91 ∷ b → a ≡ b
    tails a b e = cc

pub between : (text inner : List ℕ) (o : Option Ipv6Addr) → text ≡ 91 ∷ inner ++ 93 ∷ [] → FindsIfAny (λ a. IsAddress inner (V6 a)) o → FindsIfAny (λ a. IsHost text (V6 a)) o
between text inner None e none = λ a h. none a (subst (λ (t : List ℕ). IsAddress t (V6 a)) (inner_same text h.0 inner h.1 e) h.2)
between text inner (Some a) e h = (inner, e, h)
