-- A text that is refused is no prefix.
use Rattle.std.proofs.Common.{ℕ, List, subst}
use Rattle.std.specs.declared.net.ip_addr.IpAddr.{IpAddr}
use Rattle.dns_policy.specs.declared.PrefixError.{PrefixError}
use Rattle.dns_policy.specs.declared.PrefixError.TheVariants.{BadPrefix, BadLength}
use Rattle.dns_policy.specs.Prefix.{ExplainsPrefix, IsPrefix, StatesLength}
use Rattle.dns_policy.proofs.Addresses.{address_unique}

pub no_prefix : (text : List ℕ) (e : PrefixError) → ExplainsPrefix text e → (p : IpAddr × ℕ) → IsPrefix text p → ⊥
no_prefix text BadPrefix why p h = why p.0 h.0
no_prefix text BadLength why p h = why.2 p.1 (subst (λ (a : IpAddr). StatesLength text a p.1) (address_unique _ p.0 why.0 h.0.1 why.1.1) h.1)
