use Rattle.std.proofs.Common.{Some, sym, ap, rules}
use Rattle.dns_policy.proofs.Addresses.{address_unique, ipv4_read, ipv4_unread, ipv6_read, ipv6_unread}
use Rattle.std.specs.declared.net.ip_addr.IpAddr.{IpAddr as StatedIp}
use Rattle.std.specs.declared.net.ip_addr.IpAddr.TheVariants.{V4, V6}
use Rattle.dns_policy.specs.Address.{IsAddress}
use Rattle.dns_policy.proofs.text.address.Goals as goal

pub returns-in-Ok-clause-only : goal.returns-in-Ok-clause-only
returns-in-Ok-clause-only c = λ a h. ap Some (address_unique _ _ a c.in-Ok.ensures h)

pub returns-in-Ok-parse_ascii-clause-only : goal.returns-in-Ok-parse_ascii-clause-only
returns-in-Ok-parse_ascii-clause-only c = λ a h. ap Some (address_unique _ _ a (search rules) h)

-- no text of either form
pub returns-in-Err-clause-only : goal.returns-in-Err-clause-only
returns-in-Err-clause-only c = λ a h. absurd (none a h)
  where
    none : (a : StatedIp) → IsAddress c.args.text.now a → ⊥
    none (V4 a) h = c.in_default.ensures a h
    none (V6 a) h = c.in-Err.ensures a (h.1)

pub returns-in-Ok-clause-ipv4 : goal.returns-in-Ok-clause-ipv4
returns-in-Ok-clause-ipv4 c = sym (ipv4_read _ _ c.in-Ok.ensures)

pub returns-then-contains-clause-ipv4 : goal.returns-then-contains-clause-ipv4
returns-then-contains-clause-ipv4 c = sym (ipv4_unread _ (λ octets h. c.in_default.ensures (record { octets = octets }) h))

pub returns-in-Ok-parse_ascii-clause-ipv4 : goal.returns-in-Ok-parse_ascii-clause-ipv4
returns-in-Ok-parse_ascii-clause-ipv4 c = sym (ipv4_unread _ (λ octets h. c.in_default.ensures (record { octets = octets }) h))

pub returns-in-Ok-parse_ascii-clause-ipv6 : goal.returns-in-Ok-parse_ascii-clause-ipv6
returns-in-Ok-parse_ascii-clause-ipv6 c = sym (ipv6_read _ _ (search rules) c.in-Ok-parse_ascii.ensures)

pub returns-in-Err-clause-ipv4 : goal.returns-in-Err-clause-ipv4
returns-in-Err-clause-ipv4 c = sym (ipv4_unread _ (λ octets h. c.in_default.ensures (record { octets = octets }) h))

pub returns-in-Err-clause-ipv6 : goal.returns-in-Err-clause-ipv6
returns-in-Err-clause-ipv6 c = sym (ipv6_unread _ (search rules) (λ segments h. c.in-Err.ensures (record { segments = segments }) h))
