use Rattle.std.proofs.Common.{◌≡◌, ℕ, ◌^◌, ◌<◌, length, get_or, sym, subst, rules}
use Rattle.std.specs.declared.net.ip_addr.IpAddr.{IpAddr}
use Rattle.dns_policy.specs.Address.{IsAddress}
use Rattle.dns_policy.specs.Printed.{printed_address}
use Rattle.dns_policy.proofs.PrintedBack.{ipv6_back}
use Rattle.dns_policy.proofs.print.print_address.Goals as goal

pub returns-in-V6-clause-reads_back : goal.returns-in-V6-clause-reads_back
returns-in-V6-clause-reads_back c =
    let segments = c.in-V6.ip.segments in
    let long : length segments ≡ 8 = search rules in
    let each : (k : ℕ) → get_or segments k 0 < 2 ^ 16 = λ k. search rules in
    subst (λ (a : IpAddr). IsAddress (printed_address a) a) (sym c.in-V6.is) (ipv6_back c.in-V6.ip (long, each))
