use Rattle.std.proofs.Common.{refl, rules}
use Rattle.dns_records.specs.Types.{Ipv6}
use Rattle.dns_records.proofs.rdata.RData.aaaa.Goals as goal

pub of_address-requires-clause-form : goal.of_address-requires-clause-form
of_address-requires-clause-form c = (Ipv6, refl, search rules)
