use Rattle.std.proofs.Common.{refl, rules}
use Rattle.dns_records.specs.Types.{Ipv4}
use Rattle.dns_records.proofs.rdata.RData.a.Goals as goal

pub of_address-requires-clause-form : goal.of_address-requires-clause-form
of_address-requires-clause-form c = (Ipv4, refl, search rules)
