use Rattle.dns_records.specs.Types.{Ipv6}
use Rattle.std.proofs.Common.{[], ◌∷◌, refl, sym, ◌∙◌}
use Rattle.dns_records.proofs.Readings.{whole_address}
use Rattle.dns_records.proofs.rdata.RData.as_aaaa.Goals as goal

pub returns : goal.returns
returns c =
    whole_address 28 (Ipv6 ∷ []) c.args.self.now c.octets.result.now c.in_ok-first_chunk.field-0.now refl c.octets.ensures.valid (sym c.rtype.ensures ∙ c.if-rtype-ne-AAAA.false) c.octets.ensures.octets c.in_ok-first_chunk.ensures.cases.same
