use Rattle.std.proofs.Common.{sym, ◌∙◌}
use Rattle.dns_zone.proofs.OneSoa.{zone_soa, has_soa_at}
use Rattle.dns_zone.proofs.zone.Zone.soa.Goals as goal

pub soa_of-requires : goal.soa_of-requires
soa_of-requires g c = has_soa_at _ _ _ _ (sym (c.lend.ensures ∙ c.apex.ensures.name)) (sym c.index.ensures) (zone_soa c.args.self.now c.apex.ensures.valid)
