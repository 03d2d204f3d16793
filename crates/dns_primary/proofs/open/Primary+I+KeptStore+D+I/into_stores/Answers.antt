use Rattle.dns_primary.specs.Step.{base_moved}
use Rattle.dns_primary.proofs.HandedOut.{event_recoverable, rest_recoverable}
use Rattle.dns_primary.proofs.open.Primary+I+KeptStore+D+I.into_stores.Goals as goal

pub returns-clause-at_rest : goal.returns-clause-at_rest
returns-clause-at_rest g c m event apexes settings kept so =
    rest_recoverable m event g.met.D.Sectors.counts_now g.met.D.Sectors.only_now 0 c.args.self.zones.items c.args.self.pending.items m.zones apexes settings kept.zones_are so

pub returns-clause-within : goal.returns-clause-within
returns-clause-within g c m event before effects apexes settings stepped so =
    let pending = c.args.self.pending.items in
    event_recoverable m event g.met.D.Sectors.counts_now g.met.D.Sectors.only_now (base_moved m event) before.pending.items pending m.zones apexes settings (λ p r e. e) so stepped.honest stepped.any_moment
