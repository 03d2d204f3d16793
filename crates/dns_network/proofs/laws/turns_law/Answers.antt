use Rattle.dns_network.proofs.Running.{turns_run}
use Rattle.dns_network.proofs.laws.turns_law.Goals as goal

pub returns : goal.returns
returns g c = turns_run g.S.Stream g.N.Network g.L.Observer (λ x k kept honest c left. g.met.D.ZoneStore.at_rest x k kept honest c left)
