use Rattle.dns_configuration.proofs.Hosts.{between}
use Rattle.dns_configuration.proofs.listening.bracketed_ipv6.Goals as goal

pub returns-in-Some : goal.returns-in-Some
returns-in-Some c = between c.args.text.now c.in-Some.inner.now c.ipv6.result c.in-Some.ensures c.ipv6.ensures
