use Rattle.dns_configuration.proofs.Hosts.{no_host}
use Rattle.dns_configuration.proofs.listening.host.Goals as goal

pub returns-in-None-bracketed_ipv6 : goal.returns-in-None-bracketed_ipv6
returns-in-None-bracketed_ipv6 c = no_host c.args.text.now c.in-None.ensures c.in-None-bracketed_ipv6.ensures
