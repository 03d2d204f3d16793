use Rattle.std.specs.declared.net.ip_addr.IpAddr.TheVariants.{V4}
use Rattle.dns_configuration.proofs.listening.ipv4.Goals as goal

pub returns-in_default-2 : goal.returns-in_default-2
returns-in_default-2 c = λ x h. (let found = c.address.ensures.only (V4 x) h in let none = c.in_default.is in absurd cc)
