use Rattle.dns_configuration.proofs.Listened.{no_only}
use Rattle.dns_configuration.proofs.listening.single.Goals as goal

pub returns-in_default : goal.returns-in_default
returns-in_default c = λ found h. no_only c.args.text.now found.items c.in_default.ensures h
