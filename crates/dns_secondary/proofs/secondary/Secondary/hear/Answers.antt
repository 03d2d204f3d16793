use Rattle.dns_secondary.proofs.Verdicts.{hears_ok, hears_err}
use Rattle.dns_secondary.proofs.secondary.Secondary.hear.Goals as goal

pub returns-in-Ok-clause-told : goal.returns-in-Ok-clause-told
returns-in-Ok-clause-told g c = hears_ok c.args.self.now c.args.reading.now c.args.octets.now (c.in-Ok.message).message c.apply.result c.apply.new.self c.in-Ok.ensures.read.0 c.in-Ok.ensures.read.1 c.apply.ensures.told

pub returns-in-Ok-clause-refused : goal.returns-in-Ok-clause-refused
returns-in-Ok-clause-refused g c = hears_err c.args.self.now c.args.reading.now c.args.octets.now (c.in-Ok.message).message c.apply.result c.in-Ok.ensures.read.0 c.in-Ok.ensures.read.1 c.apply.ensures.refused
