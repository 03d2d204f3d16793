use Rattle.dns_configuration.proofs.Ports.{parted}
use Rattle.dns_configuration.proofs.listening.split_at_last_colon.Goals as goal

pub returns : goal.returns
returns c = parted c.args.text.now c.rsplit_once.result c.rsplit_once.ensures.cases
