use Rattle.dns_zone.specs.Ancestry.{tied_same}
use Rattle.dns_update.proofs.effect.is_same.Goals as goal

pub returns : goal.returns
returns c = tied_same c.is.result c.args.name.now c.args.other.now c.is.ensures.0 c.is.ensures.1
