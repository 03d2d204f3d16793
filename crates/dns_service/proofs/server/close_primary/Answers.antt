use Rattle.std.proofs.Common.{refl}
use Rattle.dns_service.proofs.server.close_primary.Goals as goal

pub returns : goal.returns
returns g c = (_, rw c.into_stores.ensures.handed_out at c.close_stores.ensures, (refl, c.into_stores.ensures.at_rest))
