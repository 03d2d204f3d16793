use Rattle.std.proofs.Common.{take, drop, ap, ◌∙◌}
use Rattle.dns_network.proofs.ReadAhead.{one_less}
use Rattle.dns_network.proofs.datagrams.Queue.skip.Goals as goal

pub returns-then-self : goal.returns-then-self
returns-then-self c = one_less (take c.self.inside.end c.self.inside.places.items) c.self.inside.done ∙ ap (drop 1) c.self.view_is
