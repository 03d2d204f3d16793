use Rattle.dns_sockets.proofs.Accepted.{one_come}
use Rattle.dns_sockets.proofs.listeners.Listener.accept.Goals as goal

pub returns-in-Ok : goal.returns-in-Ok
returns-in-Ok g c = (c.peer_of.ensures.local_is, one_come g.L.ListenerCalls _ _ _ _ _ _ c.in-Ok.ensures c.peer_of.ensures)
