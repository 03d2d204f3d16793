use Rattle.std.proofs.Common.{refl}
use Rattle.dns_sockets.proofs.Accepted.{none_accepted}
use Rattle.dns_sockets.proofs.sockets.SocketsNetworkSocket.may_accept.Goals as goal

pub returns-clause-none : goal.returns-clause-none
returns-clause-none g c = λ _. (refl, none_accepted g.L.ListenerCalls _)
