use Rattle.std.proofs.Common.{refl}
use Rattle.dns_sockets.proofs.Accepted.{none_accepted}
use Rattle.dns_sockets.proofs.sockets.SocketsNetworkSocket.accept.Goals as goal

pub returns-in_err-ok : goal.returns-in_err-ok
returns-in_err-ok g c = (refl, rw c.from_residual.ensures (none_accepted g.L.ListenerCalls _))

pub returns-in_err-stream : goal.returns-in_err-stream
returns-in_err-stream g c = (refl, rw c.from_residual-in_err-stream.ensures c.in_err-stream.ensures)

pub returns : goal.returns
returns g c = (refl, rw c.new.ensures c.in_ok-stream.ensures)
