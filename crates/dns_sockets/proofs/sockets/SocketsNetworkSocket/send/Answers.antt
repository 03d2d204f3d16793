use Rattle.std.proofs.Common.{[]}
use Rattle.dns_sockets.proofs.Brought.{have_more}
use Rattle.dns_sockets.proofs.sockets.SocketsNetworkSocket.send.Goals as goal

pub returns-then-not-is_still : goal.returns-then-not-is_still
returns-then-not-is_still g c = have_more g.C.DatagramCalls _ [] _ _ _ c.send.ensures c.send_all.ensures
