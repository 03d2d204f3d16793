use Rattle.dns_sockets.specs.DatagramSockets.{AreInOrder}
use Rattle.dns_sockets.specs.Sockets.{datagrams_of}
use Rattle.dns_sockets.proofs.sockets.Sockets+UdpSocket+TcpListener.bind.Given as goal

abbrev pub invariant-loop-address : goal.invariant-loop-address
invariant-loop-address g l = AreInOrder (datagrams_of l.sockets)
