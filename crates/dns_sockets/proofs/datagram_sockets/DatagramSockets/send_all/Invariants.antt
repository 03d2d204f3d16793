use Rattle.std.proofs.Common.{[]}
use Rattle.dns_sockets.specs.DatagramSockets.{HaveCarried, sockets_of}
use Rattle.dns_sockets.proofs.datagram_sockets.DatagramSockets.send_all.Given as goal

abbrev pub invariant-loop-index : goal.invariant-loop-index
invariant-loop-index g l = HaveCarried g.C.DatagramCalls [] [] (sockets_of l.fn.self) (sockets_of l.self)
