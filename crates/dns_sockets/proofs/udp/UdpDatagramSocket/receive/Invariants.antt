use Rattle.std.proofs.Common.{[]}
use Rattle.dns_sockets.specs.Udp.{HavePassed}
use Rattle.dns_sockets.proofs.udp.UdpDatagramSocket.receive.Given as goal

abbrev pub invariant-loop-try : goal.invariant-loop-try
invariant-loop-try g l = HavePassed g.C.DatagramCalls [] [] l.initial.self l.self
