use Rattle.std.proofs.Common.{map, take}
use Rattle.dns_network.specs.Datagrams.{HaveGone, stands_in}
use Rattle.dns_network.proofs.datagrams.Queue.send.Given as goal

abbrev pub invariant-loop-datagram : goal.invariant-loop-datagram
invariant-loop-datagram g l = HaveGone g.S.DatagramSocket (map stands_in (take l.datagram-index l.datagram-items)) l.initial.socket l.socket
