use Rattle.std.proofs.Common.{◌≡◌, ◌<◌, length}
use Rattle.dns_network.specs.Datagrams.{HaveCome, arrived_of, leaving_of, socket_of}
use Rattle.dns_network.proofs.datagrams.Datagrams.read_ahead.Given as goal

abbrev pub invariant-loop-datagram : goal.invariant-loop-datagram
invariant-loop-datagram g l =
    HaveCome g.S.DatagramSocket (arrived_of l.self) (socket_of l.fn.self) (socket_of l.self)
    × (0 < length (arrived_of l.self))
    × (leaving_of l.self ≡ leaving_of l.fn.self)
