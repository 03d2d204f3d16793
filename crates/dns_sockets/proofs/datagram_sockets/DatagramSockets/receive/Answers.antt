use Rattle.std.proofs.Common.{[], Some}
use Rattle.dns_sockets.proofs.Brought.{brought_on, have_on, none_have}
use Rattle.dns_sockets.proofs.datagram_sockets.DatagramSockets.receive.Goals as goal

pub returns-in-Some-clause-came : goal.returns-in-Some-clause-came
returns-in-Some-clause-came g c = brought_on g.C.DatagramCalls (Some _) _ _ _ c.loop-socket.invariant c.in-Some.ensures.came

pub loop-socket-init : goal.loop-socket-init
loop-socket-init g c = none_have g.C.DatagramCalls _

pub loop-socket-preserved : goal.loop-socket-preserved
loop-socket-preserved g c = have_on g.C.DatagramCalls [] [] _ _ _ c.loop-socket.invariant c.in_default.ensures.came
