use Rattle.dns_sockets.proofs.Passed.{passed_on}
use Rattle.dns_sockets.proofs.udp.UdpDatagramSocket.receive.Goals as goal

pub returns-in-Ok-clause-came : goal.returns-in-Ok-clause-came
returns-in-Ok-clause-came g c = passed_on g.C.DatagramCalls _ _ _ _ _ _ _ c.loop-try.invariant c.in-Ok.ensures.came

pub returns-in-Err-clause-came : goal.returns-in-Err-clause-came
returns-in-Err-clause-came g c = passed_on g.C.DatagramCalls _ _ _ _ _ _ _ c.loop-try.invariant c.in-Err.ensures.none

pub loop-try-preserved : goal.loop-try-preserved
loop-try-preserved g c = passed_on g.C.DatagramCalls _ _ _ _ _ _ _ c.loop-try.invariant c.in-Err.ensures.none
