use Rattle.std.proofs.Common.{[]}
use Rattle.dns_sockets.proofs.Brought.{have_on, none_have}
use Rattle.dns_sockets.proofs.datagram_sockets.DatagramSockets.send_all.Goals as goal

pub loop-index-init : goal.loop-index-init
loop-index-init g c = none_have g.C.DatagramCalls _

pub loop-index-preserved : goal.loop-index-preserved
loop-index-preserved g c = have_on g.C.DatagramCalls [] [] _ _ _ c.loop-index.invariant c.send_all_by.ensures
