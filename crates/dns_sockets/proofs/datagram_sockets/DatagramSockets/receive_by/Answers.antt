use Rattle.dns_sockets.proofs.Brought.{brought_there, none_have}
use Rattle.dns_sockets.proofs.datagram_sockets.DatagramSockets.receive_by.Goals as goal

pub returns-in_err-get_mut-clause-came : goal.returns-in_err-get_mut-clause-came
returns-in_err-get_mut-clause-came g c = rw c.from_residual.ensures (none_have g.C.DatagramCalls _)

pub returns-clause-came : goal.returns-clause-came
returns-clause-came g c =
    brought_there g.C.DatagramCalls _ _ _ _ _ (λ _ _ _ h. h) (λ _ _ _ h. h) c.receive.result _ c.in_ok-get_mut.ensures.item.3.0 c.in_ok-get_mut.ensures.value
    c.receive.ensures.handed c.receive.ensures.none
