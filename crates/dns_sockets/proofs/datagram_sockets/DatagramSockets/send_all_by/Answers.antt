use Rattle.dns_sockets.proofs.Brought.{none_have, nothing_given}
use Rattle.dns_sockets.proofs.Carried.{all_carried}
use Rattle.dns_sockets.proofs.datagram_sockets.DatagramSockets.send_all_by.Goals as goal

pub returns-in-Some : goal.returns-in-Some
returns-in-Some g c =
    nothing_given g.C.DatagramCalls _ _ _ _ _ (none_have g.C.DatagramCalls _) c.in-Some.ensures.item.3.0 c.in-Some.ensures.value
    (all_carried g.C.DatagramCalls _ (λ _ _ _ h. h) (λ _ _ _ h. h) _ _ c.send_all.ensures)

pub returns-in_default : goal.returns-in_default
returns-in_default g c = none_have g.C.DatagramCalls _
