use Rattle.dns_sockets.proofs.Brought.{given_to, given_to_none}
use Rattle.dns_sockets.proofs.Carried.{one_carried}
use Rattle.dns_sockets.proofs.datagram_sockets.DatagramSockets.send.Goals as goal

pub returns-in-Some : goal.returns-in-Some
returns-in-Some g c =
    given_to g.C.DatagramCalls _ _ _ _ _ c.in-Some.ensures.item.3.0 c.in-Some.ensures.value c.from.ensures
    (one_carried g.C.DatagramCalls _ (λ _ _ _ h. h) (λ _ _ _ h. h) _ _ _ c.send.ensures.leaving)

pub returns-in_default : goal.returns-in_default
returns-in_default g c = given_to_none g.C.DatagramCalls _ _ _ c.in_default.ensures.item.3 c.from.ensures
