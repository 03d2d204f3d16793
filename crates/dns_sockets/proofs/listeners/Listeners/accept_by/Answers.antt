use Rattle.dns_sockets.proofs.Accepted.{none_accepted, there, turned_into}
use Rattle.dns_sockets.proofs.listeners.Listeners.accept_by.Goals as goal

pub returns-in_err-local : goal.returns-in_err-local
returns-in_err-local g c = rw c.from_residual.ensures (none_accepted g.L.ListenerCalls _)

pub returns-in_err-get_mut : goal.returns-in_err-get_mut
returns-in_err-get_mut g c = rw c.from_residual-in_err-get_mut.ensures (none_accepted g.L.ListenerCalls _)

pub returns : goal.returns
returns g c =
    there g.L.ListenerCalls _ _ _ _ _ _ c.in_ok-get_mut.ensures.item.3.0 c.in_ok-get_mut.ensures.value (turned_into _ _ _ _ c.try_from.ensures c.in_ok-local.ensures.value) c.accept.ensures
