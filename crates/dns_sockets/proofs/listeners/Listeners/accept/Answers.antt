use Rattle.std.proofs.Common.{Some, None}
use Rattle.dns_sockets.proofs.Accepted.{accepted_after, none_accepted}
use Rattle.dns_sockets.proofs.listeners.Listeners.accept.Goals as goal

pub loop-listener-init : goal.loop-listener-init
loop-listener-init g c = none_accepted g.L.ListenerCalls _

pub returns-in-Some : goal.returns-in-Some
returns-in-Some g c = accepted_after g.L.ListenerCalls (Some _) _ _ _ c.loop-listener.invariant c.in-Some.ensures

pub loop-listener-preserved : goal.loop-listener-preserved
loop-listener-preserved g c = accepted_after g.L.ListenerCalls None _ _ _ c.loop-listener.invariant c.in_default.ensures
