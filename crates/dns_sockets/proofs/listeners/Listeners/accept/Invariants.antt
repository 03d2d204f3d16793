use Rattle.std.proofs.Common.{None}
use Rattle.dns_sockets.specs.Listeners.{HaveAccepted, listeners_of}
use Rattle.dns_sockets.proofs.listeners.Listeners.accept.Given as goal

abbrev pub invariant-loop-listener : goal.invariant-loop-listener
invariant-loop-listener g l = HaveAccepted g.L.ListenerCalls None (listeners_of l.fn.self) (listeners_of l.self)
