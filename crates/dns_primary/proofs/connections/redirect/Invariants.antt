use Rattle.std.proofs.Common.{◌≡◌, ◌++◌, map, take, drop}
use Rattle.dns_primary.specs.declared.event.Waiting.{Waiting}
use Rattle.dns_primary.specs.Connections.{without_connection}
use Rattle.dns_primary.proofs.connections.redirect.Given as goal

abbrev pub invariant-loop-one : goal.invariant-loop-one
invariant-loop-one l =
    l.waiting ≡ map (λ (w : Waiting). record w { to = without_connection l.number w.to }) (take l.one-index l.initial.waiting) ++ drop l.one-index l.initial.waiting
