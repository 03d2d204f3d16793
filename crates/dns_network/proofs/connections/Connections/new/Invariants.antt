use Rattle.std.proofs.Common.{◌≡◌, replicate, None}
use Rattle.dns_network.proofs.connections.Connections.new.Given as goal

abbrev pub invariant-loop-position : goal.invariant-loop-position
invariant-loop-position g l = l.places.items ≡ replicate l._position None
