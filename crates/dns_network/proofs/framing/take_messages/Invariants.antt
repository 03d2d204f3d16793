use Rattle.std.proofs.Common.{◌≡◌, ◌++◌, length, map, ◌<◌}
use Rattle.std.specs.List.{All, concat}
use Rattle.dns_network.specs.Framed.{pending_length}
use Rattle.dns_network.proofs.framing.take_messages.Given as goal

abbrev pub invariant-messages : goal.invariant-messages
invariant-messages l = record {
  short : All (λ message. length message < 65536) (map (λ m. m.items) l.messages.items);
  whole : l.stream ≡ concat (map pending_length (map (λ m. m.items) l.messages.items)) ++ l.rest;
}

abbrev pub decreases-messages : goal.decreases-messages
decreases-messages l = length l.rest
