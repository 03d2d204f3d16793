use Rattle.std.proofs.Common.{◌≡◌, ◌+◌, ◌≤◌, ◌^◌, length}
use Rattle.dns_masterfile.specs.Pieces.{pieces_of}
use Rattle.dns_masterfile.specs.Left.{left_from}
use Rattle.dns_masterfile.proofs.scanner.Scanner.next.Given as goal

abbrev pub invariant-pieces : goal.invariant-pieces
invariant-pieces l = record {
  left : left_from l.inside l.line (pieces_of l.rest) ≡ l.self;
  within : l.line + length l.rest ≤ 2 ^ 63;
}

abbrev pub decreases-pieces : goal.decreases-pieces
decreases-pieces l = length l.rest
