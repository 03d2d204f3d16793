use Rattle.std.proofs.Common.{◌≡◌, ◌-◌, ◌≤◌, length, drop}
use Rattle.dns_masterfile.specs.Pieces.{InComment, pieces_from}
use Rattle.dns_masterfile.proofs.comments.comment_len.Given as goal

abbrev pub invariant-octets : goal.invariant-octets
invariant-octets l = record {
  within : l.len ≤ length l.octets;
  so_far : pieces_from InComment l.octets ≡ pieces_from InComment (drop l.len l.octets);
}

abbrev pub decreases-octets : goal.decreases-octets
decreases-octets l = length l.octets - l.len
