use Rattle.std.proofs.Common.{◌≡◌, ◌-◌, ◌≤◌, length, take, drop}
use Rattle.dns_masterfile.specs.Pieces.{InWord, pieces_from}
use Rattle.dns_masterfile.specs.Steps.{grown_by}
use Rattle.dns_masterfile.proofs.words.bare_len.Given as goal

abbrev pub invariant-steps : goal.invariant-steps
invariant-steps l = record {
  within : l.len ≤ length l.octets;
  so_far : pieces_from InWord l.octets ≡ grown_by (take l.len l.octets) (pieces_from InWord (drop l.len l.octets));
}

abbrev pub decreases-steps : goal.decreases-steps
decreases-steps l = length l.octets - l.len
