use Rattle.std.proofs.Common.{◌≡◌, ◌≤◌, ◌-◌, length, take}
use Rattle.dns_names.proofs.octets.same_octets.Given as goal

abbrev pub invariant-words : goal.invariant-words
invariant-words l = record {
  within : l.at ≤ length l.octets;
  same : take l.at l.octets ≡ take l.at l.others;
}

abbrev pub decreases-words : goal.decreases-words
decreases-words l = length l.octets - l.at
