use Rattle.std.proofs.Common.{◌≡◌, ◌≤◌, ◌-◌, length, take}
use Rattle.dns_names.proofs.octets.same_few.Given as goal

abbrev pub invariant-octets : goal.invariant-octets
invariant-octets l = record {
  within : l.at ≤ length l.octets;
  same : take l.at l.octets ≡ take l.at l.others;
}

abbrev pub decreases-octets : goal.decreases-octets
decreases-octets l = length l.octets - l.at
