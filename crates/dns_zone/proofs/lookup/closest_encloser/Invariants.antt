use Rattle.std.proofs.Common.{◌≡◌, true, length}
use Rattle.dns_names.specs.Name.{under}
use Rattle.dns_zone.specs.Node.{encloser}
use Rattle.dns_zone.proofs.lookup.closest_encloser.Given as goal

abbrev pub invariant-ancestors : goal.invariant-ancestors
invariant-ancestors l = record {
  above : under l.name l.here ≡ true;
  same : encloser l.records l.here ≡ encloser l.records l.name;
}

abbrev pub decreases-ancestors : goal.decreases-ancestors
decreases-ancestors l = length l.here
