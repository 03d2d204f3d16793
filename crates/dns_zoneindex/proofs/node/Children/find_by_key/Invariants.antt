use Rattle.std.proofs.Common.{◌≡◌, drop}
use Rattle.dns_zoneindex.specs.Children.{items}
use Rattle.dns_zoneindex.specs.Assoc.{child_of}
use Rattle.dns_zone.specs.Keys.{IsKey}
use Rattle.dns_zoneindex.proofs.node.Children.find_by_key.Given as goal

abbrev pub invariant-down : goal.invariant-down
invariant-down l = (child_of l.label (items l.here) ≡ child_of l.label (items l.self)) × IsKey l.rest_key (drop l.after l.label)
