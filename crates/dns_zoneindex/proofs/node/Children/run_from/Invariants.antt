use Rattle.std.proofs.Common.{List}
use Rattle.dns_records.specs.Record.{Record}
use Rattle.dns_zoneindex.specs.Children.{items}
use Rattle.dns_zoneindex.specs.Entries.{flat}
use Rattle.dns_zoneindex.specs.Lent.{IsLent}
use Rattle.dns_zoneindex.specs.Owned.{path_records}
use Rattle.dns_zoneindex.specs.Size.{children_size}
use Rattle.dns_zoneindex.proofs.node.Children.run_from.Given as goal

abbrev pub invariant-down : goal.invariant-down
invariant-down l =
    (run : List Record) → IsLent (path_records (flat (items l.here))) l.left run → IsLent (path_records (flat (items l.self))) l.position run

abbrev pub decreases-down : goal.decreases-down
decreases-down l = children_size (items l.here)
