use Rattle.std.proofs.Common.{◌≡◌, ◌++◌, reverse, length}
use Rattle.dns_zoneindex.specs.Entries.{flat}
use Rattle.dns_zoneindex.specs.Children.{AreChildren}
use Rattle.dns_zoneindex.specs.Growth.{from_depth, Rising}
use Rattle.dns_zoneindex.specs.Size.{weight}
use Rattle.dns_zoneindex.proofs.Growth.{AheadOf}
use Rattle.dns_zoneindex.proofs.grow.+grow.Given as goal

abbrev pub decreases-grow : goal.decreases-grow
decreases-grow l = weight (from_depth l.depth l.records.items)

abbrev pub invariant-groups : goal.invariant-groups
invariant-groups l = record {
  whole : from_depth l.depth l.own.items ++ flat (reverse l.nodes.items) ≡ from_depth l.depth l.fn.records.items;
  kept : AreChildren (reverse l.nodes.items);
  ahead : AheadOf (reverse l.nodes.items) (from_depth l.depth l.own.items);
  order : Rising (from_depth l.depth l.own.items);
}

abbrev pub decreases-groups : goal.decreases-groups
decreases-groups l = length l.own.items
