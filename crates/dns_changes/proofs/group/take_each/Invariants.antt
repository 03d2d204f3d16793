use Rattle.std.proofs.Common.{◌≡◌, true, length}
use Rattle.dns_zone.specs.Records.{is_ordered}
use Rattle.dns_changes.specs.Change.{are_present, removed_from}
use Rattle.dns_changes.proofs.group.take_each.Given as goal

abbrev pub invariant-names : goal.invariant-names
invariant-names g l =
    let set = g.I.ZoneIndex.records l.set in
    let first = g.I.ZoneIndex.records l.initial.set in
    record {
      order : is_ordered l.rest ≡ true;
      present : are_present set l.rest ≡ are_present first l.gone;
      left : removed_from set l.rest ≡ removed_from first l.gone;
    }

abbrev pub decreases-names : goal.decreases-names
decreases-names g l = length l.rest
