use Rattle.std.proofs.Common.{◌≡◌, true, length}
use Rattle.dns_zone.specs.Records.{is_ordered, united}
use Rattle.dns_changes.specs.Change.{are_new}
use Rattle.dns_changes.proofs.group.put_each.Given as goal

abbrev pub invariant-names : goal.invariant-names
invariant-names g l =
    let set = g.I.ZoneIndex.records l.set in
    let first = g.I.ZoneIndex.records l.initial.set in
    record {
      order : is_ordered l.rest ≡ true;
      new : are_new set l.rest ≡ are_new first l.come;
      left : are_new first l.come ≡ true → united set l.rest ≡ united first l.come;
    }

abbrev pub decreases-names : goal.decreases-names
decreases-names g l = length l.rest
