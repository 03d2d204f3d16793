use Rattle.std.proofs.Common.{◌≡◌, ◌++◌, drop}
use Rattle.std.specs.List.{flat_map}
use Rattle.dns_changes.specs.Change.{only_in}
use Rattle.dns_changes.proofs.Touched.{lone_of}
use Rattle.dns_changes.proofs.between.only_in.Given as goal

abbrev pub invariant-loop-name : goal.invariant-loop-name
invariant-loop-name g l =
    let set = g.I.ZoneIndex.records l.set in
    let other = g.I.ZoneIndex.records l.other in
    l.lone.items ++ flat_map (lone_of set other) (drop l.name-index l.names) ≡ only_in set other
