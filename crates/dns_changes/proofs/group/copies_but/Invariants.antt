use Rattle.std.proofs.Common.{◌≡◌, ◌++◌, drop}
use Rattle.dns_changes.specs.Change.{removed_from}
use Rattle.dns_changes.proofs.group.copies_but.Given as goal

abbrev pub invariant-loop-record : goal.invariant-loop-record
invariant-loop-record l = l.kept.items ++ removed_from (drop l.record-index l.records) l.others ≡ removed_from l.records l.others
