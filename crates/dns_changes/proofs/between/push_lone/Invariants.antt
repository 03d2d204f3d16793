use Rattle.std.proofs.Common.{◌≡◌, ◌++◌, drop}
use Rattle.dns_changes.specs.Change.{only_in}
use Rattle.dns_changes.proofs.between.push_lone.Given as goal

abbrev pub invariant-loop-record : goal.invariant-loop-record
invariant-loop-record l = l.lone.items ++ only_in (drop l.record-index l.records) l.others ≡ l.initial.lone.items ++ only_in l.records l.others
