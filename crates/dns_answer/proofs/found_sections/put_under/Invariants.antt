use Rattle.std.proofs.Common.{◌≡◌, ◌++◌, take}
use Rattle.dns_answer.specs.Sections.{as_owner}
use Rattle.dns_answer.proofs.found_sections.put_under.Given as goal

abbrev pub invariant-loop-record : goal.invariant-loop-record
invariant-loop-record l = l.shown.items ≡ l.initial.shown.items ++ as_owner l.name (take l.record-index l.records)
