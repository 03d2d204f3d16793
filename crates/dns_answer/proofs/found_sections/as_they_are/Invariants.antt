use Rattle.std.proofs.Common.{◌≡◌, take}
use Rattle.dns_answer.proofs.found_sections.as_they_are.Given as goal

abbrev pub invariant-loop-record : goal.invariant-loop-record
invariant-loop-record l = l.shown.items ≡ take l.record-index l.records
