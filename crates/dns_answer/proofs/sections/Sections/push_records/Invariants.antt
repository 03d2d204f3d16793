use Rattle.std.proofs.Common.{take}
use Rattle.dns_answer.specs.Added.{AddsUpTo}
use Rattle.dns_answer.proofs.sections.Sections.push_records.Given as goal

abbrev pub invariant-loop-stored : goal.invariant-loop-stored
invariant-loop-stored l = AddsUpTo l.most l.initial.self l.self (take l.stored-index l.records)
