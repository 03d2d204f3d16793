use Rattle.std.proofs.Common.{ℕ, List, take}
use Rattle.std.specs.List.{flat_map}
use Rattle.dns_lookup.specs.Lookup.{Found as Stated}
use Rattle.dns_lookup.specs.Represented.{RepresentAll}
use Rattle.dns_lookup.specs.Lent.{AllLend}
use Rattle.dns_answer.specs.Sections.{addresses_for, answer_of}
use Rattle.dns_answer.specs.Added.{AddsUpTo}
use Rattle.dns_answer.proofs.sections.Sections.push_for_answers.Given as goal

abbrev pub invariant-loop-one : goal.invariant-loop-one
invariant-loop-one g l = (t : ℕ) (fs : List Stated) → RepresentAll l.zones fs l.found → AllLend l.zones t l.found → AddsUpTo l.most l.initial.self l.self (flat_map addresses_for (answer_of t (take l.one-index fs)))
