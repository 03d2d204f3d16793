use Rattle.std.proofs.Common.{◌≤◌, ℕ, List, length, take}
use Rattle.dns_lookup.specs.Lookup.{Found as Stated}
use Rattle.dns_zone.specs.Zone.{Zone}
use Rattle.dns_lookup.specs.Represented.{RepresentAll}
use Rattle.dns_lookup.specs.Lent.{AllLend}
use Rattle.dns_answer.specs.Sections.{records_of, answer_of}
use Rattle.dns_answer.proofs.found_sections.answer_count.Given as goal

abbrev pub invariant-loop-one : goal.invariant-loop-one
invariant-loop-one l = (zones : List Zone) (t : ℕ) (fs : List Stated) → RepresentAll zones fs l.found → AllLend zones t l.found → l.count ≤ length (records_of (answer_of t (take l.one-index fs)))
