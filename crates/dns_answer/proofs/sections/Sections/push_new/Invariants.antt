use Rattle.std.proofs.Common.{◌≡◌, ◌<◌, ◌++◌, take}
use Rattle.dns_answer.specs.Added.{record_count}
use Rattle.dns_answer.proofs.sections.Sections.push_new.Given as goal

abbrev pub invariant-loop-stored : goal.invariant-loop-stored
invariant-loop-stored l = record {
  answer : l.self.answer.items ≡ l.initial.self.answer.items;
  authority : l.self.authority.items ≡ l.initial.self.authority.items;
  additional : l.self.additional.items ≡ l.initial.self.additional.items ++ take l.stored-index l.records;
  idle : l.most < record_count l.initial.self → l.stored-index ≡ 0;
}
