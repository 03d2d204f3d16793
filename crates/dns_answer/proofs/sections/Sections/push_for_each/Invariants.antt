use Rattle.std.proofs.Common.{take}
use Rattle.std.specs.List.{flat_map}
use Rattle.dns_answer.specs.Sections.{from_zone, addresses_for}
use Rattle.dns_answer.specs.Added.{AddsUpTo}
use Rattle.dns_answer.specs.Known.{AreHosts}
use Rattle.dns_answer.proofs.sections.Sections.push_for_each.Given as goal

abbrev pub invariant-loop-stored : goal.invariant-loop-stored
invariant-loop-stored g l = record {
  added : AddsUpTo l.most l.initial.self l.self (flat_map addresses_for (from_zone l.zone (take l.stored-index l.records)));
  hosts : AreHosts l.most l.zone l.owners l.known l.self;
}
