use Rattle.std.proofs.Common.{take}
use Rattle.dns_answer.specs.Known.{AreAmong, AreOwners}
use Rattle.dns_answer.proofs.shown_records.put_owners.Given as goal

abbrev pub invariant-loop-one : goal.invariant-loop-one
invariant-loop-one l = record {
  kept : AreAmong l.initial.owners l.owners;
  owners : AreOwners l.owners (take l.one-index l.shown);
}
