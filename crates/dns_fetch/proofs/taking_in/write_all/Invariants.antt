use Rattle.dns_fetch.proofs.Carried.{IsWriting}
use Rattle.dns_fetch.proofs.taking_in.write_all.Given as goal

abbrev pub invariant-writes : goal.invariant-writes
invariant-writes g l = IsWriting g.S.Stream l.initial.stream l.initial.outbox l.stream l.outbox
