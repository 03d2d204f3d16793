use Rattle.dns_fetch.proofs.Carried.{IsHearing}
use Rattle.dns_fetch.proofs.taking_in.read_answer.Given as goal

abbrev pub invariant-pieces : goal.invariant-pieces
invariant-pieces g l = IsHearing g.S.Stream l.initial.stream l.initial.secondary l.framing l.stream l.idle l.secondary
