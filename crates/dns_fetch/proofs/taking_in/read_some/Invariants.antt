use Rattle.std.proofs.Common.{[]}
use Rattle.dns_fetch.specs.TakingIn.{HasExchanged}
use Rattle.dns_fetch.proofs.taking_in.read_some.Given as goal

abbrev pub invariant-reads : goal.invariant-reads
invariant-reads g l = HasExchanged g.S.Stream l.initial.stream [] [] l.stream
