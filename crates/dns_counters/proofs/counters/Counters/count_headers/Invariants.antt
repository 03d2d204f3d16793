use Rattle.std.proofs.Common.{◌≡◌, take}
use Rattle.dns_counters.specs.Counters.{with_headers}
use Rattle.dns_counters.proofs.counters.Counters.count_headers.Given as goal

abbrev pub invariant-loop-header : goal.invariant-loop-header
invariant-loop-header l = l.self ≡ with_headers l.fn.self (take l.header-index l.fn.headers)
