use Rattle.std.proofs.Common.{drop}
use Rattle.dns_records.proofs.Joined.{Joined}
use Rattle.dns_records.proofs.rdata.RData.txt.Given as goal

abbrev pub invariant-loop-string : goal.invariant-loop-string
invariant-loop-string l = Joined (λ s. s.now) l.octets.items (drop l.string-index l.strings) l.strings
