use Rattle.std.proofs.Common.{◌≡◌, take}
use Rattle.dns_zone.proofs.laws.Copies.of.Given as goal

abbrev pub invariant-loop-record : goal.invariant-loop-record
invariant-loop-record l = l.items.items ≡ take l.record-index l.records
