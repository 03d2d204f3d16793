use Rattle.std.proofs.Common.{length}
use Rattle.dns_changes.proofs.Entries.{IsRead}
use Rattle.dns_store.proofs.records.read_records.Given as goal

abbrev pub invariant-records : goal.invariant-records
invariant-records l = IsRead l.octets l.records.items l.rest

abbrev pub decreases-records : goal.decreases-records
decreases-records l = length l.rest
