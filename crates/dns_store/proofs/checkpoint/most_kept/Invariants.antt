use Rattle.std.proofs.Common.{◌≡◌, ◌+◌}
use Rattle.dns_journal.specs.Bank.{sectors_for}
use Rattle.dns_store.specs.Checkpoint.{newest_sectors}
use Rattle.dns_store.proofs.checkpoint.most_kept.Given as goal

abbrev pub invariant-loop-kept : goal.invariant-loop-kept
invariant-loop-kept l = l.left + newest_sectors sectors_for l.changes l.kept ≡ l.room
